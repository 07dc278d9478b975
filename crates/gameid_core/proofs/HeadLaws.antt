-- The part of an ID before its colon: what is read is spelled, and what is spelled is read.
use Rattle.gameid_core.specs.Common.{Bool, Err, Game, HasNumber, HasSize, HeadRead, IdFault, IsSizeText, IsSoloSizeText, List, None, Ok, Option, Result, Sides, SizeRange, SizeRead, Some, TooLong, Variant, [], after_digits, all_ascii_digits, and_parts, append_assoc, arith, begins, common_steps, cond, decimal, decimal-digits_value, digits_decimal, digits_front, digits_value-decimal, drop, drop_at, eqb, false, false≢true, has_hash, head_at, head_of, in_range, inl, inr, is_ascii_digit, leb, leb-true, length, length-append, list_any, list_any-append, lt-ltb, ltb, ltb-false, max_id, max_side, nat_tests, position, position-Some, position_or_len, puzzle_read, refl, side_at, sides_at, size_of, size_read, solo_size_text, subst, take, take-append-drop, true, two_sides, value, ℕ, ◌++◌, ◌+◌, ◌<◌, ◌>>=◌, ◌^◌, ◌∷◌, ◌≡◌, ◌≤◌}
use Rattle.gameid_core.specs.declared.id.game.Game.TheVariants.{Solo}
use Rattle.gameid_core.proofs.Reading.{begins_front, bind_ok, decimal_leads, front_numeral, not_refused, ok_is, only_taken, own, place, taken}

-- ---- numbers

pub front_parts : (text : List ℕ) → digits_front text ++ after_digits text ≡ text
front_parts [] = refl
front_parts (b ∷ after) = grind (arith, front_parts after)

pub front_digits : (text : List ℕ) → all_ascii_digits (digits_front text) ≡ true
front_digits [] = refl
front_digits (b ∷ after) = grind (arith, front_digits after)

after_stops : (text : List ℕ) → begins is_ascii_digit (after_digits text) ≡ false
after_stops [] = refl
after_stops (b ∷ after) = grind (arith, after_stops after)

-- a number is what is written of its value
number_decimal : {text : List ℕ} (number : List ℕ) {rest : List ℕ} → HasNumber text number rest → value number < 2 ^ 64 → decimal (value number) ≡ number
number_decimal [] h small = absurd (false≢true h.lead)
number_decimal (b ∷ ds) h small =
    let low : 49 ≤ b = leb-true _ _ (and_parts (leb 49 b) (leb b 57) h.lead).0 in
    decimal-digits_value own (b ∷ ds) h.digits (omega arith) (λ zero. absurd (omega arith)) small

side_read : (text number rest : List ℕ) → HasNumber text number rest → side_at text ≡ Ok (value number, rest)
unfolding side_at
side_read text number rest h = grind (arith, front_numeral)

pub side_again : {n : ℕ} (rest : List ℕ) → n < 2 ^ 64 → 0 < n → begins is_ascii_digit rest ≡ false → side_at (decimal n ++ rest) ≡ Ok (n, rest)
unfolding side_at
side_again rest small some other = grind (arith, begins_front, decimal_leads, front_numeral, digits_decimal, own, digits_value-decimal)

-- ---- both sides

abbrev one_side : ℕ → List ℕ → Sides
one_side a rest = record { w = a; h = a; x = false; rest = rest }

x_first : {text : List ℕ} → begins (λ c. eqb c 120) text ≡ true → text ≡ 120 ∷ drop 1 text
x_first e = grind arith

side_found : (text : List ℕ) {x : ℕ × List ℕ} → side_at text ≡ Ok x → (number : List ℕ) × HasNumber text number x.1 × (value number ≡ x.0)
unfolding side_at
side_found text e = grind (arith, common_steps, false≢true, front_parts, front_digits, after_stops)

-- ---- the size

pub record AreSmallSides (a b : ℕ) : Type 0 where
  pub a_some : 0 < a
  pub b_some : 0 < b
  pub a_small : a ≤ max_side
  pub b_small : b ≤ max_side

-- ---- up to the colon

digits_lack : (k : ℕ) (ds : List ℕ) → is_ascii_digit k ≡ false → all_ascii_digits ds ≡ true → list_any (λ c. eqb c k) ds ≡ false
digits_lack k [] other d = refl
digits_lack k (c ∷ ds) other d = grind (arith, nat_tests, digits_lack k ds other)

pub place_of : (p : ℕ → Bool) (front : List ℕ) (c : ℕ) (rest : List ℕ) → list_any p front ≡ false
    → p c ≡ true → position_or_len p (front ++ c ∷ rest) ≡ length front
place_of p [] c rest none here = rw here refl
place_of p (b ∷ front) c rest none here = grind (arith, nat_tests, place_of p front c rest)

pub position_at : (p : ℕ → Bool) (front : List ℕ) (c : ℕ) (rest : List ℕ) → list_any p front ≡ false
    → p c ≡ true → position p (front ++ c ∷ rest) ≡ Some (length front)
position_at p front c rest none here = grind (arith, common_steps, place_of)

colon_splits : (text : List ℕ) (k : ℕ) → position (λ c. eqb c 58) text ≡ Some k → text ≡ take k text ++ 58 ∷ drop (k + 1) text
colon_splits text k e = grind (arith, common_steps, position-Some (λ c. eqb c 58) text k 0 e, take-append-drop k text)

abbrev described : SizeRead → ℕ → HeadRead
described size place = record { size = size; description = place }

after_front : (front rest : List ℕ) → drop (length front + 1) (front ++ 58 ∷ rest) ≡ rest
after_front front rest = grind (arith, append_assoc front (58 ∷ []) rest, drop_at (front ++ 58 ∷ []) rest (length front + 1) (length-append front (58 ∷ [])))

module _ (game : Game) where
  -- a size that the text begins with is read
  pub has_size_read : {text : List ℕ} {size : Sides} → HasSize game text size → sides_at game text ≡ taken size
  unfolding sides_at
  has_size_read size = grind (arith, common_steps, side_read)

  one_found : (text : List ℕ) (x : ℕ × List ℕ) → side_at text ≡ Ok x → begins (λ c. eqb c 120) x.1 ≡ false → HasSize game text (one_side x.0 x.1)
  one_found text x e alone = grind (arith, common_steps, side_found)

  two_found : (text : List ℕ) (x y : ℕ × List ℕ) → side_at text ≡ Ok x
      → begins (λ c. eqb c 120) x.1 ≡ true → side_at (drop 1 x.1) ≡ Ok y
      → HasSize game text (two_sides game x.0 y.0 y.1)
  two_found text x y e two f = grind (arith, common_steps, side_found, x_first)

  -- and what is read is such a size
  pub sides_found : {text : List ℕ} {size : Sides} → sides_at game text ≡ taken size → HasSize game text size
  unfolding sides_at
  sides_found {text} e = grind (arith, common_steps, one_found, two_found)

  -- a size of the game, with the 'x' of Solo X or without
  abbrev pub IsGameSize : List ℕ → ℕ → ℕ → Bool → Type 0
  IsGameSize front a b false = IsSizeText front a b
  IsGameSize front a b true = (game ≡ Solo) × (front ≡ solo_size_text a b true)

  pub plain_size : {front : List ℕ} (a b : ℕ) (x : Bool) → (game ≡ Solo → ⊥) → IsGameSize front a b x → IsSizeText front a b
  plain_size a b x other s = grind arith

  game_size : (text : List ℕ) {s : Sides} → s.w < 2 ^ 64 → s.h < 2 ^ 64 → length s.rest ≤ 0 → HasSize game text s → IsGameSize text s.w s.h s.x
  game_size text small_w small_h none (inl one) = grind (arith, common_steps, number_decimal)
  game_size text small_w small_h none (inr two) = grind (arith, common_steps, number_decimal two.w_digits two.first, number_decimal two.h_digits two.second)

  pub sides_again : (front : List ℕ) (a b : ℕ) (x : Bool) → a < 2 ^ 64 → b < 2 ^ 64 → 0 < a → 0 < b
      → IsGameSize front a b x → sides_at game front ≡ Ok
      (record { w = a; h = b; x = x; rest = [] })
  unfolding sides_at
  sides_again front a b false small_a small_b some_a some_b (inl e) =
      grind (arith, common_steps, side_again, side_again [] small_b some_b refl)
  sides_again front a b false small_a small_b some_a some_b (inr e) = grind (arith, common_steps, side_again [] small_a some_a refl)
  sides_again front a b true small_a small_b some_a some_b e = grind (arith, common_steps, side_again)

  pub range_small : (a b : ℕ) → in_range game a b ≡ true → AreSmallSides a b
  range_small a b e = grind arith

  pub size_take : (text : List ℕ) (size : SizeRead) → size_of game text ≡ Ok size → IsGameSize text size.w size.h size.x × (in_range game size.w size.h ≡ true)
  unfolding size_of
  size_take text size e =
      let s =
      bind_ok (sides_at game text)
      (λ s. cond (ltb 0 (length s.rest)) (Err Variant)
      (cond (in_range game s.w s.h) (taken (size_read s.w s.h s.x)) (Err SizeRange))) size e in
      let c = not_refused (ltb 0 (length s.0.rest)) _ s.2 in
      let d = only_taken (in_range game s.0.w s.0.h) _ c.1 in
      let small = range_small s.0.w s.0.h d.0 in
      let here = game_size text (omega (arith, small.a_small)) (omega (arith, small.b_small)) (ltb-false _ _ c.0) (sides_found s.1) in
      subst (λ (z : SizeRead). IsGameSize text z.w z.h z.x × (in_range game z.w z.h ≡ true)) (ok_is (size_read s.0.w s.0.h s.0.x) size d.1) (here, d.0)

  pub size_again : (front : List ℕ) (a b : ℕ) (x : Bool) → IsGameSize front a b x → in_range game a b ≡ true → size_of game front ≡ Ok (size_read a b x)
  unfolding size_of
  size_again front a b x text range = grind (arith, range_small, sides_again)

  game_size_lacks : (k : ℕ) (front : List ℕ) (a b : ℕ) (x : Bool) → is_ascii_digit k ≡ false
      → eqb 120 k ≡ false → a < 2 ^ 64 → b < 2 ^ 64 → IsGameSize front a b x
      → list_any (λ c. eqb c k) front ≡ false
  game_size_lacks k front a b x other x' small_a small_b s =
      grind (arith, common_steps, list_any-append, digits_lack, digits_decimal, own)

  pub record IsHead (text : List ℕ) (head : HeadRead) : Type 0 where
    pub front : List ℕ
    pub parts : text ≡ front ++ 58 ∷ drop head.description text
    pub size : IsGameSize front head.size.w head.size.h head.size.x
    pub range : in_range game head.size.w head.size.h ≡ true
    pub short : length text ≤ max_id

  colon_take : (text : List ℕ) (head : HeadRead) (o : Option ℕ) → length text ≤ max_id
      → position (λ c. eqb c 58) text ≡ o → head_at game text o ≡ Ok head → IsHead text head
  unfolding head_at
  colon_take text head None short o e = grind arith
  colon_take text head (Some k) short o e =
      let c = not_refused (has_hash (take k text)) _ e in
      let s = bind_ok (size_of game (take k text)) (λ size. taken (described size (k + 1))) head c.1 in
      let t = size_take (take k text) s.0 s.1 in
      subst (λ (h : HeadRead). IsHead text h) (ok_is (described s.0 (k + 1)) head s.2)
      (record {
        front = take k text;
        parts = colon_splits text k o;
        size = t.0;
        range = t.1;
        short = short;
      })

  pub head_take : {text : List ℕ} {head : HeadRead} → head_of game text ≡ Ok head → IsHead text head
  unfolding head_of
  head_take e = grind (arith, colon_take)

  head_again : (front rest : List ℕ) (a b : ℕ) (x : Bool) → IsGameSize front a b x
      → in_range game a b ≡ true → length (front ++ 58 ∷ rest) ≤ max_id
      → head_of game (front ++ 58 ∷ rest) ≡ Ok
      (record { size = size_read a b x; description = length front + 1 })
  unfolding head_of head_at
  head_again front rest a b x text range short =
      grind (arith, common_steps, range_small a b range, position_at, game_size_lacks 58 front a b x refl refl, game_size_lacks 35 front a b x refl refl, size_again front a b x text range)

  head_too_long : (text : List ℕ) → max_id < length text → head_of game text ≡ Err TooLong
  unfolding head_of
  head_too_long text over = grind (arith, common_steps, lt-ltb)

pub solo_size : (front : List ℕ) (a b : ℕ) (x : Bool) → IsGameSize Solo front a b x → IsSoloSizeText front a b x
solo_size front a b x s = grind arith

pub size_of_solo : (front : List ℕ) (a b : ℕ) (x : Bool) → IsSoloSizeText front a b x → IsGameSize Solo front a b x
size_of_solo front a b x s = grind arith

-- a puzzle that was read: its head, and what its description gave
pub record PartsRead {B P : Type 0} (game : Game) (text : List ℕ) (body : HeadRead → List ℕ → Result B IdFault) (make : HeadRead → B → P) (p : P) : Type 0 where
  pub head : HeadRead
  pub given : B
  pub is_head : IsHead game text head
  pub read : body head (drop head.description text) ≡ Ok given
  pub made : make head given ≡ p

pub parts_of : {B P : Type 0} (game : Game) (text : List ℕ)
    (body : HeadRead → List ℕ → Result B IdFault) (make : HeadRead → B → P) {p : P}
    → puzzle_read game (λ head description. body head description >>= (λ b. taken (make head b)))
    text ≡ Ok p → PartsRead game text body make p
unfolding puzzle_read
parts_of game text body make e = grind (arith, head_take)

-- a size, ':' and a description are read as the description is behind that size
pub puzzle_again : {P : Type 0} (game : Game) (behind : HeadRead → List ℕ → Result P IdFault)
    (front rest : List ℕ) (a b : ℕ) (x : Bool) → IsGameSize game front a b x
    → in_range game a b ≡ true → length (front ++ 58 ∷ rest) ≤ max_id
    → puzzle_read game behind (front ++ 58 ∷ rest) ≡ behind
    (record { size = size_read a b x; description = length front + 1 }) rest
unfolding puzzle_read
puzzle_again game behind front rest a b x size range short = grind (arith, common_steps, head_again, after_front)

pub puzzle_too_long : {P : Type 0} (game : Game) (behind : HeadRead → List ℕ → Result P IdFault)
    (text : List ℕ) → max_id < length text → puzzle_read game behind text ≡ Err TooLong
unfolding puzzle_read
puzzle_too_long game behind text over = rw (head_too_long game text over) refl
