-- The tokens of a text, and how a description is read.
use Rattle.gameid_core.specs.Common.{AllByRecursion, Bool, Cuts, Err, FirstFault, Gives, HasOneReading, IdFault, IsNumeral, IsNumeralModel, IsPlain, List, Ok, Result, TooMany, [], after_digits, all_ascii_digits, and_parts, ap, append_assoc, arith, begins, common_steps, concat, cond, decimal, decimal-digits_value, decimal_by_steps, digits_decimal, digits_front, digits_value-decimal, false, false≢true, fill_end, fill_step, flat_map, inl, inr, is_ascii_digit, is_lead, joins, le-ltb, length, length-append, length-decimal-le, ltb, map, min, nat_tests, numerals_by_fold, reading, refl, rules, stop, subst, suc, sym, true, value, value_after, words, zero, ℕ, ◌%◌, ◌&&◌, ◌*◌, ◌++◌, ◌+◌, ◌-◌, ◌<◌, ◌>>=◌, ◌^◌, ◌↔◌, ◌∙◌, ◌∷◌, ◌≡◌, ◌≤◌, ◌⊎◌}

-- The tokens of a text, and numbers as texts: the digits in front, and the written digits of a number.
pub value_after_ge : (n : ℕ) (ds : List ℕ) → n ≤ value_after n ds
value_after_ge n [] = omega arith
value_after_ge n (d ∷ ds) = omega (arith, value_after_ge (10 * n + (d - 48)) ds)

pub value_turn : (n : ℕ) (ds : List ℕ) → min 1000 (value_after (min n 1000) ds) ≡ min 1000 (value_after n ds)
value_turn n ds = grind (arith, value_after_ge)

pub front_stop : {text : List ℕ} (d : ℕ) (after : List ℕ) → text ≡ d ∷ after → is_ascii_digit d ≡ false → (digits_front text ≡ []) × (after_digits text ≡ text)
front_stop d after e digit = grind arith

pub front_end : {text : List ℕ} → text ≡ [] → (digits_front text ≡ []) × (after_digits text ≡ text)
front_end e = rw e (refl, refl)

pub joins_digit : (b : ℕ) → is_ascii_digit b ≡ true → joins b ≡ true
joins_digit b e = rw e refl

pub words_nil : words [] ≡ []
unfolding words
words_nil = refl

pub words_single : (b : ℕ) (after : List ℕ) → (joins b && begins is_ascii_digit after) ≡ false → words (b ∷ after) ≡ (b ∷ []) ∷ words after
unfolding words
words_single b after e = grind arith

-- a joined byte and the digits after it are one token
words_joined : (b : ℕ) (after : List ℕ) → joins b ≡ true → words (b ∷ after) ≡ (b ∷ digits_front after) ∷ words (after_digits after)
unfolding words
words_joined b [] j = grind (arith, common_steps)
words_joined b (d ∷ after) j = grind (arith, nat_tests, common_steps, words_joined d after)

pub length_front : (text : List ℕ) → length text ≡ length (digits_front text) + length (after_digits text)
length_front [] = refl
length_front (b ∷ after) = grind (arith, length_front after)

pub cuts_joined : (b : ℕ) (after : List ℕ) → joins b ≡ true → Cuts (b ∷ after) (b ∷ digits_front after) (after_digits after)
cuts_joined b after j = grind (arith, common_steps, words_joined, length_front)

pub cuts_single : (b : ℕ) (after : List ℕ) → (joins b && begins is_ascii_digit after) ≡ false → Cuts (b ∷ after) (b ∷ []) after
unfolding words
cuts_single b after e = grind (arith, common_steps)

-- a number in front is the first token
pub cuts_number : (text : List ℕ) → begins is_ascii_digit text ≡ true → Cuts text (digits_front text) (after_digits text)
cuts_number [] e = absurd cc
cuts_number (b ∷ after) e = grind (arith, cuts_joined b after (joins_digit b e))

-- the first token begins as the text does
pub cuts_some : (b : ℕ) (after : List ℕ) → (more rest : List ℕ) × Cuts (b ∷ after) (b ∷ more) rest
cuts_some b after = grind (arith, cuts_joined b after, cuts_single b after)

pub words_first : (b : ℕ) (after : List ℕ) → (words (b ∷ after) ≡ words (b ∷ after)) × ((more rest : List ℕ) × Cuts (b ∷ after) (b ∷ more) rest)
words_first b after = grind (arith, cuts_some)

-- a token is a byte, or a byte that joins digits and the digits
abbrev pub IsWord : List ℕ → Type 0
IsWord [] = ⊥
IsWord (b ∷ more) = (all_ascii_digits more ≡ true) × ((joins b ≡ true) ⊎ (more ≡ []))

pub words_are : (text : List ℕ) → AllByRecursion IsWord (words text)
unfolding words
words_are [] = grind arith
words_are (x ∷ xs) = grind (arith, words_are xs)

pub concat_words : (text : List ℕ) → concat (words text) ≡ text
unfolding words
concat_words [] = refl
concat_words (b ∷ bs) = grind (arith, concat_words bs)

pub numeral_word : (word : List ℕ) → IsWord word → begins is_ascii_digit word ≡ true → IsNumeral word
numeral_word word w d = grind arith

pub alone : (b : ℕ) (more : List ℕ) → IsWord (b ∷ more) → joins b ≡ false → more ≡ []
alone b more w e = grind (arith, common_steps, false≢true)

pub concat_bytes : (text : List ℕ) → concat (map (λ b. b ∷ []) text) ≡ text
concat_bytes [] = refl
concat_bytes (b ∷ bs) = ap (λ (t : List ℕ). b ∷ t) (concat_bytes bs)

pub own : IsNumeralModel (λ ds. all_ascii_digits ds ≡ true) value
own = numerals_by_fold _ (search rules) value_after (search rules)

pub begins_front : (kind : ℕ → Bool) (xs ys : List ℕ) → begins kind xs ≡ true → begins kind (xs ++ ys) ≡ true
begins_front kind xs ys e = grind arith

pub lead_digit : {n : ℕ} → 0 < n → n < 10 → is_lead (48 + n) ≡ true
lead_digit some small = grind arith

pub decimal_leads : (n : ℕ) → n < 2 ^ 64 → 0 < n → begins is_lead (decimal n) ≡ true
decimal_leads n small =
    decimal_by_steps (λ n ds. 0 < n → begins is_lead ds ≡ true) (λ n lt some. lead_digit some lt)
    (λ n ds ge h some. begins_front is_lead ds _ (h (omega arith))) n small

pub lead_is_digit : (b : ℕ) → is_lead b ≡ true → is_ascii_digit b ≡ true
lead_is_digit b e = grind arith

pub value_positive : (b : ℕ) (ds : List ℕ) → 49 ≤ b → 0 < value (b ∷ ds)
value_positive b ds low = grind (arith, common_steps, value_after_ge)

-- the digits in front of a numeral and a text that begins with none
pub front_numeral : (digits rest : List ℕ) → all_ascii_digits digits ≡ true
    → begins is_ascii_digit rest ≡ false → (digits_front (digits ++ rest) ≡ digits)
    × (after_digits (digits ++ rest) ≡ rest)
front_numeral [] [] d other = front_end refl
front_numeral [] (b ∷ rest) d other = front_stop b rest refl other
front_numeral (c ∷ digits) rest d other = grind (arith, nat_tests, common_steps, front_numeral digits rest)

pub digit_front : (num rest : List ℕ) → IsNumeral num → begins is_ascii_digit (num ++ rest) ≡ true
digit_front [] rest h = grind (arith, common_steps)
digit_front (c ∷ digits) rest h = grind (arith, common_steps, and_parts)

pub numeral_cuts : (num rest : List ℕ) → IsNumeral num → begins is_ascii_digit rest ≡ false → Cuts (num ++ rest) num rest
numeral_cuts num rest h other = grind (arith, front_numeral num rest h.digits other, cuts_number (num ++ rest) (digit_front num rest h))

-- a byte that joins digits, and a numeral
pub joined_cuts : (b : ℕ) → joins b ≡ true → (num rest : List ℕ) → IsNumeral num → begins is_ascii_digit rest ≡ false → Cuts (b ∷ (num ++ rest)) (b ∷ num) rest
joined_cuts b j num rest h other = grind (arith, front_numeral, cuts_joined b (num ++ rest) j)

-- a number takes no more digits than it counts
pub length_decimal : (n : ℕ) → n < 2 ^ 64 → 0 < n → length (decimal n) ≤ n
length_decimal n small =
    decimal_by_steps (λ n ds. 0 < n → length ds ≤ n) (λ n lt some. omega arith)
    (λ n ds ge h some. let less = h (omega arith) in
    omega (arith, length-append ds ((48 + n % 10) ∷ []))) n small

pub numeral : (n : ℕ) → n < 2 ^ 64 → IsNumeral (decimal n)
numeral n small = record {
  some = decimal_by_steps (λ n ds. 0 < length ds) (λ n lt. omega arith) (λ n ds ge h. omega (arith, length-append ds ((48 + n % 10) ∷ []))) n small;
  digits = digits_decimal own n small;
}

-- digits without a leading zero are what is written of their value
pub plain_decimal : (num : List ℕ) → IsNumeral num → IsPlain num → value num < 2 ^ 64 → decimal (value num) ≡ num
plain_decimal [] d h small = grind (arith, common_steps)
plain_decimal (b ∷ []) d h small = decimal-digits_value own (b ∷ []) d.digits d.some (λ zero. refl) small
plain_decimal (b ∷ c ∷ more) d h small = decimal-digits_value own (b ∷ c ∷ more) d.digits d.some (λ zero. absurd (h zero)) small

lead_plain : (ds : List ℕ) → begins is_lead ds ≡ true → IsPlain ds
lead_plain ds e = grind arith

pub decimal_plain : (n : ℕ) → n < 2 ^ 64 → IsPlain (decimal n)
decimal_plain zero small = grind (arith, length-decimal-le 1 0)
decimal_plain (suc n) small = grind (arith, common_steps, lead_plain, decimal_leads)

-- what is read of a written number that no digit follows
pub front_decimal : (n : ℕ) (after : List ℕ) → n < 100 → begins is_ascii_digit after ≡ false
    → (digits_front (decimal n ++ after) ≡ decimal n) × (after_digits (decimal n ++ after) ≡ after) × (value (decimal n) ≡ n)
front_decimal n after few other =
    let front = front_numeral (decimal n) after (numeral n (omega arith)).digits other in (front.0, front.1, digits_value-decimal own n (omega arith))

-- Reading a description token by token, for any game: what a step answers, the first fault, and that a text spells one puzzle or has one.

-- the value of a step that was not refused
pub bind_ok : {A B : Type 0} (r : Result A IdFault) (f : A → Result B IdFault) (y : B) → (r >>= f) ≡ Ok y → (x : A) × (r ≡ Ok x) × (f x ≡ Ok y)
bind_ok r f y e = grind arith

-- which way a test went
pub chosen : {A : Type 0} (b : Bool) (x y z : A) → cond b x y ≡ z → ((b ≡ true) × (x ≡ z)) ⊎ ((b ≡ false) × (y ≡ z))
chosen b x y z e = grind arith

abbrev pub taken : {A : Type 0} → A → Result A IdFault
taken x = Ok x

pub ok_is : {A : Type 0} (x y : A) → taken x ≡ taken y → x ≡ y
ok_is x y e = cc

-- a test that refuses let through what was taken, and one that takes took it
pub not_refused : {A : Type 0} (b : Bool) (f : IdFault) {r : Result A IdFault} {x : A} → cond b (Err f) r ≡ Ok x → (b ≡ false) × (r ≡ Ok x)
not_refused b f e = grind arith

pub only_taken : {A : Type 0} (b : Bool) (f : IdFault) {r : Result A IdFault} {x : A} → cond b r (Err f) ≡ Ok x → (b ≡ true) × (r ≡ Ok x)
only_taken b f e = grind arith

-- the place of a rest of the description, which begins at base and has d bytes
abbrev pub place : ℕ → ℕ → List ℕ → ℕ
place base d rest = base + (d - length rest)

module _ {S P : Type 0} (step : ℕ → S → List ℕ → Result S IdFault) (end : S → Result P IdFault) (at : ℕ) (s : S) where
  pub reading_turn : (t : S) (text word after : List ℕ) → Cuts text word after
      → step at s word ≡ Ok t → reading step end at s (words text) ≡ reading step end
      (at + length word) t (words after)
  unfolding reading
  reading_turn t text word after cuts e = grind (arith)

  pub reading_end : (text : List ℕ) → text ≡ [] → reading step end at s (words text) ≡ end s
  unfolding reading words
  reading_end text e = rw e refl

  reading_cons : (word : List ℕ) (words : List (List ℕ))
      → reading step end at s (word ∷ words) ≡ (step at s word
      >>= (λ t. reading step end (at + length word) t words))
  unfolding reading
  reading_cons word words = refl

  reading_nil : reading step end at s [] ≡ end s
  unfolding reading
  reading_nil = refl

module _ {S P : Type 0} (step : ℕ → S → List ℕ → Result S IdFault) (end : S → Result P IdFault) (f : IdFault) where
  -- the token there fails, or the end does
  abbrev FailsAt : ℕ → S → List (List ℕ) → Type 0
  FailsAt at s rest = ((rest ≡ []) × (end s ≡ Err f)) ⊎ ((word : List ℕ) × (more : List (List ℕ)) × (rest ≡ word ∷ more) × (step at s word ≡ Err f))

  later : (at : ℕ) (word : List ℕ) (front : List (List ℕ)) → at + length word + length (concat front) ≡ at + length (word ++ concat front)
  later at word front = grind (arith, length-append)

  pub first_fault : (at : ℕ) (s : S) (words : List (List ℕ)) → reading step end at s words ≡ Err f → FirstFault step end at s words f
  first_fault at s [] e = grind (arith, reading_nil step stop at s, reading_nil step end at s)
  first_fault at s (word ∷ words) e = cases (step at s word) refl (λ t. first_fault (at + length word) t words)
    where
      cases : (r : Result S IdFault) → step at s word ≡ r
          → ((t : S) → reading step end (at + length word) t words ≡ Err f
          → FirstFault step end (at + length word) t words f)
          → FirstFault step end at s (word ∷ words) f
      cases (Err g) q next =
          record {
            front = [];
            rest = word ∷ words;
            parts = refl;
            state = s;
            leads = reading_nil step stop at s;
            fault = inr (word, words, refl, grind (arith, reading_cons step end at s word words));
          }
      cases (Ok t) q next =
          let r = next t (grind (arith, reading_cons step end at s word words)) in
          record {
            front = word ∷ r.front;
            rest = r.rest;
            parts = ap (λ ws. word ∷ ws) r.parts;
            state = r.state;
            leads = grind (arith, reading_cons step stop at s word r.front, r.leads);
            fault = subst (λ k. FailsAt k r.state r.rest) (later at word r.front) r.fault;
          }

  fails_after : (at : ℕ) (s : S) (front rest : List (List ℕ)) (state : S)
      → reading step stop at s front ≡ Ok state → FailsAt (at + length (concat front)) state rest
      → reading step end at s (front ++ rest) ≡ Err f
  unfolding reading
  fails_after at s [] rest state leads fault = grind (arith, reading_nil, reading_cons)
  fails_after at s (word ∷ front) rest state leads fault =
      let b = bind_ok (step at s word) (λ t. reading step stop (at + length word) t front) state leads in
      grind (arith, fails_after (at + length word) b.0 front rest state b.2 (subst (λ k. FailsAt k state rest) (sym (later at word front)) fault))

  pub exactly : (at : ℕ) (s : S) (words : List (List ℕ)) → (reading step end at s words ≡ Err f) ↔ FirstFault step end at s words f
  exactly at s words = (first_fault at s words, (λ h. ap (reading step end at s) h.parts ∙ fails_after at s h.front h.rest h.state h.leads h.fault))

-- what is spelled is read, and what is read is spelled
abbrev pub Again : {P : Type 0} → (List ℕ → P → Type 0) → (List ℕ → Result P IdFault) → Type 0
Again {P} spells of = (text : List ℕ) (p : P) → spells text p → of text ≡ Ok p

abbrev pub Takes : {P : Type 0} → (List ℕ → P → Type 0) → (List ℕ → Result P IdFault) → Type 0
Takes {P} spells of = (text : List ℕ) (p : P) → of text ≡ Ok p → spells text p

pub reading_of : {P : Type 0} (spells : List ℕ → P → Type 0) (of : List ℕ → Result P IdFault) → Again spells of → Takes spells of → HasOneReading spells of
reading_of {P} spells of again takes = record {
  one = λ text p q s t. ok_is p q (sym (again text p s) ∙ again text q t);
  apart = λ text p f s e. (let bad : taken p ≡ Err f = sym (again text p s) ∙ e in absurd cc);
  either = λ text. cases text (of text) refl;
}
  where
    cases : (text : List ℕ) (r : Result P IdFault) → of text ≡ r → ((p : P) × spells text p) ⊎ ((f : IdFault) × (of text ≡ Err f))
    cases text (Ok p) e = inl (p, takes text p e)
    cases text (Err f) e = inr (f, e)

pub only_of : {P : Type 0} (spells : List ℕ → P → Type 0) (of : List ℕ → Result P IdFault)
    → Again spells of → (text : List ℕ) (r : Result P IdFault) → Gives (λ p. p) r (of text)
    → (p : P) → spells text p → Gives (λ q. q) r (Ok p)
only_of {P} spells of again text r gives p s = grind arith

-- a form that only one text has
pub one_text : {P : Type 0} (written : List ℕ → P → Type 0) (write : P → List ℕ)
    → ((text : List ℕ) (p : P) → written text p → text ≡ write p) → (text other : List ℕ) (p : P)
    → written text p → written other p → text ≡ other
one_text written write form text other p v w = grind (arith)

-- Reading a description that fills cells: Solo and Light Up.

-- ---- filling

-- the cells with a token's cells after them, unless they pass the grid's
abbrev pub filled : {A : Type 0} → ℕ → List A → List A → Result (List A) IdFault
filled all cells more = cond (ltb all (length cells + length more)) (Err TooMany) (Ok (cells ++ more))

pub fill_is : {A : Type 0} (token : ℕ → List ℕ → Result (List A) IdFault) (all at : ℕ)
    (cells : List A) (word : List ℕ) (r : Result (List A) IdFault) → token at word ≡ r
    → fill_step token all at cells word ≡ (r >>= filled all cells)
fill_is token all at cells word r e = rw e refl

abbrev pub fills : {A : Type 0} → (ℕ → List ℕ → Result (List A) IdFault) → ℕ → ℕ → List A → List ℕ → Result (List A) IdFault
fills token all at cells text = reading (fill_step token all) (fill_end all) at cells (words text)

-- a token of a filling that was taken
fill_cases : {A : Type 0} (token : ℕ → List ℕ → Result (List A) IdFault) (all at : ℕ)
    (cells : List A) (word : List ℕ) (t : List A) → fill_step token all at cells word ≡ Ok t
    → (more : List A) × (token at word ≡ Ok more) × (cells ++ more ≡ t)
fill_cases token all at cells word t e = grind arith

-- ---- what is read is spelled, and what is spelled is read

module _ {T A : Type 0} (text : T → List ℕ) (cells : T → List A) (Fits : T → Type 0) where
  -- a word that is a token, which stands for those cells
  pub record Token (word : List ℕ) (more : List A) : Type 0 where
    pub token : T
    pub texts : word ≡ text token
    pub each : Fits token
    pub stands : cells token ≡ more

  -- words that are tokens, which stand for all the cells after those before them
  pub record Spelled (ws : List (List ℕ)) (before all : List A) : Type 0 where
    pub tokens : List T
    pub texts : map text tokens ≡ ws
    pub each : AllByRecursion Fits tokens
    pub filled : before ++ flat_map cells tokens ≡ all

  module _ (token : ℕ → List ℕ → Result (List A) IdFault) where
    pub cells_spelled : (Is : List ℕ → Type 0)
        →
        ((at : ℕ)
        (word : List ℕ) (more : List A) → Is word → token at word ≡ Ok more → Token word more)
        → (most at : ℕ) (before : List A) (ws : List (List ℕ)) (all : List A) → AllByRecursion Is ws
        → reading (fill_step token most) (fill_end most) at before ws ≡ Ok all
        → Spelled ws before all × (length all ≡ most)
    unfolding reading
    cells_spelled Is take most at before [] all w e = grind (arith, common_steps)
    cells_spelled Is take most at before (word ∷ ws) all w e =
        let b = bind_ok (fill_step token most at before word) (λ s. reading (fill_step token most) (fill_end most) (at + length word) s ws) all e in
        let f = fill_cases token most at before word b.0 b.1 in
        let t = take at word f.0 w.0 f.1 in
        let r = cells_spelled Is take most (at + length word) b.0 ws all w.1 b.2 in (
          record {
            tokens = t.token ∷ r.0.tokens;
            texts = grind arith;
            each = (t.each, r.0.each);
            filled = grind (arith, append_assoc before (cells t.token) (flat_map cells r.0.tokens));
          },
          r.1,
        )

    -- tokens that fill the grid are read
    pub cells_again : ((at : ℕ) (t : T) → Fits t → token at (text t) ≡ Ok (cells t))
        → (most at : ℕ) (before : List A) (tokens : List T) → AllByRecursion Fits tokens
        → length before + length (flat_map cells tokens) ≡ most
        → reading (fill_step token most) (fill_end most) at before (map text tokens) ≡ Ok
        (before ++ flat_map cells tokens)
    unfolding reading
    cells_again again most at before [] each full = grind (arith, common_steps)
    cells_again again most at before (t ∷ tokens) each full =
        let both = length-append (cells t) (flat_map cells tokens) in
        let so_far = length-append before (cells t) in
        let room : length before + length (cells t) ≤ most = omega arith in
        rw (
          fill_is token most at before (text t) (Ok (cells t)) (again at t each.0),
          le-ltb _ _ room,
        ) (cells_again again most (at + length (text t)) (before ++ cells t)
        tokens each.1 (omega arith) ∙ ap (λ (cs : List A). taken cs)
        (append_assoc before (cells t) (flat_map cells tokens)))
