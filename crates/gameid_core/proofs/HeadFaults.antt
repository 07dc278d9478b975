-- The first of the tests before the colon that fails is the fault that is read.
use Rattle.gameid_core.specs.Common.{AllByRecursion, BadSize, Bool, Comes, Err, FailsHead, FailsSize, Game, HasSize, HeadRead, IdFault, IsFirstFailed, Lacks, List, NoColon, None, Ok, Result, SeedId, Sides, SizeRange, SizeRead, Some, TooLong, Variant, [], ap, append_assoc, arith, cases_eq, common_steps, cond, drop, eq-eqb, eqb, false, false≢true, get_or, has_hash, head_at, head_of, head_tests, in_range, inl, inr, length, list_any, ltb, ltb-false, ltb-true, max_id, ne_eqb, position, position_or_len, refl, side_at, sides_at, size_of, size_read, size_tests, subst, sym, take, take_at, true, ℕ, ◌++◌, ◌+◌, ◌>>=◌, ◌↔◌, ◌∙◌, ◌∷◌, ◌≡◌, ◌≤◌, ◌⊎◌}
use Rattle.gameid_core.proofs.Reading.{ok_is, taken}
use Rattle.gameid_core.proofs.HeadLaws.{has_size_read, position_at, sides_found}

-- ---- the first that fails

-- what was read tells the first test that fails, or all of them pass
abbrev IsJudged : {A : Type 0} → (IdFault → Type 0) → List IdFault → Result A IdFault → Type 0
IsJudged fails tests (Ok x) = AllByRecursion (λ t. fails t → ⊥) tests
IsJudged fails tests (Err f) = IsFirstFailed fails tests f

-- ---- a size

passed : {A : Type 0} (fails : IdFault → Type 0) (t : IdFault) (tests : List IdFault)
    (r : Result A IdFault) → (fails t → ⊥) → IsJudged fails tests r → IsJudged fails (t ∷ tests) r
passed fails t tests r passes h = grind arith

module _ (game : Game) (text : List ℕ) where
  abbrev Judged : Result SizeRead IdFault → Type 0
  Judged r = IsJudged (FailsSize game text) size_tests r

  sides_fault : {f : IdFault} → sides_at game text ≡ Err f → f ≡ BadSize
  unfolding sides_at side_at
  sides_fault e = grind arith

  -- a text begins with one size at most
  size_is : (s other : Sides) → HasSize game text s → HasSize game text other → s ≡ other
  size_is s other p q = ok_is s other (sym (has_size_read game p) ∙ has_size_read game q)

  no_variant : (s : Sides) → HasSize game text s → length s.rest ≤ 0 → FailsSize game text Variant → ⊥
  no_variant s h none v = grind (arith, size_is v.0 s v.1 h)

  no_range : (s : Sides) → HasSize game text s → in_range game s.w s.h ≡ true → FailsSize game text SizeRange → ⊥
  no_range s h range v = false≢true (sym v.2 ∙ ap (λ (z : Sides). in_range game z.w z.h) (size_is v.0 s v.1 h) ∙ range)

  of_range : (s : Sides) (fits : Bool) → HasSize game text s → length s.rest ≤ 0
      → in_range game s.w s.h ≡ fits
      → Judged (cond fits (Ok (size_read s.w s.h s.x)) (Err SizeRange))
  of_range s true h none e = ((λ no. no s h), (no_variant s h none, (no_range s h e, tt)))
  of_range s false h none e = grind (arith, common_steps, no_variant)

  of_rest : (s : Sides) (more : Bool) → HasSize game text s → ltb 0 (length s.rest) ≡ more
      → Judged (cond more (Err Variant)
      (cond (in_range game s.w s.h) (Ok (size_read s.w s.h s.x)) (Err SizeRange)))
  of_rest s more h e = grind (arith, common_steps, ltb-true, of_range, ltb-false)

  of_sides : (r : Result Sides IdFault) → sides_at game text ≡ r
      → Judged (r >>= (λ s. cond (ltb 0 (length s.rest)) (Err Variant)
      (cond (in_range game s.w s.h) (Ok (size_read s.w s.h s.x)) (Err SizeRange))))
  of_sides (Err f) e = inl (sym (sides_fault e), λ size has. (let bad : taken size ≡ Err f = sym (has_size_read game has) ∙ e in absurd cc))
  of_sides (Ok s) e = of_rest s _ (sides_found game e) refl

  pub size_judged : IsJudged {A = SizeRead} (FailsSize game text) size_tests (size_of game text)
  unfolding size_of
  size_judged = of_sides (sides_at game text) refl

-- ---- where a byte stands

abbrev Split : ℕ → List ℕ → Type 0
Split byte text = (front rest : List ℕ) × (text ≡ front ++ byte ∷ rest) × Lacks byte front

split_here : (byte : ℕ) (text : List ℕ) → Split byte (byte ∷ text)
split_here byte text = ([], text, refl, tt)

split_later : (byte b : ℕ) (text : List ℕ) → (b ≡ byte → ⊥) → Split byte text → Split byte (b ∷ text)
split_later byte b text other s = (b ∷ s.0, s.1, ap (λ (t : List ℕ). b ∷ t) s.2, (other, s.3))

split : (byte : ℕ) (text : List ℕ) → Lacks byte text ⊎ Split byte text
split byte [] = inl tt
split byte (b ∷ text) = grind (arith, split byte text, split_later, split_here byte text, cases_eq b byte)

lacks_front : (byte : ℕ) (xs ys : List ℕ) → Lacks byte (xs ++ ys) → Lacks byte xs
lacks_front byte [] ys h = tt
lacks_front byte (x ∷ xs) ys h = (h.0, lacks_front byte xs ys h.1)

no_byte : (byte : ℕ) (front rest : List ℕ) → Lacks byte (front ++ byte ∷ rest) → ⊥
no_byte byte [] rest h = h.0 refl
no_byte byte (b ∷ front) rest h = no_byte byte front rest h.1

any_lacks : (byte : ℕ) (text : List ℕ) → Lacks byte text → list_any (λ b. eqb b byte) text ≡ false
any_lacks byte [] h = refl
any_lacks byte (b ∷ text) h = rw (ne_eqb b byte h.0, any_lacks byte text h.1) refl

any_has : (byte : ℕ) (front rest : List ℕ) → list_any (λ b. eqb b byte) (front ++ byte ∷ rest) ≡ true
any_has byte [] rest = rw (eq-eqb byte byte refl) refl
any_has byte (b ∷ front) rest = grind (arith, any_has byte front rest)

none_at : (byte : ℕ) (text : List ℕ) → Lacks byte text → position_or_len (λ b. eqb b byte) text ≡ length text
none_at byte [] h = refl
none_at byte (b ∷ text) h = grind (arith, common_steps, ne_eqb, none_at byte text h.1)

position_none : (byte : ℕ) (text : List ℕ) → Lacks byte text → position (λ b. eqb b byte) text ≡ None
position_none byte text h = grind (arith, none_at)

head_byte : {b c : ℕ} {xs ys : List ℕ} → b ∷ xs ≡ c ∷ ys → b ≡ c
head_byte e = ap (λ t. get_or t 0 0) e

-- one byte with no other before it, and the other with none of the one before it, can't both stand in a text
crossed : (byte other : ℕ) → (byte ≡ other → ⊥) → (f g r s : List ℕ) → f ++ byte ∷ r ≡ g ++ other ∷ s → Lacks other f → Lacks byte g → ⊥
crossed byte other apart [] [] r s e lf lg = apart (head_byte e)
crossed byte other apart [] (c ∷ g) r s e lf lg = lg.0 (sym (head_byte e))
crossed byte other apart (b ∷ f) [] r s e lf lg = lf.0 (head_byte e)
crossed byte other apart (b ∷ f) (c ∷ g) r s e lf lg = crossed byte other apart f g r s (ap (drop 1) e) lf.1 lg.1

-- what stands before the first of a byte is one text
front_is : (byte : ℕ) (f g r s : List ℕ) → f ++ byte ∷ r ≡ g ++ byte ∷ s → Lacks byte f → Lacks byte g → f ≡ g
front_is byte [] [] r s e lf lg = refl
front_is byte [] (c ∷ g) r s e lf lg = absurd (lg.0 (sym (head_byte e)))
front_is byte (b ∷ f) [] r s e lf lg = absurd (lf.0 (head_byte e))
front_is byte (b ∷ f) (c ∷ g) r s e lf lg = grind (arith, front_is byte f g r s (ap (drop 1) e) lf.1 lg.1)

-- ---- the part before the colon

module _ (fails other : IdFault → Type 0) where
  abbrev Same : List IdFault → Type 0
  Same tests = AllByRecursion (λ t. fails t ↔ other t) tests

  all_moved : (tests : List IdFault) → Same tests → AllByRecursion (λ t. fails t → ⊥) tests → AllByRecursion (λ t. other t → ⊥) tests
  all_moved [] same h = tt
  all_moved (t ∷ tests) same h = ((λ x. h.0 (same.0.1 x)), all_moved tests same.1 h.1)

  first_moved : (tests : List IdFault) (f : IdFault) → Same tests → IsFirstFailed fails tests f → IsFirstFailed other tests f
  first_moved [] f same h = grind arith
  first_moved (x ∷ xs) f same h = grind (arith, first_moved xs)

  judged_moved : {A B : Type 0} (tests : List IdFault) (g : A → B) (r : Result A IdFault)
      → Same tests → IsJudged fails tests r → IsJudged other tests (r >>= (λ x. Ok (g x)))
  judged_moved tests g r same h = grind (arith, common_steps, all_moved, first_moved)

module _ (game : Game) (text : List ℕ) where
  abbrev fails : IdFault → Type 0
  fails f = FailsHead game text f

  abbrev Behind : Result HeadRead IdFault → Type 0
  Behind r = IsJudged fails (SeedId ∷ NoColon ∷ size_tests) r

  without : Lacks 58 text → Lacks 35 text ⊎ Split 35 text → Behind (cond (has_hash text) (Err SeedId) (Err NoColon))
  without none h1 = grind (arith, common_steps, any_lacks, no_byte, any_has, lacks_front)

  behind : (front rest : List ℕ) → Comes 58 text front rest → Lacks 35 front ⊎ Split 35 front
      → Behind (cond (has_hash front) (Err SeedId)
      (size_of game front >>= (λ size. Ok
      (record { size = size; description = length front + 1 }))))
  behind front rest colon (inl h) =
      let seed : fails SeedId → ⊥ = λ c. crossed 58 35 (λ e. absurd (omega (arith, e))) front c.0 rest c.1 (sym colon.parts ∙ c.2.parts) h c.2.first in
      let same : (t : IdFault)
      → (FailsSize game front t ↔ ((f r : List ℕ) × Comes 58 text f r × FailsSize game f t)) =
      λ t. ((λ x. (front, rest, colon, x)), λ c. subst (λ f. FailsSize game f t) (front_is 58 c.0 front c.1 rest (sym c.2.parts ∙ colon.parts) c.2.first colon.first) c.3) in
      let moved =
      judged_moved (FailsSize game front) fails size_tests
      (λ (size : SizeRead). record { size = size; description = length front + 1 })
      (size_of game front) (same BadSize, (same Variant, (same SizeRange, tt)))
      (size_judged game front) in
      rw (any_lacks 35 front h)
      (passed fails SeedId (NoColon ∷ size_tests) _ seed
      (passed fails NoColon size_tests _
      (λ none. no_byte 58 front rest (subst (Lacks 58) colon.parts none)) moved))
  behind front rest colon (inr s) = grind (arith, common_steps, any_has, append_assoc, lacks_front)

  head_at_judged : Lacks 58 text ⊎ Split 58 text → Behind (head_at game text (position (λ b. eqb b 58) text))
  unfolding head_at
  head_at_judged (inl none) = rw (position_none 58 text none) (without none (split 35 text))
  head_at_judged (inr s) =
      let at : position (λ b. eqb b 58) text ≡ Some (length s.0) =
      ap (position (λ b. eqb b 58)) s.2 ∙ position_at (λ b. eqb b 58) s.0 58 s.1
      (any_lacks 58 s.0 s.3) refl in
      let before : take (length s.0) text ≡ s.0 = ap (take (length s.0)) s.2 ∙ take_at s.0 (58 ∷ s.1) (length s.0) refl in
      rw (at, before) (behind s.0 s.1 (record { parts = s.2; first = s.3 }) (split 35 s.0))

  judged : (over : Bool) → ltb max_id (length text) ≡ over
      → IsJudged fails head_tests
      (cond over (Err TooLong) (head_at game text (position (λ b. eqb b 58) text)))
  judged over e = grind (arith, common_steps, ltb-true, passed, ltb-false, head_at_judged, split)

  pub head_judged : IsJudged {A = HeadRead} (FailsHead game text) head_tests (head_of game text)
  unfolding head_of
  head_judged = judged _ refl

pub size_exact : (game : Game) (text : List ℕ) (f : IdFault) → (size_of game text ≡ Err f) ↔ IsFirstFailed (FailsSize game text) size_tests f
size_exact game text f = grind (arith, common_steps, size_judged)

pub head_exact : (game : Game) (text : List ℕ) (f : IdFault) → (head_of game text ≡ Err f) ↔ IsFirstFailed (FailsHead game text) head_tests f
head_exact game text f = grind (arith, common_steps, head_judged)
