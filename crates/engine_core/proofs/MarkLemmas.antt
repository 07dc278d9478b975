-- Marks of houses, as bits of words and place by place.
use Rattle.engine_core.proofs.Common.{AreDifferent, AreMarked, AreMarksAt, Bool, HasMarked, IsNext, List, None, Option, Some, [], ap, arith, between, bit_and, bit_at, bit_at-trailing_zeros, bit_at-zero, bit_at_above, bit_at_clear_other, bit_at_clear_same, bit_at_ones, bit_at_set_other, bit_at_set_same, bit_or, but, cases_eq, cases_lt, common_steps, count_below, div-div-eq-div-mul, div-le_self, div-mul-add, either-bits, eq-eqb, eqb, false, get_or, get_or-between, get_or-replicate, get_or-set_other, get_or-set_same, get_or-take, has_bit, has_place, has_place-at, inl, inr, is_waiting, le-ltb, length, length-between, length-take-le, lt-ltb, ltb, ne_eqb, not, place_bit, places, pow-add, refl, replicate, scope_of, set, slice_index, suc, sym, take, take-append_seam, trailing_zeros, true, w64, words_of, zero, zero-bits, ℕ, ◌%◌, ◌&&◌, ◌*◌, ◌++◌, ◌+◌, ◌-◌, ◌/◌, ◌<◌, ◌^◌, ◌||◌, ◌∙◌, ◌∷◌, ◌≡◌, ◌≢◌, ◌≤◌}
use Rattle.std.proofs.Common.{mul-le-mul_right}

-- Marks of houses as the bits of words.

-- words that are written back whole
pub written-back : (n : ℕ) (words rest : List ℕ) → n ≡ length words → take n (words ++ rest) ≡ words
written-back n words rest e = rw e (take-append_seam words rest)

-- ---- a house's word and bit
same_house : (j h : ℕ) → j / 64 ≡ h / 64 → j % 64 ≡ h % 64 → j ≡ h
same_house j h words bits = omega arith

-- a word written anew
word-same : (waits : List ℕ) (w y j : ℕ) → w < length waits → j / 64 ≡ w → is_waiting (set waits w y) j ≡ has_bit y (j % 64)
unfolding is_waiting
word-same waits w y j lt e = grind (arith, common_steps, get_or-set_same)

word-other : (waits : List ℕ) (w y j : ℕ) → j / 64 ≢ w → is_waiting (set waits w y) j ≡ is_waiting waits j
unfolding is_waiting
word-other waits w y j ne = ap (λ x. has_bit x (j % 64)) (get_or-set_other waits w (j / 64) y 0 ne)

word-is : (waits : List ℕ) (w j : ℕ) → j / 64 ≡ w → is_waiting waits j ≡ has_bit (get_or waits w 0) (j % 64)
unfolding is_waiting
word-is waits w j e = ap (λ k. has_bit (get_or waits k 0) (j % 64)) e

-- the word of a house written anew, where its bits are the old ones but for that house
waiting-word : (f : Bool → Bool → Bool) → ((x : Bool) → f x false ≡ x) → (waits : List ℕ) (h y j : ℕ) → h / 64 < length waits
    → ((b : ℕ) → b < 64 → has_bit y b ≡ f (has_bit (get_or waits (h / 64) 0) b) (eqb b (h % 64)))
    → is_waiting (set waits (h / 64) y) j ≡ f (is_waiting waits j) (eqb j h)
waiting-word f none waits h y j lt bits = grind (arith, common_steps, word-same, same_house, word-is, word-other)

pub waiting-enqueue : (waits : List ℕ) (h j : ℕ) → h / 64 < length waits
    → is_waiting (set waits (h / 64) (bit_or (get_or waits (h / 64) 0) (1 * 2 ^ (h % 64) % 18446744073709551616))) j ≡ (is_waiting waits j || eqb j h)
waiting-enqueue waits h j lt = waiting-word ◌||◌ (λ x. grind (arith, common_steps)) waits h _ j lt (λ b small.
    let other = bit_at_set_other w64 (get_or waits (h / 64) 0) (h % 64) in
    grind (arith, common_steps, cases_eq b (h % 64), bit_at_set_same w64 (get_or waits (h / 64) 0) (h % 64), eq-eqb, ne_eqb))

-- a house is marked where it is called for
pub waiting-dequeue : (waits : List ℕ) (h j : ℕ) → h / 64 < length waits
    → is_waiting (set waits (h / 64)
    (bit_and (get_or waits (h / 64) 0)
    (18446744073709551615 - 1 * 2 ^ (h % 64) % 18446744073709551616))) j ≡ but
    (is_waiting waits) h j
unfolding but
waiting-dequeue waits h j lt = waiting-word (λ x here. x && not here) (λ x. grind (arith, common_steps)) waits h _ j lt (λ b small.
    grind (arith, common_steps, cases_eq b (h % 64), bit_at_clear_same w64 (get_or waits (h / 64) 0) (h % 64), eq-eqb, ne_eqb, bit_at_clear_other w64 (get_or waits (h / 64) 0) (h % 64)))

pub waiting-none : (words j : ℕ) → j / 64 < words → is_waiting (replicate words 0) j ≡ false
unfolding is_waiting
waiting-none words j lt = grind (arith, common_steps, get_or-replicate, bit_at-zero)

pub waiting-all : (words j : ℕ) → j / 64 < words → is_waiting (replicate words 18446744073709551615) j ≡ true
unfolding is_waiting
waiting-all words j lt =
    ap (λ x. has_bit x (j % 64)) (get_or-replicate words (j / 64) 18446744073709551615 0 lt)
    ∙ ap (λ b. eqb b 1) (bit_at_ones 64 (j % 64) (omega arith))

-- ---- the bits of a word from one on
shifted : (word from i : ℕ) → bit_at (word / 2 ^ from) i ≡ bit_at word (from + i)
shifted word from i = grind (arith, common_steps, div-div-eq-div-mul, pow-add)

-- where nothing is left above, no bit is set from there on
pub none_left : (word from j : ℕ) → word / 2 ^ from ≡ 0 → from ≤ j → has_bit word j ≡ false
none_left word from j none le =
    let e : from + (j - from) ≡ j = omega arith in grind (arith, common_steps, shifted word from (j - from), bit_at-zero)

-- the lowest bit of what is left above
pub lowest_left : (word from : ℕ) → word < 2 ^ 64 → (word / 2 ^ from ≡ 0 → ⊥)
    → IsNext (has_bit word) 64 from (Some (from + trailing_zeros w64 (word / 2 ^ from)))
lowest_left word from small some =
    let left = word / 2 ^ from in
    let z = trailing_zeros w64 left in
    let w = bit_at-trailing_zeros w64 left (omega arith) (omega (arith, div-le_self word (2 ^ from))) in
    let here = sym (shifted word from z) ∙ w.1 in (
      omega arith,
      grind (arith, common_steps, bit_at_above word 64 (from + z) small),
      ap (λ b. eqb b 1) here,
      λ j from_j lt. let e : from + (j - from) ≡ j = omega arith in grind (arith, common_steps, shifted word from (j - from), w.2 (j - from)),
    )

-- ---- one word after another
-- where no bit of a word is set from one to another, no house there waits
pub none_in_word : (waits : List ℕ) (w : ℕ) {low high : ℕ} → high ≤ 64 → ((b : ℕ) → low ≤ b → b < high → has_bit (get_or waits w 0) b ≡ false)
    → (j : ℕ) → w * 64 + low ≤ j → j < w * 64 + high → is_waiting waits j ≡ false
none_in_word waits w small none j le lt =
    let word : j / 64 ≡ w = omega arith in word-is waits w j word ∙ none (j % 64) (omega arith) (omega arith)

pub none_so_far : (waits : List ℕ) {from : ℕ} (w : ℕ) {low high : ℕ} → high ≤ 64 → ((j : ℕ) → from ≤ j → j < w * 64 + low → is_waiting waits j ≡ false)
    → ((b : ℕ) → low ≤ b → b < high → has_bit (get_or waits w 0) b ≡ false)
    → (j : ℕ) → from ≤ j → j < w * 64 + high → is_waiting waits j ≡ false
none_so_far waits w {low} small before none j le lt =
    grind (arith, common_steps, cases_lt j (w * 64 + low), before j le, none_in_word waits w small none j)

pub waits_in_word : (waits : List ℕ) (w : ℕ) {b : ℕ} → b < 64 → has_bit (get_or waits w 0) b ≡ true → is_waiting waits (w * 64 + b) ≡ true
waits_in_word waits w {b} lt on =
    let bit : (w * 64 + b) % 64 ≡ b = omega arith in word-is waits w _ (omega arith) ∙ ap (has_bit (get_or waits w 0)) bit ∙ on

-- Laws of counts, and of the marks of houses place by place.

-- ---- counts as they go on
pub count_below-more : (p : ℕ → Bool) (m n : ℕ) → m ≤ n → count_below p m ≤ count_below p n
unfolding count_below
count_below-more p m zero le = grind arith
count_below-more p m (suc n) le = grind (arith, cases_eq m (suc n), count_below-more p m n)

-- one that passes counts for those after it
pub counted : (p : ℕ → Bool) (k n : ℕ) → k < n → p k ≡ true → count_below p k < count_below p n
unfolding count_below
counted p k n lt on = grind (arith, common_steps, count_below-more p (suc k) n)

-- each number below the count is that of one that passes
pub numbered : (p : ℕ → Bool) (n r : ℕ) → r < count_below p n → (k : ℕ) × (k < n) × (p k ≡ true) × (count_below p k ≡ r)
unfolding count_below
numbered p zero r lt = absurd (omega arith)
numbered p (suc n) r lt = elim (cases_lt r _) [
  | inl low ↦ let w = numbered p n r low in (w.0, grind (arith, w.1), w.2, w.3)
  | inr high ↦ (n, omega arith, grind (arith, common_steps), grind (arith, common_steps))
]

-- ---- one place more of a house
has_place-last : (xs : List ℕ) (y c : ℕ) → has_place (xs ++ y ∷ []) c ≡ (has_place xs c || eqb y c)
unfolding has_place
has_place-last [] y c = grind (arith, common_steps)
has_place-last (x ∷ xs) y c = grind (arith, common_steps, has_place-last xs y c)

module _ (scope : List ℕ) {k : ℕ} (lt : k < length scope) where
  taken-last : (c : ℕ) → has_place (take (k + 1) scope) c ≡ (has_place (take k scope) c || eqb (slice_index scope k) c)
  taken-last c = grind (arith, common_steps, places, has_place-last)

  pub taken-here : (c : ℕ) → c ≡ slice_index scope k → has_place (take (k + 1) scope) c ≡ true
  taken-here c is = grind (arith, common_steps, taken-last c, eq-eqb)

  pub taken-other : {c : ℕ} → (c ≡ slice_index scope k → ⊥) → has_place (take (k + 1) scope) c ≡ has_place (take k scope) c
  taken-other {c} other = grind (arith, common_steps, taken-last c, ne_eqb)

  -- one of the first k places is one of the places, and not the next
  taken-at : (c : ℕ) → has_place (take k scope) c ≡ true → (j : ℕ) × (j < k) × (slice_index scope j ≡ c)
  taken-at c on = grind (arith, common_steps, get_or-take, has_place-at, length-take-le)

  pub not_taken : AreDifferent scope → (c : ℕ) → c ≡ slice_index scope k → has_place (take k scope) c ≡ false
  not_taken different c is = grind (arith, common_steps, taken-at, places)

-- ---- the bit of a house at a place
-- the words of a place come one after another
word-in : {words : ℕ} (c h : ℕ) → h / 64 < words → (c * words + h / 64) / words ≡ c
word-in {words} c h lh = div-mul-add c words (h / 64) lh

mark-own : (words c d h g : ℕ) → h / 64 < words → g / 64 < words → place_bit words c h ≡ place_bit words d g → (c ≡ d) × (h ≡ g)
mark-own words c d h g lh lg e =
    let word : c * words + h / 64 ≡ d * words + g / 64 = omega arith in
    let place = sym (word-in c h lh) ∙ ap (λ w. w / words) word ∙ word-in d g lg in
    let same = ap (λ x. x * words) place in
    (place, omega arith)

pub mark-first : {words house : ℕ} {marks : List ℕ} → HasMarked words house [] marks marks
unfolding has_place
mark-first = record { each = λ c h lh. grind (arith, common_steps) }

-- it is the bit of the house at the place
same-bit : (words c d h g : ℕ) → h / 64 < words → g / 64 < words → eqb (place_bit words c h) (place_bit words d g) ≡ (eqb h g && eqb d c)
same-bit words c d h g lh lg = grind (arith, common_steps, cases_eq, mark-own, eq-eqb, ne_eqb)

pub mark-more : {words house : ℕ} (scope : List ℕ) {k word : ℕ} {old now : List ℕ} → k < length scope → house / 64 < words
    → word ≡ slice_index scope k * words + house / 64 → word < length now → HasMarked words house (take k scope) old now
    → HasMarked words house (take (k + 1) scope) old (set now word (bit_or (get_or now word 0) (1 * 2 ^ (house % 64) % 18446744073709551616)))
mark-more {words} {house} scope {k} {word} {old} {now} lt lw is low before = record {
  each = λ c h lh.
      let here = place_bit words (slice_index scope k) house in
      let at : word ≡ here / 64 = omega arith in
      let bit : house % 64 ≡ here % 64 = omega arith in
      rw (at, bit, taken-last scope lt c)
      (waiting-enqueue now here (place_bit words c h) (omega arith)
      ∙ rw (before.each c h lh, same-bit words c (slice_index scope k) h house lh lw) (joins (is_waiting old (place_bit words c h)) (eqb h house) _ _));
}
  where
    joins : (was here first more : Bool) → ((was || (here && first)) || (here && more)) ≡ (was || (here && (first || more)))
    joins was here first more = grind arith

-- ---- one house more
pub marked-first : {cells : ℕ} (scopes : List (List ℕ)) {marks : List ℕ} → length marks ≡ cells * words_of (length scopes)
    → ((w : ℕ) → w < length marks → slice_index marks w ≡ 0)
    → AreMarked cells scopes 0 marks
unfolding is_waiting
marked-first {cells} scopes {marks} long none = grind (arith, common_steps, mul-le-mul_right, zero-bits, le-ltb)

pub marked-more : {cells house : ℕ} (scopes : List (List ℕ)) {marks more : List ℕ} → AreMarked cells scopes house marks
    → HasMarked (words_of (length scopes)) house (scope_of scopes house) marks more → length more ≡ length marks
    → AreMarked cells scopes (house + 1) more
marked-more {cells} {house} scopes a b long = grind (arith, common_steps, cases_eq, le-ltb, lt-ltb, eq-eqb, ne_eqb, cases_lt)

-- ---- the marks of a place
pub marks-at : {cells : ℕ} (scopes : List (List ℕ)) {marks : List ℕ} (c : ℕ) → c < cells → AreMarked cells scopes (length scopes) marks
    → AreMarksAt scopes c (between (c * words_of (length scopes)) (c * words_of (length scopes) + words_of (length scopes)) marks)
unfolding is_waiting
marks-at {cells} scopes {marks} c lc a = record {
  as_many = length-between marks (c * words) (c * words + words) (omega (arith, fits, a.as_many)) ∙ omega arith;
  each = λ h lh.
      let word : place_bit words c h / 64 ≡ c * words + h / 64 = omega arith in
      let bit : place_bit words c h % 64 ≡ h % 64 = omega arith in
      ap (λ x. has_bit x (h % 64)) (get_or-between marks (c * words) (c * words + words) (h / 64) 0 (omega arith))
      ∙ rw (word, bit) at (a.each c h lc (omega arith)) ∙ rw (lt-ltb h (length scopes) lh) refl;
}
  where
    words : ℕ
    words = words_of (length scopes)

    fits : c * words + words ≤ cells * words
    fits = omega (arith, mul-le-mul_right words lc)

pub next-marked : {scopes : List (List ℕ)} (c from : ℕ) {marks : List ℕ} (answer : Option ℕ) → AreMarksAt scopes c marks
    → IsNext (is_waiting marks) (length scopes) from answer → IsNext (λ h. has_place (scope_of scopes h) c) (length scopes) from answer
next-marked c from None a next = λ j le lt. sym (a.each j lt) ∙ next j le lt
next-marked c from (Some h) a next =
    (next.0, next.1, sym (a.each h next.1) ∙ next.2, λ j le lt. sym (a.each j (omega (arith, next.1))) ∙ next.3 j le lt)

-- ---- marks joined word by word
pub joined-first : (waits marks : List ℕ) (j : ℕ) → is_waiting waits j ≡ (is_waiting waits j || (ltb (j / 64) 0 && is_waiting marks j))
joined-first waits marks j = grind (arith, le-ltb (j / 64) 0 (omega arith))

pub joined-more : (waits marks : List ℕ) (old : Bool) (k j : ℕ) → k < length waits → is_waiting waits j ≡ (old || (ltb (j / 64) k && is_waiting marks j))
    → is_waiting (set waits k (bit_or (get_or waits k 0) (get_or marks k 0))) j ≡ (old || (ltb (j / 64) (k + 1) && is_waiting marks j))
unfolding is_waiting
joined-more waits marks old k j lt before = elim (cases_eq (j / 64) k) [
  | inl e ↦ grind (arith, common_steps, either-bits, le-ltb, lt-ltb)
  | inr ne ↦ grind (arith, common_steps, cases_lt, le-ltb, lt-ltb)
]
