-- Words as sets of places, and the cells of a line as words.
use Rattle.pattern_core.proofs.Common.{AreRowsKept, Bool, add-one, ahead, List, Track, and-false, and-true, ap, arith, cases_Bool, cases_eq, cell_is, common_steps, cond, eq-eqb, eqb, false, from_bool, fun_ext, get_or, goes_on, has_bit, le-ltb, led, length, lt-ltb, ltb, ne_eqb, one_on, or-false, refl, set_at, set_with, sets_by, sets_of, slice_index, some_leads, can_stay, suc, sym, zero, ℕ, ◌%◌, ◌&&◌, ◌*◌, ◌+◌, ◌-◌, ◌<◌, ◌||◌, ◌∙◌, ◌≡◌, ◌≤◌}
use Rattle.pattern_core.specs.LinePlanes.{AreSmall}
use Rattle.std.proofs.lemmas.List.{ext_get_or}
use Rattle.grid_core.proofs.WordLemmas.{either-bits, power-bits, zero-bits}
use Rattle.std.proofs.lemmas.List.FromFn.{get_or-map-range_with_len, length-map-range_with_len}

-- Words as sets of places.

-- one place on, of those that there are
pub on_within : (n : ℕ) (at new : ℕ → Bool) → ((p : ℕ) → new p ≡ (ltb p n && (ltb 0 p && at (p - 1)))) → (p : ℕ) → p < n → new p ≡ one_on at p
unfolding one_on
on_within n at new is zero lt = grind (arith, common_steps, is 0, lt-ltb _ _ lt, le-ltb 0 0 (omega arith))
on_within n at new is (suc p) lt = is (suc p) ∙ rw (lt-ltb _ _ lt, lt-ltb 0 (suc p) (omega arith)) (ap at (omega arith))

pub on_past : (n : ℕ) (at new : ℕ → Bool) → ((p : ℕ) → new p ≡ (ltb p n && (ltb 0 p && at (p - 1)))) → (p : ℕ) → n ≤ p → new p ≡ false
on_past n at new is p high = is p ∙ rw (le-ltb _ _ high) refl

-- what the operations of words say of their bits
pub ruleset slot_laws = (power-bits)

-- the places reached, by the words of a step
pub led_words : (t : Track) (set : ℕ) (reached next : ℕ → Bool) (p : ℕ) → ((q : ℕ) → next q ≡ (goes_on t set q && reached q))
    → ((can_stay t set p && reached p) || one_on next p) ≡ led t set reached p
unfolding led
led_words t set reached next p is = ap (λ f. (can_stay t set p && reached p) || one_on f p) (fun_ext is)

-- by what a cell may be, those places from which it leads on, and those to which it leads
pub ahead_with : (t : Track) (white black : Bool) (after : ℕ → Bool) (p : ℕ)
    → ((white && ((t.stay p && after p) || (t.white p && after (p + 1)))) || (black && (t.black p && after (p + 1)))) ≡ ahead t (set_with white black) after p
unfolding ahead can_stay goes_on
ahead_with t white black after p = rw add-one (grind (arith, common_steps, cases_Bool white, cases_Bool black, cases_Bool))

pub led_with : (t : Track) (white black : Bool) (reached : ℕ → Bool) (p : ℕ)
    → ((white && led t 1 reached p) || (black && led t 2 reached p)) ≡ led t (set_with white black) reached p
unfolding led can_stay goes_on one_on
led_with t white black reached zero = grind (arith, common_steps, cases_Bool white, cases_Bool black, cases_Bool)
led_with t white black reached (suc p) = grind (arith, common_steps, cases_Bool white, cases_Bool black, cases_Bool)

-- The cells of a line as words, and as sets.

-- ---- the sets of so many cells
pub length-sets : (white black count : ℕ) → length (sets_by white black count) ≡ count
length-sets white black count = length-map-range_with_len (set_at white black) 0 count

pub sets-at : (white black count k : ℕ) → k < count → get_or (sets_by white black count) k 0 ≡ set_at white black k
sets-at white black count k lt = get_or-map-range_with_len (set_at white black) 0 count k k 0 lt (omega arith)

pub set-small : (white black k : ℕ) {count : ℕ} → k < count → get_or (sets_by white black count) k 0 < 4
set-small white black k {count} lt = rw (sets-at white black count k lt) (grind (arith, common_steps, cases_Bool (has_bit white k), cases_Bool (has_bit black k)))

-- where there is a value, as a word
abbrev pub word_of : ℕ → ℕ → ℕ → ℕ
word_of white black v = cond (eqb v 0) white black

pub sets-bit : (white black count k v : ℕ) → k < count → v < 2 → has_bit (get_or (sets_by white black count) k 0) v ≡ has_bit (word_of white black v) k
sets-bit white black count k zero lt low = rw (sets-at white black count k lt) (grind (arith, common_steps, cases_Bool (has_bit white k), cases_Bool (has_bit black k)))
sets-bit white black count k (suc zero) lt low = rw (sets-at white black count k lt) (grind (arith, common_steps, cases_Bool (has_bit white k), cases_Bool (has_bit black k)))
sets-bit white black count k (suc (suc v)) lt low = absurd (omega arith)

-- ---- the cells of sets
two_bits : (set : ℕ) → set < 4 → from_bool (eqb (set % 2) 1) + 2 * from_bool (ltb 1 set) ≡ set
two_bits = grind (arith, common_steps)

pub sets-are : (white black : ℕ) (sets : List ℕ) {count : ℕ} → length sets ≡ count → ((k : ℕ) → k < count → slice_index sets k ≡ set_at white black k)
    → sets ≡ sets_by white black count
sets-are white black sets {count} long is = ext_get_or 0 sets _ (long ∙ sym (length-sets white black count))
    (λ k lt. is k (omega arith) ∙ sym (sets-at white black count k (omega arith)))

pub sets-read : (sets : List ℕ) (white black : ℕ) → AreSmall sets → ((k : ℕ) → k < length sets → has_bit white k ≡ eqb (slice_index sets k % 2) 1)
    → ((k : ℕ) → k < length sets → has_bit black k ≡ ltb 1 (slice_index sets k)) → sets_by white black (length sets) ≡ sets
sets-read sets white black small is_white is_black = sym (sets-are white black sets refl (λ k lt.
    rw (is_white k lt, is_black k lt) (sym (two_bits (slice_index sets k) (small k lt)))))

-- ---- what is so of the cells below `at`, by whether the word has them
pub record IsShownTo (word : ℕ) (is : ℕ → Bool → Type 0) (at : ℕ) : Type 0 where
  pub below : (k : ℕ) → k < at → is k (has_bit word k)
  pub beyond : (k : ℕ) → at ≤ k → has_bit word k ≡ false

pub shown-none : (word : ℕ) (is : ℕ → Bool → Type 0) → ((k : ℕ) → has_bit word k ≡ false) → IsShownTo word is 0
shown-none word is none = record { below = λ k lt. absurd (omega arith); beyond = λ k le. none k }

pub shown-more : {word next : ℕ} (is : ℕ → Bool → Type 0) (on : Bool) (at : ℕ) → IsShownTo word is at
    → ((k : ℕ) → has_bit next k ≡ (has_bit word k || (on && eqb k at))) → is at on → IsShownTo next is (at + 1)
shown-more {word} is on at are with_it here = record {
  below = grind (arith, common_steps, cases_eq, eq-eqb, and-true, ne_eqb, and-false, or-false);
  beyond = λ k le. with_it k ∙ rw (are.beyond k (omega arith), ne_eqb k at (λ e. omega arith)) (and-false on);
}

-- ---- what is kept is what is shown
kept-bits : {x : Bool} (y w : Bool) {s : Bool} → x ≡ (y && w) → (y && w) ≡ s → x ≡ (w && s)
kept-bits y w e is = grind (arith, common_steps, cases_Bool w, cases_Bool y, e, is)

module _ (t : Track) (white black count : ℕ) where
  -- the cell keeps the value where it has it and some filling shows it
  abbrev pub IsCellShown : ℕ → ℕ → Bool → Type 0
  IsCellShown v k on = (on && has_bit (word_of white black v) k) ≡ some_leads t (sets_of (sets_by white black count)) (cell_is k v) 0

  pub shown-kept : {w b : ℕ} (white' black' : ℕ) → IsShownTo w (IsCellShown 0) count → IsShownTo b (IsCellShown 1) count
      → ((k : ℕ) → has_bit white' k ≡ (has_bit w k && has_bit white k)) → ((k : ℕ) → has_bit black' k ≡ (has_bit b k && has_bit black k))
      → AreRowsKept t (sets_by white black count) (sets_by white' black' count)
  shown-kept white' black' on_white on_black is_white is_black = grind (arith, common_steps, length-sets, sets-bit, kept-bits, on_white.below, on_black.below)
