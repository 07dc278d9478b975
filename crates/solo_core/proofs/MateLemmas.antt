-- Pairings of the cells with values, and how they go on.
use Rattle.solo_core.proofs.Common.{Bool, PairsOneMore, IsBegun, IsOutside, IsPaired, IsRest, IsShortRest, IsShownBy, KeepsFillings, List, PairsCells, [], ap, arith, cases_Bool, cases_eq, cases_lt, common_steps, cond, eq-eqb, eqb, eqb-true, false, false_from_ne_true, get_or, get_or-map, get_or-map-range_with_len, get_or_past, has_bit, has_in, has_place, has_place-at, has_place-here, has_value, inl, inr, is_struck, length, length-map, length-map-range_with_len, map, nat_tests, no_choice, no_repeat, no_repeat_from_different, own_from_no_repeat, range_with_len, refl, set_of_bits, shown_from_test, slice_index, suc, sym, test_from_shown, true, true_from_ne_false, true≢false, zero, ℕ, ◌++◌, ◌+◌, ◌<◌, ◌∙◌, ◌∷◌, ◌≡◌, ◌⊎◌, length-set, get_or-set_at, get_or-set_other, slice_set, get_or_append_left, get_or_push}

-- A pairing of the cells with values is a filling without repeat, and a short set rules out every one. The values of the cells that
-- are alone and a pairing of the rest make a pairing of the house.

-- a set of bits has the values below n whose bit is set
pub has_set_of_bits : {n : ℕ} (bits : ℕ) {v : ℕ} → v < n → has_value (set_of_bits n bits) v ≡ has_bit bits v
unfolding set_of_bits
has_set_of_bits {n} bits {v} h = get_or-map-range_with_len (has_bit bits) 0 n v v false h (omega arith)

pub set_of_bits_below : (n bits : ℕ) {v : ℕ} → has_value (set_of_bits n bits) v ≡ true → v < n
unfolding set_of_bits
set_of_bits_below n bits {v} h = grind (arith, common_steps, cases_lt, get_or_past, length-map-range_with_len)

-- the sets of a house as bits, each within the values
pub at_sets : (n : ℕ) (sets : List ℕ) {k : ℕ} → k < length sets → get_or (map (set_of_bits n) sets) k [] ≡ set_of_bits n (get_or sets k 0)
at_sets n sets {k} h = get_or-map _ sets k 0 [] h

-- a pairing of the cells with values is a filling without repeat, which shows its values
pub shown_by_pairing : (sets : List ℕ) {n : ℕ} {mates : List ℕ} → PairsCells n sets mates
    → (k : ℕ) → is_struck n sets k (slice_index mates k) ≡ false
shown_by_pairing sets {n} {mates} p k = test_from_shown no_repeat (map (set_of_bits n) sets) k (slice_index mates k) (
  mates,
  record {
    fills = record { len = p.len ∙ sym (length-map sets _); each = each };
    holds_true =
        no_repeat_from_different mates (λ i j below within same. let e = p.len in
        absurd (omega (arith, p.own i j (omega arith) (omega arith) same)));
    has_it = refl;
  },
)
  where
    each : (k : ℕ) → k < length (map (set_of_bits n) sets) → has_value (get_or (map (set_of_bits n) sets) k []) (get_or mates k 0) ≡ true
    each k h =
        let inside : k < length sets = omega (arith, length-map sets (set_of_bits n)) in
        ap (λ s. has_value s (get_or mates k 0)) (at_sets n sets inside)
        ∙ has_set_of_bits (get_or sets k 0) (p.in_range k inside) ∙ p.joined k inside

-- a filling without repeat as a pairing of the cells with values
pub pairing_of_filling : (sets : List ℕ) (n : ℕ) {place value : ℕ} {filling : List ℕ} → IsShownBy no_repeat (map (set_of_bits n) sets) place value filling
    → PairsCells n sets filling
pairing_of_filling sets n {filling} s = record {
  len = long;
  in_range = λ l h. set_of_bits_below n (get_or sets l 0) (has l h);
  joined = λ l h. sym (has_set_of_bits (get_or sets l 0) (set_of_bits_below n (get_or sets l 0) (has l h))) ∙ has l h;
  own = λ l m h k same. let z = long in own_from_no_repeat filling s.holds_true l m (omega arith) (omega arith) same;
}
  where
    long : length filling ≡ length sets
    long = s.fills.len ∙ length-map sets _

    has : (l : ℕ) → l < length sets → has_value (set_of_bits n (get_or sets l 0)) (get_or filling l 0) ≡ true
    has l h =
        ap (λ t. has_value t (get_or filling l 0)) (sym (at_sets n sets h))
        ∙ s.fills.each l (omega (arith, length-map sets (set_of_bits n)))

-- what no pairing of the cells can have is struck
pub struck_from_none : (sets : List ℕ) (n place value : ℕ)
    → ((filling : List ℕ) → PairsCells n sets filling → slice_index filling place ≡ value → ⊥)
    → is_struck n sets place value ≡ true
struck_from_none sets n place value none = true_from_ne_false (is_struck n sets place value) (λ e.
    let w = shown_from_test no_repeat (map (set_of_bits n) sets) place value e in
    none w.0 (pairing_of_filling sets n w.1) w.1.has_it)

-- the last number below n that passes
pub last : ℕ → (ℕ → Bool) → ℕ
last zero passes = 0
last (suc n) passes = cond (passes n) n (last n passes)

pub last-passes : (n : ℕ) (passes : ℕ → Bool) (v : ℕ) → v < n → passes v ≡ true → passes (last n passes) ≡ true
unfolding last
last-passes zero passes v lt on = absurd (omega arith)
last-passes (suc n) passes v lt on = grind (arith, nat_tests, last-passes n passes v)

pub last-below : (n : ℕ) (passes : ℕ → Bool) → 0 < n → last n passes < n
unfolding last
last-below zero passes some = absurd (omega arith)
last-below (suc zero) passes some = grind (arith, nat_tests)
last-below (suc (suc n)) passes some = grind (arith, nat_tests, last-below (suc n) passes (omega arith))

-- a cell is in a list, or outside
pub in_or_out : (rest : List ℕ) (k : ℕ) → ((i : ℕ) × (i < length rest) × (slice_index rest i ≡ k)) ⊎ IsOutside rest k
in_or_out rest k = elim (cases_Bool (has_place rest k)) [
  | inl on ↦ inl (has_place-at rest k on)
  | inr off ↦ inr (λ t lt is. true≢false (sym (has_place-here rest t lt) ∙ ap (has_place rest) is ∙ off))
]

-- ---- the pairing of the house
module _ (n : ℕ) (sets rest : List ℕ) (r : IsRest n sets rest) where
  abbrev joins : ℕ → ℕ → Bool
  joins l v = has_in sets (slice_index rest l) v

  -- where the rest has no pairing, the house has none
  pub no_pairing : (xs mates : List ℕ) → IsShortRest n sets rest xs → PairsCells n sets mates → ⊥
  no_pairing xs mates short p = no_choice joins (length rest) n xs short (λ l. slice_index mates (slice_index rest l))
      (λ l lt. p.in_range (slice_index rest l) (r.within l lt))
      (λ l lt. p.joined (slice_index rest l) (r.within l lt))
      (λ l m ll lm same. r.different l m ll lm (p.own (slice_index rest l) (slice_index rest m) (r.within l ll) (r.within m lm) same))

  module _ {paired : List ℕ} (p : IsPaired n sets rest paired) where
    -- the place of a cell in the rest
    at : ℕ → ℕ
    at k = last (length rest) (λ i. eqb (slice_index rest i) k)

    mate : ℕ → ℕ
    mate k = cond (has_place rest k) (slice_index paired (at k)) (last n (has_in sets k))

    pub house_mates : List ℕ
    house_mates = map mate (range_with_len 0 (length sets))

    mates-at : (k : ℕ) → k < length sets → slice_index house_mates k ≡ mate k
    unfolding house_mates
    mates-at k lk = get_or-map-range_with_len mate 0 (length sets) k k 0 lk (omega arith)

    pub mates-rest : (i : ℕ) → i < length rest → slice_index house_mates (slice_index rest i) ≡ slice_index paired i
    unfolding mate at
    mates-rest i li =
        let k = slice_index rest i in
        let passes : ℕ → Bool = λ j. eqb (slice_index rest j) k in
        let low = last-below (length rest) passes (omega arith) in
        let same = eqb-true _ k (last-passes (length rest) passes i li (eq-eqb k k refl)) in
        mates-at k (r.within i li) ∙ rw (has_place-here rest i li) (ap (slice_index paired) (r.different (at k) i low li same))

    pub mates-alone : (k : ℕ) (lk : k < length sets) (out : IsOutside rest k) → slice_index house_mates k ≡ (r.alone k lk out).value
    unfolding mate
    mates-alone k lk out =
        let a = r.alone k lk out in
        let off = false_from_ne_true (has_place rest k) (λ on. let w = has_place-at rest k on in out w.0 w.1 w.2) in
        mates-at k lk ∙ rw off (a.only (last n (has_in sets k)) (last-passes n (has_in sets k) a.value a.value_in a.has))

    -- in range and joined
    fits : {k : ℕ} → k < length sets → (slice_index house_mates k < n) × (has_in sets k (slice_index house_mates k) ≡ true)
    fits {k} lk = elim (in_or_out rest k) [
      | inl w ↦ rw (sym (ap (slice_index house_mates) w.2) ∙ mates-rest w.0 w.1) (p.in_range w.0 w.1, rw w.2 at (p.joined w.0 w.1))
      | inr out ↦ let a = r.alone k lk out in rw (mates-alone k lk out) (a.value_in, a.has)
    ]

    -- a cell that is alone has no value of another
    apart : (k m : ℕ) (lk : k < length sets) → m < length sets → IsOutside rest k → slice_index house_mates k ≡ slice_index house_mates m → k ≡ m
    apart k m lk lm out same = elim (cases_eq m k) [
      | inl e ↦ sym e
      | inr ne ↦ absurd (true≢false (sym (fits lm).1 ∙ ap (has_in sets m) (sym same ∙ mates-alone k lk out) ∙ (r.alone k lk out).apart m lm ne))
    ]

    pub house_pairing : PairsCells n sets house_mates
    unfolding house_mates
    house_pairing = record {
      len = length-map-range_with_len mate 0 (length sets);
      in_range = λ k lk. (fits lk).0;
      joined = λ k lk. (fits lk).1;
      own = λ k m lk lm same. elim (in_or_out rest k) [
        | inr out ↦ apart k m lk lm out same
        | inl w ↦ elim (in_or_out rest m) [
          | inr out ↦ sym (apart m k lm lk out (sym same))
          | inl x ↦
              let e = p.own w.0 x.0 w.1 x.1 (sym (mates-rest w.0 w.1) ∙ ap (slice_index house_mates) w.2 ∙ same ∙ sym (ap (slice_index house_mates) x.2) ∙ mates-rest x.0 x.1) in
              sym w.2 ∙ ap (slice_index rest) e ∙ x.2
        ]
      ];
    }

-- where no value is struck, the sets are kept
pub decided_by_all : {n : ℕ} {sets : List ℕ} → ((k v : ℕ) → k < length sets → v < n → has_in sets k v ≡ true → is_struck n sets k v ≡ false)
    → KeepsFillings n sets sets
decided_by_all all = grind (arith, common_steps)

-- A pairing goes on by a cell with a free value, or with the value of another cell that has a free one.
module _ (n : ℕ) (sets rest : List ℕ) where
  pub begun-none : {mate : ℕ → ℕ} {free : ℕ} → IsBegun n sets rest 0 mate free
  begun-none = grind (arith, common_steps)

  -- one more cell with a value that no other has
  given : {k : ℕ} {mate new : ℕ → ℕ} {free left : ℕ} → IsBegun n sets rest k mate free → ((l : ℕ) → l < k → new l ≡ mate l)
      → new k < n → has_in sets (slice_index rest k) (new k) ≡ true → ((l : ℕ) → l < k → mate l ≡ new k → ⊥)
      → ((v : ℕ) → has_bit left v ≡ true → has_bit free v ≡ true) → has_bit left (new k) ≡ false → IsBegun n sets rest (k + 1) new left
  given {new} b same low has apart inside off = record {
    in_range = λ l lt. grind (arith, same l, b.in_range l);
    joined = λ l lt. grind (arith, same l, b.joined l);
    own = λ l m lt lm is. grind (arith, same l, same m, apart l, apart m, b.own l m);
    taken = λ l lt. grind (arith, nat_tests, same l, b.taken l, inside (new l));
  }

  pub goes_on_free : (k : ℕ) {mate new : ℕ → ℕ} {free value : ℕ} → IsBegun n sets rest k mate free → ((l : ℕ) → l < k → new l ≡ mate l) → new k ≡ value
      → value < n → has_in sets (slice_index rest k) value ≡ true → has_bit free value ≡ true → PairsOneMore n sets rest k new free value
  goes_on_free k {free} b same is low has unused = grind (arith, common_steps, given, true≢false, b.taken)

  -- a cell's value changed for a free one
  module _ (k : ℕ) (mate : ℕ → ℕ) (free value j : ℕ) (b : IsBegun n sets rest k mate free) (lj : j < k) (low : value < n)
      (has : has_in sets (slice_index rest j) value ≡ true) (unused : has_bit free value ≡ true) where
    changed : ℕ → ℕ
    changed l = cond (eqb l j) value (mate l)

    no_free : (l : ℕ) → l < k → mate l ≡ value → ⊥
    no_free l lt e = grind (arith, common_steps)

    begun : {left : ℕ} → ((v : ℕ) → has_bit left v ≡ true → has_bit free v ≡ true) → has_bit left value ≡ false → IsBegun n sets rest k changed left
    unfolding changed
    begun inside off = record {
      in_range = λ l lt. grind (arith, nat_tests, b.in_range l);
      joined = λ l lt. grind (arith, nat_tests, b.joined l);
      own = λ l m lt lm is. grind (arith, nat_tests, no_free l, no_free m, b.own l m);
      taken = λ l lt. grind (arith, nat_tests, b.taken l, inside (changed l));
    }

    no_mate : (l : ℕ) → l < k → changed l ≡ mate j → ⊥
    unfolding changed
    no_mate l lt e = grind (arith, nat_tests, no_free j lj, b.own l j lt lj)

    pub goes_on_swapped : {new : ℕ → ℕ} → new k ≡ mate j → new j ≡ value → ((l : ℕ) → l < k → (l ≡ j → ⊥) → new l ≡ mate l)
        → has_in sets (slice_index rest k) (mate j) ≡ true → PairsOneMore n sets rest k new free value
    unfolding changed
    goes_on_swapped last here other there = (
      low,
      λ left inside off.
          given (begun inside off) (λ l lt. grind (arith, nat_tests, other l lt))
          (rw last (b.in_range j lj)) (rw last there) (λ l lt e. no_mate l lt (e ∙ last)) (λ v on. on)
          (rw last (false_from_ne_true (has_bit left (mate j)) (λ on. true≢false (sym (inside (mate j) on) ∙ b.taken j lj)))),
    )

  -- the cells' values in a list: one more is appended
  pub pushed_free : (k : ℕ) (mates : List ℕ) {pushed : List ℕ} {free value : ℕ} → length mates ≡ k → IsBegun n sets rest k (slice_index mates) free
      → pushed ≡ mates ++ value ∷ [] → value < n → has_in sets (slice_index rest k) value ≡ true → has_bit free value ≡ true
      → PairsOneMore n sets rest k (slice_index pushed) free value
  pushed_free k mates {free = free} {value = value} long b is low has unused =
      rw is (goes_on_free k b (λ l lt. get_or_append_left mates (value ∷ []) 0 l (omega (arith, long))) (get_or_push mates value 0 k long) low has unused)

  -- one of them is changed for a free one, and is appended
  pub pushed_swapped : (k j : ℕ) (mates : List ℕ) {pushed : List ℕ} {free value mate : ℕ} → length mates ≡ k → IsBegun n sets rest k (slice_index mates) free
      → j < k → mate ≡ slice_index mates j → pushed ≡ slice_set mates j value ++ mate ∷ []
      → value < n → has_in sets (slice_index rest j) value ≡ true → has_bit free value ≡ true → has_in sets (slice_index rest k) mate ≡ true
      → PairsOneMore n sets rest k (slice_index pushed) free value
  pushed_swapped k j mates {free = free} {value = value} {mate = mate} long b lj same is low has unused there =
      let changed : List ℕ = slice_set mates j value in
      let as_long : length changed ≡ k = length-set mates j value ∙ long in
      let before = λ (l : ℕ) (lt : l < k). get_or_append_left changed (mate ∷ []) 0 l (omega (arith, as_long)) in
      rw is (goes_on_swapped k (slice_index mates) free value j b lj low has unused
      (get_or_push changed mate 0 k as_long ∙ same)
      (before j lj ∙ get_or-set_at mates j j value 0 refl (omega (arith, long)))
      (λ l lt ne. before l lt ∙ get_or-set_other mates j l value 0 ne)
      (rw same at there))
