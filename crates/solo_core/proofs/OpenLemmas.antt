-- Cells that leave their houses with their values, and come back; and what a visit of the open cells alone strikes.
use Rattle.solo_core.proofs.Common.{AreDifferent, and_from, and_le_r, and_parts, bit_or, AreSettledBut, Bool, IsOutside, IsPassedCell, ltb, IsSingleSet, List, ap, arith, bit_and, both-bits, [], cases_eq, cases_lt, get_or_append_left, get_or_push, length-append, either-bits, eq-eqb, eqb, eqb-true, false, false_from_ne_true, has_bit, has_in, inl, inr, length, nat_tests, ne_eqb, not, or_cases, refl, slice_index, sym, true, true≢false, zero-bits, ℕ, ◌&&◌, ◌++◌, ◌+◌, ◌∷◌, ◌<◌, ◌^◌, ◌||◌, ◌∙◌, ◌≡◌, ◌≤◌}
use Rattle.std.specs.Prelude.{IfNone, IfSome, None, Option, Some}
use Rattle.solo_core.proofs.BitLemmas.{none_in_zero, some_set}
use Rattle.solo_core.specs.OpenHouses.{HasAlone, IsOpenOf, ListsBits, ListsBitsBelow}
use Rattle.solo_core.specs.OpenLaws.{open-other}
use Rattle.solo_core.specs.Bits.{NoneIsSet}
use Rattle.solo_core.specs.Common.{IsBitsOf}
use Rattle.std.proofs.lemmas.Nat.Bits.{bit_at_above}

own-has : (has : ℕ → ℕ → Bool) (k v : ℕ) → HasAlone has k v → has k v ≡ true
own-has has k v alone = alone v ∙ eq-eqb v v refl

module _ {has : ℕ → ℕ → Bool} {n cells values : ℕ} (o : IsOpenOf has n cells values) where
  -- the value of a closed cell is not open
  pub closed-value : (k v : ℕ) → k < n → has_bit cells k ≡ false → has k v ≡ true → has_bit values v ≡ false
  closed-value k v lk off on =
      let c = o.closed k lk off in
      ap (has_bit values) (eqb-true v c.value (sym (c.alone v) ∙ on)) ∙ c.not_open

  module _ {k v more_cells more_values : ℕ} (lk : k < n) (lv : v < n) (alone : HasAlone has k v) where
    -- a cell that has an open value alone leaves the house with it
    pub closed-with : has_bit values v ≡ true → ((j : ℕ) → has_bit more_cells j ≡ (has_bit cells j && not (eqb j k)))
        → ((w : ℕ) → has_bit more_values w ≡ (has_bit values w && not (eqb w v)))
        → IsOpenOf has n more_cells more_values
    closed-with is_open cs vs = record {
      cells_in = λ j on. o.cells_in j (let z = cs j in grind arith);
      values_in = λ w on. o.values_in w (let z = vs w in grind arith);
      closed = λ j lj off. elim (cases_eq j k) [
        | inl e ↦ record {
          value = v;
          value_in = lv;
          not_open = let z = vs v in grind (arith, nat_tests);
          alone = λ w. ap (λ i. has i w) e ∙ alone w;
        }
        | inr ne ↦
            let c = o.closed j lj (was j ne off) in
            record { value = c.value; value_in = c.value_in; not_open = let z = vs c.value in let y = c.not_open in grind arith; alone = c.alone }
      ];
      different = λ i j w li lj off_i off_j on_i on_j. elim (cases_eq i k) [
        | inl e ↦ elim (cases_eq j k) [
          | inl e_j ↦ e ∙ sym e_j
          | inr ne ↦ absurd (apart j w lj (was j ne off_j) on_j (ap (λ x. has x w) (sym e) ∙ on_i))
        ]
        | inr ne_i ↦ elim (cases_eq j k) [
          | inl e ↦ absurd (apart i w li (was i ne_i off_i) on_i (ap (λ x. has x w) (sym e) ∙ on_j))
          | inr ne ↦ o.different i j w li lj (was i ne_i off_i) (was j ne off_j) on_i on_j
        ]
      ];
      held = λ w lw off. elim (cases_eq w v) [
        | inl e ↦ (k, lk, let z = cs k in grind (arith, nat_tests), ap (has k) e ∙ own-has has k v alone)
        | inr ne ↦
            let h = o.held w lw (let z = vs w in grind (arith, nat_tests)) in
            (h.0, h.1, let z = cs h.0 in let y = h.2 in grind arith, h.3)
      ];
    }
      where
        was : (j : ℕ) → (j ≡ k → ⊥) → has_bit more_cells j ≡ false → has_bit cells j ≡ false
        was j ne off = let z = cs j in grind (arith, nat_tests)

        -- no closed cell had the value
        apart : (j w : ℕ) → j < n → has_bit cells j ≡ false → has j w ≡ true → has k w ≡ true → ⊥
        apart j w lj off on here = true≢false (sym is_open ∙ closed-value j v lj off (ap (has j) (sym (eqb-true w v (sym (alone w) ∙ here))) ∙ on))

    -- a closed cell comes back with its value
    pub reopened-with : has_bit cells k ≡ false → ((j : ℕ) → has_bit more_cells j ≡ (has_bit cells j || eqb j k))
        → ((w : ℕ) → has_bit more_values w ≡ (has_bit values w || eqb w v))
        → IsOpenOf has n more_cells more_values
    reopened-with off_k cs vs = record {
      cells_in = λ j on. elim (or_cases (has_bit cells j) (eqb j k) (sym (cs j) ∙ on)) [
        | inl was ↦ o.cells_in j was
        | inr here ↦ let e = eqb-true j k here in rw e lk
      ];
      values_in = λ w on. elim (or_cases (has_bit values w) (eqb w v) (sym (vs w) ∙ on)) [
        | inl was ↦ o.values_in w was
        | inr here ↦ let e = eqb-true w v here in rw e lv
      ];
      closed = λ j lj off.
          let c = o.closed j lj (was j off) in
          let own_j = c.alone c.value ∙ eq-eqb c.value c.value refl in
          record {
            value = c.value;
            value_in = c.value_in;
            not_open = elim (cases_eq c.value v) [
              | inl e ↦ absurd (ne j off (o.different j k c.value lj lk (was j off) off_k own_j (ap (has k) e ∙ own-has has k v alone)))
              | inr other ↦ let z = vs c.value in let y = c.not_open in grind (arith, nat_tests)
            ];
            alone = c.alone;
          };
      different = λ i j w li lj off_i off_j on_i on_j. o.different i j w li lj (was i off_i) (was j off_j) on_i on_j;
      held = λ w lw off.
          let h = o.held w lw (let z = vs w in grind arith) in
          (h.0, h.1, let z = cs h.0 in let y = h.2 in let other = λ (e : h.0 ≡ k). true≢false (sym (sym (alone w) ∙ ap (λ x. has x w) (sym e) ∙ h.3) ∙ not_here w off) in grind (arith, nat_tests), h.3);
    }
      where
        was : (j : ℕ) → has_bit more_cells j ≡ false → has_bit cells j ≡ false
        was j off = let z = cs j in grind arith

        ne : (j : ℕ) → has_bit more_cells j ≡ false → j ≡ k → ⊥
        ne j off e = true≢false (sym (cs j ∙ (let z = eq-eqb j k e in grind arith)) ∙ off)

        not_here : (w : ℕ) → has_bit more_values w ≡ false → eqb w v ≡ false
        not_here w off = let z = vs w in grind arith

-- numbers that rise are different
pub rising-different : (list : List ℕ) → ((t u : ℕ) → t < u → u < length list → slice_index list t < slice_index list u) → AreDifferent list
rising-different list rising j k lj lk e = elim (cases_lt j k) [
  | inl before ↦ absurd (omega (arith, rising j k before lk, e))
  | inr from ↦ elim (cases_lt k j) [
    | inl after ↦ absurd (omega (arith, rising k j after lj, e))
    | inr upto ↦ omega arith
  ]
]

-- A visit of the open cells alone: the others are settled.
pub open-settled : {n cells values settled : ℕ} {sets rest : List ℕ} → IsOpenOf (has_in sets) n cells values → length sets ≡ n
    → ListsBits cells rest → length rest ≤ n → ((v : ℕ) → has_bit settled v ≡ (ltb v n && not (has_bit values v)))
    → AreSettledBut n sets rest (length sets) settled
open-settled {n} {cells} {values} {settled} {sets} {rest} o square list few is = record {
  few = omega (arith, square);
  within = λ t lt. omega (arith, o.cells_in (slice_index rest t) (list.set t lt), square);
  different = rising-different rest list.rising;
  some = λ k lk out. let c = o.closed k (omega (arith, square)) (off k out) in (c.value, c.alone c.value ∙ eq-eqb c.value c.value refl);
  counts = record {
    has = λ j v on has.
        let lj : j < n = omega (arith, on.0, square) in
        let c = o.closed j lj (away j on.1) in
        let e = eqb-true v c.value (sym (c.alone v) ∙ has) in
        let lv : v < n = omega (arith, e, c.value_in) in
        let z = is v in
        let y = closed-value o j v lj (away j on.1) has in
        grind (arith, nat_tests);
    singles = λ v on.
        let z = is v in
        let lv : v < n = grind (arith, nat_tests) in
        let w = o.held v lv (grind (arith, nat_tests)) in
        let c = o.closed w.0 w.1 w.2 in (
          w.0,
          (omega (arith, w.1, square), λ t le lt e. true≢false (sym (rw e at (list.set t lt)) ∙ w.2)),
          rw (← (eqb-true v c.value (sym (c.alone v) ∙ w.3))) at c.alone,
        );
    shares = λ j k v on_j on_k ne has_j has_k. absurd (ne (o.different j k v (omega (arith, on_j.0, square)) (omega (arith, on_k.0, square)) (away j on_j.1) (away k on_k.1) has_j has_k));
  };
  below = λ v on. let z = is v in grind (arith, nat_tests);
}
  where
    off : (k : ℕ) → IsOutside rest k → has_bit cells k ≡ false
    off k out = false_from_ne_true _ (λ on. let w = list.all k on in out w.0 w.1 w.2)

    away : (k : ℕ) → IsPassedCell rest 0 k → has_bit cells k ≡ false
    away k out = off k (λ t lt e. out t (omega arith) lt e)

-- ---- by bits
-- a bit of the second alone
pub bit-out : (a b k : ℕ) → bit_and a b ≡ 0 → has_bit b k ≡ true → has_bit a k ≡ false
bit-out a b k z on = false_from_ne_true _ (λ there. none_in_zero k (sym (ap (λ x. has_bit x k) z) ∙ both-bits a b k ∙ and_from _ _ there on))

-- the one bit of the second is one of the first
pub bit-in : (a k : ℕ) {b : ℕ} → b < 2 ^ 32 → (bit_and a b ≡ 0 → ⊥) → ((w : ℕ) → has_bit b w ≡ eqb w k) → has_bit a k ≡ true
bit-in a k {b} low some one =
    let at = some_set (bit_and a b) (omega (arith, and_le_r a b)) (grind (arith, nat_tests)) in
    let parts = and_parts (has_bit a at.0) _ (sym (both-bits a b at.0) ∙ at.1) in
    ap (has_bit a) (sym (eqb-true at.0 k (sym (one at.0) ∙ parts.1))) ∙ parts.0

pub one-bit : (bits k : ℕ) → ((v : ℕ) → has_bit bits v ≡ (has_bit 0 v || eqb v k)) → (v : ℕ) → has_bit bits v ≡ eqb v k
one-bit bits k is v = let z = zero-bits v in is v ∙ grind arith

pub closed-set : {has : ℕ → ℕ → Bool} {n cells values k v more_cells more_values : ℕ} (set bit : ℕ) → IsOpenOf has n cells values
    → k < n → v < n → HasAlone has k v → set < 2 ^ 32 → IsSingleSet set v → (bit_and values set ≡ 0 → ⊥)
    → ((j : ℕ) → has_bit bit j ≡ (has_bit 0 j || eqb j k))
    → ((j : ℕ) → has_bit more_cells j ≡ (has_bit cells j && not (has_bit bit j)))
    → ((w : ℕ) → has_bit more_values w ≡ (has_bit values w && not (has_bit set w))) → IsOpenOf has n more_cells more_values
closed-set {cells} {values} {k} set bit o lk lv alone low single some is cs vs =
    closed-with o lk lv alone (bit-in values _ low some single) (λ j. cs j ∙ ap (λ b. has_bit cells j && not b) (one-bit bit k is j))
    (λ w. vs w ∙ ap (λ b. has_bit values w && not b) (single w))

pub reopened-set : {has : ℕ → ℕ → Bool} {n cells values k v more_cells : ℕ} (set bit : ℕ) → IsOpenOf has n cells values
    → k < n → v < n → HasAlone has k v → IsSingleSet set v → bit_and cells bit ≡ 0
    → ((j : ℕ) → has_bit bit j ≡ (has_bit 0 j || eqb j k))
    → ((j : ℕ) → has_bit more_cells j ≡ (has_bit cells j || eqb j k)) → IsOpenOf has n more_cells (bit_or values set)
reopened-set {cells} {values} {k} set bit o lk lv alone single z is cs =
    reopened-with o lk lv alone (bit-out cells bit k z (one-bit bit k is k ∙ eq-eqb k k refl)) cs
    (λ w. either-bits values set w ∙ ap (λ b. has_bit values w || b) (single w))

-- ---- of an answer that may be none
pub some-over : {A B : Type 0} (r : Option Bool) → (A → B) → IfSome r (λ b. A) → IfSome r (λ b. B)
some-over None f x = tt
some-over (Some b) f x = f x

pub none-over : {A B : Type 0} (r : Option Bool) → (A → B) → IfNone r A → IfNone r B
none-over None f x = f x
none-over (Some b) f x = tt

-- ---- the open cells are listed one after another
pub listed-none : (bits : ℕ) → ListsBitsBelow bits 0 []
listed-none bits = record {
  set = λ t lt. absurd (omega arith);
  below = λ t lt. absurd (omega arith);
  rising = λ t u le lu. absurd (omega arith);
  all = λ k on lt. absurd (omega arith);
}

module _ (bits from : ℕ) (list : List ℕ) (l : ListsBitsBelow bits from list) where
  pub listed-next : (k : ℕ) → from ≤ k → has_bit bits k ≡ true → NoneIsSet bits from k → ListsBitsBelow bits (k + 1) (list ++ k ∷ [])
  listed-next k le on none = record {
    set = λ t lt. elim (cases_lt t (length list)) [
      | inl low ↦ rw (first t low) (l.set t low)
      | inr high ↦ rw (last t (omega (arith, longer))) on
    ];
    below = λ t lt. elim (cases_lt t (length list)) [
      | inl low ↦ omega (arith, first t low, l.below t low)
      | inr high ↦ omega (arith, last t (omega (arith, longer)))
    ];
    rising = λ t u before lu. elim (cases_lt u (length list)) [
      | inl low ↦ omega (arith, first t (omega arith), first u low, l.rising t u before low)
      | inr high ↦ omega (arith, longer, first t (omega (arith, longer)), last u (omega (arith, longer)), l.below t (omega (arith, longer)))
    ];
    all = λ j set lt. elim (cases_lt j from) [
      | inl low ↦ let w = l.all j set low in (w.0, omega (arith, w.1, longer), first w.0 w.1 ∙ w.2)
      | inr high ↦ elim (cases_eq j k) [
        | inl e ↦ (length list, omega (arith, longer), last (length list) refl ∙ sym e)
        | inr ne ↦ absurd (none j high (omega arith) set)
      ]
    ];
  }
    where
      longer : length (list ++ k ∷ []) ≡ length list + 1
      longer = length-append list (k ∷ [])

      first : (t : ℕ) → t < length list → slice_index (list ++ k ∷ []) t ≡ slice_index list t
      first t lt = get_or_append_left list (k ∷ []) 0 t lt

      last : (t : ℕ) → length list ≡ t → slice_index (list ++ k ∷ []) t ≡ k
      last t e = get_or_push list k 0 t e

  -- no more are set
  pub listed-all : (n : ℕ) → NoneIsSet bits from n → ((k : ℕ) → has_bit bits k ≡ true → k < n) → ListsBits bits list
  listed-all n none within = record {
    set = l.set;
    rising = l.rising;
    all = λ k on. elim (cases_lt k from) [ inl low ↦ l.all k on low | inr high ↦ absurd (none k high (within k on) on) ];
  }

-- ---- a row that has the sets of all cells
pub row-settled : (n : ℕ) (has : ℕ → ℕ → Bool) {cells values : ℕ} (row : List ℕ) → IsOpenOf has n cells values
    → ((k : ℕ) → k < n → has_bit cells k ≡ false → IsBitsOf (has k) n (slice_index row k)) → IsOpenOf (has_in row) n cells values
row-settled n has {cells} row o bits = open-other o (λ k v lk off.
    let c = o.closed k lk off in
    let b = bits k lk off in
    elim (cases_lt v n) [
      | inl low ↦ b.same v low
      | inr high ↦ ap (λ x. eqb x 1) (bit_at_above (slice_index row k) n v b.small high) ∙ sym (c.alone v ∙ ne_eqb v c.value (λ e. absurd (omega (arith, c.value_in))))
    ])
