-- Steps of the tests' rule set of neighbours.
use Rattle.std.proofs.Common.{Bool, List, [], add-one, arith, eqb, false, inl, inr, not, refl, slice_index, true, w32, ℕ, ◌&&◌, ◌+◌, ◌<◌, ◌^◌, ◌∙◌, ◌∷◌, ◌≡◌, ◌≤◌}
use Rattle.std.proofs.lemmas.Bool.{cases_Bool, cases_eq, false_from_ne_true}
use Rattle.std.proofs.Math.Path.{fun_ext}
use Rattle.std.proofs.lemmas.Grind.{common_steps}
use Rattle.std.proofs.lemmas.Nat.Bits.{bit_at_not, bit_at-lt}
use Rattle.std.specs.Int.{bit_at, bit_not}
use Rattle.grid_core.proofs.BoardLemmas.{count_below-few, count_below-one, count_below-pos, least_below-passes}
use Rattle.grid_core.specs.Candidates.{Candidates, all_below, any_below, count_below}
use Rattle.engine_core.specs.HouseSets.{kept_in}
use Rattle.engine_core.specs.RuleSystem.{has_place}
use Rattle.core_tests.specs.Neighbours.{neighbour_has_other, is_row, neighbour_strikes}
use Rattle.core_tests.specs.NeighboursLaws.{pair-cases, other-here, other-some}

pub pair-out : (h c : ℕ) → (h ≤ c → c ≤ h + 1 → ⊥) → has_place (h ∷ (h + 1) ∷ []) c ≡ false
pair-out h c out = false_from_ne_true _ (λ on. elim (pair-cases h c on) [ inl e ↦ out (omega arith) (omega arith) | inr e ↦ out (omega arith) (omega arith) ])

-- ---- whether a set has another value, by how many it has
pub other-none : (n : ℕ) (set : ℕ → Bool) (v : ℕ) → count_below set n ≡ 0 → neighbour_has_other n set v ≡ false
other-none n set v e = false_from_ne_true _ (λ on.
    let w = other-some n set v on in let some = count_below-pos set n w.0 w.1 w.3 in omega (arith, some, e))

pub other-one : (n : ℕ) (set : ℕ → Bool) (v : ℕ) → count_below set n ≡ 1 → v < n → neighbour_has_other n set v ≡ not (set v)
other-one n set v e lt =
    let first = least_below-passes set n (omega (arith, e)) in
    let same = λ (u : ℕ) (less : u < n) (on : set u ≡ true) (also : set v ≡ true). count_below-one set n u v (omega (arith, e)) less lt on also in
    grind (arith, common_steps, first, same, other-some n set v, other-here n set v)

pub other-more : (n : ℕ) (set : ℕ → Bool) (v : ℕ) → 2 ≤ count_below set n → neighbour_has_other n set v ≡ true
other-more n set v more = elim (cases_Bool (neighbour_has_other n set v)) [
  | inl on ↦ on
  | inr none ↦
      let few = count_below-few set n (λ k j lk lj on also. grind (arith, common_steps, cases_eq k v, cases_eq j v, other-here n set v)) in
      absurd (omega (arith, few, more))
]

-- the bits but those of a set
pub flipped : (bits v : ℕ) → bits < 2 ^ 32 → v < 32 → eqb (bit_at (bit_not w32 bits) v) 1 ≡ not (eqb (bit_at bits v) 1)
flipped bits v small lt = grind (arith, common_steps, bit_at_not w32 bits v small lt, bit_at-lt bits v)

kept_bit : (x y z : Bool) → (x ≡ true → y ≡ z) → (x && y) ≡ (x && z)
kept_bit x y z e = grind (arith, common_steps)

-- ---- a visit
pub visited : {K K' : Candidates} {n : ℕ} (h a b : ℕ) → ((c v : ℕ) → K c v ≡ true → v < n)
    → ((v : ℕ) → v < n → eqb (bit_at a v) 1 ≡ neighbour_has_other n (K (h + 1)) v)
    → ((v : ℕ) → v < n → eqb (bit_at b v) 1 ≡ neighbour_has_other n (K h) v)
    → K' ≡ kept_in (h ∷ (h + 1) ∷ []) (a ∷ b ∷ []) 2 K → K' ≡ (λ c v. K c v && not (neighbour_strikes n h K c v))
unfolding kept_in neighbour_strikes any_below
visited {K} {K'} {n} h a b within first second e = e ∙ (fun_ext λ c. fun_ext λ v. kept_bit (K c v) _ _ (λ on.
    let lt = within c v on in rw (first v lt, second v lt) refl))

-- ---- solutions
pub row-first : {x : ℕ} (g : List ℕ) → x ≡ slice_index g 0 → eqb x 0 ≡ is_row 0 g
unfolding is_row all_below
row-first g e = grind (arith, common_steps)

pub row-more : {x y : ℕ} {b : Bool} (n : ℕ) (g : List ℕ) → b ≡ is_row n g → x ≡ slice_index g n → y ≡ slice_index g (n + 1)
    → (b && not (eqb x y)) ≡ is_row (n + 1) g
unfolding is_row all_below
row-more n g e first second = rw (add-one, e, first, second) (grind (arith, common_steps))
