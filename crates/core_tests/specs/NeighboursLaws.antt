-- The rule set of neighbours is lawful.
use Rattle.std.proofs.Common.{◌≡◌, ℕ, zero, suc, ◌+◌, ◌-◌, ◌*◌, ◌<◌, ◌≤◌, Bool, true, false, not, ◌&&◌, eqb, List, [], ◌∷◌, slice_index, ap, refl, sym, ◌∙◌, arith, inl, inr, ◌⊎◌}
use Rattle.std.proofs.lemmas.Bool.{and_parts, and_from, eqb-true, eqb-false, eq-eqb, ne_eqb, not-true, not_from_false, false_from_ne_true, true≢false}
use Rattle.std.proofs.Math.Nat.{mul-le-mul_left}
use Rattle.grid_core.specs.Candidates.{Candidates, all_of, single, sum_below, count_below}
use Rattle.grid_core.proofs.BoardLemmas.{all_below-at, any_below-here, any_below-some, count_below-few, count_below-or}
use Rattle.grid_core.proofs.GridLemmas.{all-within, only-has, only-inside, single-all, single-at, single-is}
use Rattle.engine_core.specs.RuleSystem.{IsLawful, after, has_place, share}
use Rattle.engine_core.specs.HouseSets.{AreDifferent}
use Rattle.core_tests.specs.Neighbours.{neighbours, neighbour_has_other, neighbour_strikes, is_row}
use Rattle.std.proofs.lemmas.Grind.{common_steps}

-- ---- the two cells of a house
pub pair-cases : (h c : ℕ) → has_place (h ∷ (h + 1) ∷ []) c ≡ true → (h ≡ c) ⊎ (h + 1 ≡ c)
unfolding has_place
pair-cases h c e = grind (arith, common_steps)

pub pair-has : (h c : ℕ) → h ≤ c → c ≤ h + 1 → has_place (h ∷ (h + 1) ∷ []) c ≡ true
unfolding has_place
pair-has h c low high = grind (arith, common_steps, eq-eqb h c, eq-eqb (h + 1) c)

pub pair-different : (h : ℕ) → AreDifferent (h ∷ (h + 1) ∷ [])
pair-different h e on off also then = grind (arith, common_steps)

-- ---- the bound: a cell is in two houses at most
pub again : (n c : ℕ) → count_below (λ h. has_place (h ∷ (h + 1) ∷ []) c) n - 1 ≤ 1
again n c =
    let a = count_below-few (λ h. eqb h c) n (λ k j _ _ ek ej. eqb-true k c ek ∙ sym (eqb-true j c ej)) in
    let b = count_below-few (λ h. eqb (h + 1) c) n (λ k j _ _ ek ej. omega (arith, eqb-true (k + 1) c ek, eqb-true (j + 1) c ej)) in
    let both = count_below-or (λ h. eqb h c) (λ h. eqb (h + 1) c) (λ h. has_place (h ∷ (h + 1) ∷ []) c) n
    (λ h lt on. grind (arith, common_steps, pair-cases h c on, eq-eqb)) in
    omega (arith, a, b, both)

pub sum_few : (f : ℕ → ℕ) (most n : ℕ) → ((c : ℕ) → f c ≤ most) → sum_below f n ≤ n * most
unfolding sum_below
sum_few f most zero few = omega arith
sum_few f most (suc n) few = let rest = sum_few f most n few in let here = few n in omega arith

-- ---- what a house strikes
pub other-here : (n : ℕ) (set : ℕ → Bool) (v u : ℕ) → u < n → (u ≡ v → ⊥) → set u ≡ true → neighbour_has_other n set v ≡ true
unfolding neighbour_has_other
other-here n set v u lt ne on =
    any_below-here (λ w. not (eqb w v) && set w) n u lt (and_from _ _ (not_from_false _ (ne_eqb u v ne)) on)

pub other-some : (n : ℕ) (set : ℕ → Bool) (v : ℕ) → neighbour_has_other n set v ≡ true
    → (u : ℕ) × (u < n) × (u ≡ v → ⊥) × (set u ≡ true)
unfolding neighbour_has_other
other-some n set v on =
    let w = any_below-some (λ u. not (eqb u v) && set u) n on in
    let both = and_parts (not (eqb w.0 v)) (set w.0) w.2 in
    (w.0, w.1, eqb-false _ _ (not-true _ both.0), both.1)

-- a cell that is struck, and the cell beside it has no other value
pub struck : (n h : ℕ) (K : Candidates) (c v : ℕ) → neighbour_strikes n h K c v ≡ true
    → ((c ≡ h) × (neighbour_has_other n (K (h + 1)) v ≡ false)) ⊎ ((c ≡ h + 1) × (neighbour_has_other n (K h) v ≡ false))
unfolding neighbour_strikes
struck n h K c v on = grind (arith, common_steps)

pub struck-first : (n h : ℕ) (K : Candidates) (v : ℕ) → neighbour_has_other n (K (h + 1)) v ≡ false → neighbour_strikes n h K h v ≡ true
unfolding neighbour_strikes
struck-first n h K v none = grind (arith, common_steps, eq-eqb h h refl)

pub struck-second : (n h : ℕ) (K : Candidates) (v : ℕ) → neighbour_has_other n (K h) v ≡ false → neighbour_strikes n h K (h + 1) v ≡ true
unfolding neighbour_strikes
struck-second n h K v none = grind (arith, common_steps, eq-eqb (h + 1) (h + 1) refl)

fewer : (n : ℕ) (small large : ℕ → Bool) (v : ℕ) → ((u : ℕ) → small u ≡ true → large u ≡ true)
    → neighbour_has_other n large v ≡ false → neighbour_has_other n small v ≡ false
fewer n small large v inside none = false_from_ne_true _ (λ on.
    let w = other-some n small v on in true≢false (sym (other-here n large v w.0 w.1 w.2 (inside w.0 w.3)) ∙ none))

-- of two neighbours that keep a value each, the second has another one after the visit, and so has the first
left-first : (n h : ℕ) (K : Candidates) (v : ℕ) → v < n → K h v ≡ true → neighbour_strikes n h K h v ≡ false
    → neighbour_has_other n (λ u. K (h + 1) u && not (neighbour_strikes n h K (h + 1) u)) v ≡ true
left-first n h K v lt on stays =
    grind (arith, common_steps, other-some n (K (h + 1)) v, other-here n (λ u. K (h + 1) u && not (neighbour_strikes n h K (h + 1) u)) v, λ (u : ℕ). other-here n (K h) u v lt, λ (u : ℕ). struck n h K (h + 1) u, struck-first n h K v)

left-second : (n h : ℕ) (K : Candidates) (v : ℕ) → v < n → K (h + 1) v ≡ true → neighbour_strikes n h K (h + 1) v ≡ false
    → neighbour_has_other n (λ u. K h u && not (neighbour_strikes n h K h u)) v ≡ true
left-second n h K v lt on stays =
    grind (arith, common_steps, other-some n (K h) v, other-here n (λ u. K h u && not (neighbour_strikes n h K h u)) v, λ (u : ℕ). other-here n (K (h + 1)) u v lt, λ (u : ℕ). struck n h K h u, struck-second n h K v)

-- ---- solutions
row-parts : (houses : ℕ) (g : List ℕ) → is_row houses g ≡ true
    → (slice_index g 0 ≡ 0) × ((h : ℕ) → h < houses → slice_index g h ≡ slice_index g (h + 1) → ⊥)
unfolding is_row
row-parts houses g e =
    let w = and_parts (eqb (slice_index g 0) 0) _ e in
    (eqb-true _ _ w.0, λ h lt. eqb-false _ _ (not-true _ (all_below-at (λ h. not (eqb (slice_index g h) (slice_index g (h + 1)))) houses h w.1 lt)))

pub neighbours-lawful : (queue : Bool) (cells values : ℕ) → 2 ≤ cells → cells ≤ 65536 → 1 ≤ values → values ≤ 31
    → IsLawful (neighbours queue cells values)
unfolding after share
neighbours-lawful queue cells values two few_cells some few_values = record {
  strikes_inside = λ h K L lt inside c v on. elim (struck values h L c v on) [
    | inl w ↦ rw w.0 (struck-first values h K v (fewer values (K (h + 1)) (L (h + 1)) v (λ u. inside (h + 1) u (pair-has h _ (omega arith) (omega arith))) w.1))
    | inr w ↦ rw w.0 (struck-second values h K v (fewer values (K h) (L h) v (λ u. inside h u (pair-has h _ (omega arith) (omega arith))) w.1))
  ];
  strikes_in_scope = λ h K c v lt on. elim (struck values h K c v on) [ inl w ↦ rw w.0 (pair-has h _ (omega arith) (omega arith)) | inr w ↦ rw w.0 (pair-has h _ (omega arith) (omega arith)) ];
  solutions_start = λ g grid good. only-has (all_of cells values) 0 0 g (single-all grid) (row-parts (cells - 1) g good).0;
  solutions_closed = λ g grid good h c v lt on.
      let parts = row-parts (cells - 1) g good in
      let at = single-is g c v on in
      let e = grid.each_cell in
      let beside = λ (b : ℕ) (less : b < cells) (ne : slice_index g b ≡ v → ⊥). other-here values (single g b) v (slice_index g b) (grid.each_value b 0 (omega arith)) ne (single-at g b (omega arith)) in
      false_from_ne_true _ (λ s. elim (struck values h (single g) c v s) [
        | inl w ↦ true≢false (sym (beside (h + 1) (omega arith) (λ f. parts.1 h lt (ap (slice_index g) (sym w.0) ∙ at.1 ∙ sym f))) ∙ w.1)
        | inr w ↦ true≢false (sym (beside h (omega arith) (λ f. parts.1 h lt (f ∙ sym at.1 ∙ ap (slice_index g) w.0))) ∙ w.1)
      ]);
  settles = λ settled h K c v lt low on.
      let both = and_parts (K c v) _ on in
      false_from_ne_true _ (λ s. elim (struck values h (after (neighbours queue cells values) h K) c v s) [
        | inl w ↦ true≢false (sym (left-first values h K v low (ap (λ d. K d v) (sym w.0) ∙ both.0) (ap (λ d. neighbour_strikes values h K d v) (sym w.0) ∙ not-true _ both.1)) ∙ w.1)
        | inr w ↦ true≢false (sym (left-second values h K v low (ap (λ d. K d v) (sym w.0) ∙ both.0) (ap (λ d. neighbour_strikes values h K d v) (sym w.0) ∙ not-true _ both.1)) ∙ w.1)
      ]);
  bound_of_queue = λ e.
      let few = sum_few (λ c. (values - 1) * (count_below (λ h. has_place (h ∷ (h + 1) ∷ []) c) (cells - 1) - 1)) (values - 1) cells
      (λ c. let one = mul-le-mul_left (values - 1) (again (cells - 1) c) in omega (arith, one)) in omega (arith, few);
  bound_of_sweeps = λ e. omega arith;
  some_values = some;
  few_values = few_values;
  few_cells = few_cells;
  start_within = λ c v on. all-within values c v (only-inside (all_of cells values) 0 0 c v on);
  scope_within = λ h c lt member. elim (pair-cases h c member) [ inl e ↦ omega arith | inr e ↦ omega arith ];
  scope_distinct = λ h j k lt lj lk e. pair-different h j k lj lk e;
}
