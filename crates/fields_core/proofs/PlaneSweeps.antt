-- Sweeps of planes, closings by them, and lines that wait.
use Rattle.fields_core.proofs.Common.{AreHouses, AreLinesOf, AreMet, ArePlanesAlive, AreSpread, AreVisited, Bool, Candidates, CountHouse, CountPuzzle, Dead, IsClosedAround, IsClosedGrid, IsClosing, IsCounting, IsFurther, IsInside, IsLostIn, IsSweep, IsWithin, Layers, List, Open, RuleSystem, Touched, [], after_visits, and_parts, ap, arith, back_at, by_fillings-met, cases_Bool, cases_eq, plane_cells, common_steps, count-lawful, count_below, count_below-pos, count_house_of, count_puzzle, counts_between, false, false_from_ne_true, further-more, further-none, planes_have, has_bit, has_place-here, inl, inr, is_dead, is_dead-each, is_dead-here, is_dead-not, lt-ltb, ltb, max, max_cells, meets_house, only-inside, only-other, or_parts, refl, rules_of, single-at, slice_index, start_of, strikes_of, swept_by, sym, total, true, true≢false, within_inside, ℕ, ◌%◌, ◌&&◌, ◌*◌, ◌+◌, ◌-◌, ◌/◌, ◌<◌, ◌∙◌, ◌≡◌, ◌≤◌, ◌⊎◌}
use Rattle.engine_core.proofs.SweepLemmas.{IsSwept, fewer, sweep-shut, swept-dead, swept-first, swept-idle, swept-turn}
use Rattle.fields_core.proofs.VisitLemmas.{IsBinaryAlive, replay-visits}
use Rattle.engine_core.proofs.QueueLemmas.{alive_around}
use Rattle.grid_core.specs.Planes.{no_taking, turned_by}
use Rattle.grid_core.proofs.TakingLemmas.{put_back-none}
use Rattle.fields_core.proofs.BesideLemmas.{IsNextTo}

-- Sweeps of the count houses of a puzzle on planes, and closings by them.

-- ---- each cell has a value
none-counted : (K : Candidates) (c : ℕ) → ((v : ℕ) → v < 2 → K c v ≡ false) → count_below (K c) 2 ≡ 0
unfolding count_below
none-counted K c none = rw (none 0 (omega arith), none 1 (omega arith)) refl

some-counted : (K : Candidates) (c : ℕ) → (K c 0 ≡ true) ⊎ (K c 1 ≡ true) → 0 < count_below (K c) 2
some-counted K c (inl zero) = count_below-pos (K c) 2 0 (omega arith) zero
some-counted K c (inr one) = count_below-pos (K c) 2 1 (omega arith) one

pub counted-some : (K : Candidates) (c : ℕ) → 0 < count_below (K c) 2 → (K c 0 ≡ true) ⊎ (K c 1 ≡ true)
unfolding count_below
counted-some K c some = grind (arith, common_steps, cases_Bool (K c 0), cases_Bool (K c 1))

pub cells-alive : {cells : ℕ} (s : Layers) → plane_cells s ≡ cells → is_dead cells 2 (planes_have s) ≡ false → ArePlanesAlive s
cells-alive {cells} s size alive = λ c lt. counted-some (planes_have s) c (is_dead-not cells 2 (planes_have s) c alive (rw size at lt))

pub alive-cells : {cells : ℕ} (s : Layers) → plane_cells s ≡ cells → ArePlanesAlive s → is_dead cells 2 (planes_have s) ≡ false
alive-cells {cells} s size alive = grind (arith, common_steps, is_dead-each, some-counted)

-- so many sweeps took the planes from the first to the second, and each took something
pub record AreSweepsOf (p : RuleSystem) (from : Layers) (sweeps : ℕ) (to : Layers) : Type 0 where
  pub alive : ArePlanesAlive to
  pub swept : IsSwept p (planes_have from) sweeps (planes_have to)
  pub further : IsFurther from to

module _ (cells : ℕ) (blocked : ℕ → Bool) (houses : List CountHouse) (is_solution : List ℕ → Bool) where
  abbrev rules : RuleSystem
  rules = count_puzzle cells blocked houses is_solution

  -- ---- one sweep
  pub visits-swept : {from to : Layers} {fills : Bool} → plane_cells from ≡ cells → AreVisited houses from to fills → IsSweep rules from to fills
  visits-swept {from} size visited =
      let is = replay-visits cells blocked houses is_solution (planes_have from) in
      record {
        left = λ e. visited.left e ∙ sym is;
        dies = λ e. let w = visited.dies e in rw is
            (is_dead-here cells 2 (after_visits houses (planes_have from)) w.0 (rw size at w.1)
            (none-counted (after_visits houses (planes_have from)) w.0 w.2));
        alive = visited.alive;
        further = visited.further;
      }

  -- ---- sweeps up to the last
  pub sweeps-none : {from : Layers} → plane_cells from ≡ cells → ArePlanesAlive from → AreSweepsOf rules from 0 from
  sweeps-none {from} size alive = record {
    alive = alive;
    swept = swept-first rules (planes_have from) (alive-cells from size alive);
    further = further-none from;
  }

  module _ {from : Layers} {sweeps : ℕ} {to next : Layers} {fills : Bool}
      (counting : IsCounting cells blocked houses is_solution) (size : plane_cells from ≡ cells) (within : IsWithin cells 2 (planes_have from))
      (s : AreSweepsOf rules from sweeps to) (sweep : IsSweep rules to next fills) where
    within-to : IsWithin cells 2 (planes_have to)
    within-to = within_inside cells 2 (planes_have to) (planes_have from) within s.further.inside

    pub sweeps-few : sweeps ≤ max_cells * 2
    sweeps-few = omega (arith, s.swept.enough, counting.few_cells)

    pub sweeps-fewer : fills ≡ true → to.len < next.len → total cells 2 (planes_have next) < total cells 2 (planes_have to)
    sweeps-fewer full more = fewer rules (planes_have to) (planes_have next) within-to (sweep.left full) (sweep.further.lost more)

    pub sweeps-turn : fills ≡ true → to.len < next.len → AreSweepsOf rules from (sweeps + 1) next
    sweeps-turn full more = record {
      alive = sweep.alive;
      swept = swept-turn rules (planes_have from) sweeps (planes_have to) (planes_have next) s.swept within-to (sweep.left full) (sweep.further.lost more) (alive-cells next (rw (sweep.further.same_size) (rw (s.further.same_size) size)) sweep.alive);
      further = further-more from to next s.further sweep.further;
    }

    pub closed-dead : fills ≡ false → IsClosing rules (planes_have from) (swept_by rules (planes_have to)) Dead [] (sweeps + 1)
    closed-dead none = swept-dead rules (count-lawful _ _ _ _ counting) (planes_have from) sweeps (planes_have to) refl within s.swept (sweep.dies none)

    pub closed-open : fills ≡ true → next.len ≡ to.len → IsClosing rules (planes_have from) (planes_have next) Open [] (max sweeps 1)
    closed-open full same =
        let idle = sweep.further.same same in
        swept-idle (count-lawful _ _ _ _ counting) sweeps refl within s.swept (sweep.left full) idle
        (sweep-shut rules (planes_have to) (sym (sweep.left full) ∙ idle))

-- ---- closed grids
-- a grid from which no house strikes anything meets each house with a cell
pub closed-met : (p : CountPuzzle) {g : List ℕ} → AreHouses p.cells p.houses → IsClosedGrid (rules_of p) g → AreMet p g
unfolding start_of meets_house strikes_of
closed-met p {g} houses grid = record {
  blocked_zero = λ c lt blocked.
      grind (arith, common_steps, grid.inside c (slice_index g c) (single-at g c (omega (arith, grid.fits.each_cell))), and_parts, grid.fits.each_value c 0);
  meets_each = λ h lt some.
      let house = count_house_of p.houses h in let is = houses h lt in
      by_fillings-met 2 house.places (counts_between house.least house.most) g is.different some
      (λ k less. omega (arith, grid.fits.each_cell, is.within (slice_index house.places k) (has_place-here house.places k less)))
      (λ c less. grid.fits.each_value c 0 less) (λ c v. grid.closed h c v lt);
}

-- Lines that wait: what is beside lines that have changed, and which cells have lost values.

-- a line that does not wait is none of these, nor beside one
pub spread-off : {W : Type 0} (bits : W → ℕ) {room : ℕ} (before : W) (lines : ℕ → Bool) (now : W) → AreSpread bits room before lines now
    → {j k : ℕ} → lines j ≡ true → k < room → has_bit (bits now) k ≡ false → IsNextTo j k → ⊥
spread-off bits {room} before lines now woken {j} {k} on lt off (inl own) = grind (arith, common_steps, or_parts)
spread-off bits {room} before lines now woken {j} {k} on lt off (inr (inl above)) =
    let at : j ≡ k - 1 = omega (arith, above) in
    let f : (ltb k room && (ltb 0 k && lines (k - 1))) ≡ false =
    (or_parts _ _ (or_parts _ _ (or_parts _ _ (sym (woken k) ∙ off)).1).0).0 in
    true≢false (rw (lt-ltb _ _ lt, lt-ltb 0 k (omega (arith, above)), rw at at on) at f)
spread-off bits {room} before lines now woken {j} {k} on lt off (inr (inr below)) = grind (arith, common_steps, or_parts)

-- what keeps a value that it had, unless it is lost
pub value-kept : {K L : Candidates} (c v : ℕ) → IsInside L K → (K c v ≡ true → L c v ≡ false → ⊥) → L c v ≡ K c v
value-kept {K} {L} c v inside never = grind (arith, common_steps, cases_Bool, false_from_ne_true)

-- the board when the trail had that length
pub back-whole : {from to : Layers} {len : ℕ} → from.len ≡ len → IsFurther from to → back_at to len ≡ planes_have from
back-whole {from} is further = rw (← is) (further.back from.len (omega arith) ∙ put_back-none (turned_by from.size.w) no_taking (planes_have from) from.takings from.len from.len (omega arith))

-- ---- a board that is closed but around a cell
module _ (p : CountPuzzle) {K : Candidates} {place : ℕ} (around : IsClosedAround (rules_of p) K place) where
  pub around-inside : IsInside K around.before
  around-inside = rw (around.is) (only-inside around.before place around.value)

  pub full-before : IsBinaryAlive p.cells around.before
  full-before = record { low = λ c v on. (around.within c v on).1; some = λ c lt. counted-some around.before c (is_dead-not p.cells 2 around.before c around.alive lt) }

  pub full-around : IsBinaryAlive p.cells K
  full-around = record {
    low = λ c v on. full-before.low c v (around-inside c v on);
    some = λ c lt. counted-some K c (is_dead-not p.cells 2 K c (alive_around around) lt);
  }

  -- the cell has a value
  pub around-some : K place 1 ≡ false → K place 0 ≡ false → ⊥
  around-some no_one no_zero = grind (arith, common_steps, full-around)

  -- and alone has lost one
  pub around-lost : {W : Type 0} (bits : W → ℕ) (w v : ℕ) (lines : Touched W) → (K place v ≡ false → AreLinesOf bits lines (place / w) (place % w))
      → IsLostIn bits w v around.before K lines
  around-lost bits w v lines own c on gone = elim (cases_eq c place) [
    | inl e ↦ rw e (own (rw e at gone))
    | inr ne ↦ absurd (true≢false (sym on ∙ sym (ap (λ (f : ℕ → Bool). f v) (only-other around.before place around.value c ne)) ∙ rw (around.is) at gone))
  ]
