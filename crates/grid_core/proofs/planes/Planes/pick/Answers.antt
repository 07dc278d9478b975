use Rattle.grid_core.proofs.Common.{and_parts, ap, arith, plane_cells, planes_have, pick, refl, sym, ℕ, ◌*◌, ◌<◌, ◌∙◌, ◌≡◌}
use Rattle.grid_core.proofs.RegionLemmas.{few_cells}
use Rattle.grid_core.proofs.PlaneLemmas.{place-in}
use Rattle.grid_core.proofs.PlaneSteps.{IsOpenRow, pick-row_none, pick-row_some}
use Rattle.grid_core.proofs.planes.Planes.pick.Goals as goal
use Rattle.grid_core.proofs.planes.Planes.pick.Goals.{After-is_some, After-lowest}

open_row : (g : _) (c : After-is_some g) → IsOpenRow c.args.self.now c.loop-y.y (g.W.Word.bits c.both-open.result)
open_row g c = record { is = λ x. c.both-open.ensures x ∙ rw (c.row.ensures.cells x, c.row-in-loop-y.ensures.cells x) refl }

-- the lowest open cell of the row is one of its cells
column_in : (g : _) (c : After-lowest g) → c.lowest.result < c.args.self.now.size.w
column_in g c =
    c.row.ensures.within c.lowest.result (and_parts _ _ (sym (c.both-open.ensures c.lowest.result) ∙ c.lowest.ensures.has)).0

row_in : (g : _) (c : After-lowest g) → c.loop-y.y < c.args.self.now.size.h
row_in g c = rw (c.size-size.ensures.value) at (rw (c.h-y-end.ensures.value) at c.loop-y-test.true)

pub overflow_add-result : goal.overflow_add-result
overflow_add-result g c =
    let p = c.args.self.now in
    let at = (goal.at.overflow_add-result g c).After-lowest in
    let lawful = rw (c.size-size.ensures.value) at c.h-y-end.ensures.lawful in
    let w_is : c.from-then-is_some.result ≡ p.size.w = rw (c.w.ensures.value, c.size-size.ensures.value) at c.from-then-is_some.ensures in
    let few = few_cells p.size lawful in
    let here = place-in p.size.w p.size.h c.loop-y.y c.lowest.result (row_in g at) (column_in g at) in
    rw (c.from.ensures, w_is) (omega (arith, few, here))

pub loop-y-preserved : goal.loop-y-preserved
loop-y-preserved g c =
    pick-row_none c.args.self.now g.W.Word.room c.loop-y.y (g.W.Word.bits c.both-open.result) c.size-size.ensures.lawful.narrow c.loop-y.invariant
    (open_row g (goal.at.loop-y-preserved g c).After-is_some) (sym c.is_some.ensures ∙ c.if-is_some.false)

pub returns-then-is_some : goal.returns-then-is_some
returns-then-is_some g c =
    let p = c.args.self.now in
    let at = goal.at.returns-then-is_some g c in
    let w_is : c.from-then-is_some.result ≡ p.size.w = rw (c.w.ensures.value, c.size-size.ensures.value) at c.from-then-is_some.ensures in
    rw (c.from.ensures, w_is)
    (sym (pick-row_some p g.W.Word.room c.loop-y.y (g.W.Word.bits c.both-open.result)
    c.lowest.result (row_in g at.After-lowest) (column_in g at.After-lowest) c.loop-y.invariant
    (open_row g at.After-is_some) c.lowest.ensures))

pub returns : goal.returns
returns g c =
    let p = c.args.self.now in
    let end : c.h-y-end.result ≡ p.size.h = rw (c.size-size.ensures.value) at c.h-y-end.ensures.value in
    let last : c.loop-y.y ≡ p.size.h = (let b = c.loop-y.auto.y-end in let e = c.loop-y-test.false in omega arith) in
    let all : c.loop-y.y * p.size.w ≡ plane_cells p = rw last (omega arith) in
    sym c.loop-y.invariant ∙ ap (λ (n : ℕ). pick n 2 (planes_have p)) all
