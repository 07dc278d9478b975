use Rattle.fields_core.proofs.Common.{AreVisited, column_house, houses_below, light_cells, lit_house, row_house, ◌++◌, ◌∙◌}
use Rattle.fields_core.proofs.LightRunOrder.{column-runs-visited, row-runs-are}
use Rattle.fields_core.proofs.VisitLemmas.{visited-dead, visited-more}
use Rattle.fields_core.proofs.planes.light_up.light_notes.LightNotes.sweep_white.Goals as goal
use Rattle.fields_core.proofs.planes.light_up.light_notes.LightNotes.sweep_white.Goals.{Joined-sweep_runs, then-sweep_runs, else-sweep_runs}

runs : (g : _) (c : Joined-sweep_runs g) → AreVisited (houses_below (row_house c.args.puzzle.now) (light_cells c.args.puzzle.now)
    ++ houses_below (column_house c.args.puzzle.now) (light_cells c.args.puzzle.now)) c.args.planes.now c.if-sweep_runs.planes c.if-sweep_runs.value
runs g c =
    let p = c.args.puzzle.now in let first = rw (row-runs-are p) at c.sweep_runs.ensures.visited in
    let of = c.requires.ready.planes_of in
    elim c.if-sweep_runs.branch [
      | then-sweep_runs w ↦ rw (w.planes-is, w.value-is) (visited-more first w.if-sweep_runs.true
          (column-runs-visited of.lawful (first.further.same_size ∙ of.size) first.alive w.sweep_runs-then-sweep_runs.ensures.visited))
      | else-sweep_runs w ↦ rw (w.planes-is, w.value-is) (visited-dead (houses_below (column_house p) (light_cells p)) first w.if-sweep_runs.false)
    ]

pub returns-then-sweep_runs-2-clause-visited : goal.returns-then-sweep_runs-2-clause-visited
returns-then-sweep_runs-2-clause-visited g c =
    visited-more (runs g (goal.at.returns-then-sweep_runs-2-clause-visited g c).Joined-sweep_runs) c.if-sweep_runs-2.true c.sweep_cells.ensures.visited

pub returns-else-sweep_runs-2-clause-visited : goal.returns-else-sweep_runs-2-clause-visited
returns-else-sweep_runs-2-clause-visited g c =
    visited-dead (houses_below (lit_house c.args.puzzle.now) (light_cells c.args.puzzle.now)) (runs g (goal.at.returns-else-sweep_runs-2-clause-visited g c).Joined-sweep_runs) c.if-sweep_runs-2.false
