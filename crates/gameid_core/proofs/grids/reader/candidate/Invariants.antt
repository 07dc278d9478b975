use Rattle.gameid_core.specs.Common.{AgreeUpTo, FitUpTo, List, length, row_text, ℕ, ◌*◌, ◌++◌, ◌≡◌}
use Rattle.gameid_core.specs.PrintedForm.{IsShownIn, printed_grid}
use Rattle.gameid_core.proofs.PrintedGrids.{LeftOf}
use Rattle.gameid_core.proofs.grids.reader.candidate.Given as goal

abbrev pub invariant-loop-y : goal.invariant-loop-y
invariant-loop-y g l = record {
  cells : length l.grid ≡ (g.P.Printed.extent l.puzzle).w * (g.P.Printed.extent l.puzzle).h;
  fit : FitUpTo (g.P.Readable.hides l.puzzle) (g.P.Printed.value_count l.puzzle) l.grid (l.y * (g.P.Printed.extent l.puzzle).w);
  read : (grid : List ℕ) (more : List ℕ) → IsShownIn g.P.Printed g.P.Readable.hides l.puzzle grid
      → l.fn.text ≡ printed_grid g.P.Printed l.puzzle grid ++ more
      → LeftOf (row_text (g.P.Printed.cell_text l.puzzle grid) (g.P.Printed.extent l.puzzle)) (g.P.Printed.extent l.puzzle).h more l.y l.rest
      × AgreeUpTo l.grid grid (l.y * (g.P.Printed.extent l.puzzle).w);
}
