use Rattle.gameid_core.specs.Common.{AgreeUpTo, FitUpTo, List, length, row_text, ℕ, ◌*◌, ◌++◌, ◌+◌, ◌≡◌}
use Rattle.gameid_core.specs.PrintedForm.{IsShownIn}
use Rattle.gameid_core.proofs.PrintedGrids.{Left}
use Rattle.gameid_core.proofs.grids.reader.read_row.Given as goal

abbrev pub invariant-loop-x : goal.invariant-loop-x
invariant-loop-x g l = record {
  cells : length l.grid ≡ length l.fn.grid;
  fit : FitUpTo (g.P.Readable.hides l.puzzle) (g.P.Printed.value_count l.puzzle) l.fn.grid (l.y * l.w)
      → FitUpTo (g.P.Readable.hides l.puzzle) (g.P.Printed.value_count l.puzzle) l.grid (l.y * l.w + l.x);
  read : (grid : List ℕ) (more : List ℕ) → IsShownIn g.P.Printed g.P.Readable.hides l.puzzle grid
      → l.fn.text ≡ row_text (g.P.Printed.cell_text l.puzzle grid) (g.P.Printed.extent l.puzzle) l.y ++ more
      → AgreeUpTo l.fn.grid grid (l.y * l.w)
      → Left (λ x. g.P.Printed.cell_text l.puzzle grid (l.y * l.w + x)) l.w more l.x l.rest × AgreeUpTo l.grid grid (l.y * l.w + l.x);
}
