use Rattle.pattern_core.proofs.Common.{eqb, ltb, slice_index, ◌%◌, ◌≡◌}
use Rattle.pattern_core.proofs.LineWords.{IsShownTo}
use Rattle.pattern_core.proofs.planes.filter.Cells.of.Given as goal

abbrev pub invariant-loop-k : goal.invariant-loop-k
invariant-loop-k g l =
    IsShownTo (g.W.Word.bits l.cells.white) (λ k on. on ≡ eqb (slice_index l.sets k % 2) 1) l.k
    × IsShownTo (g.W.Word.bits l.cells.black) (λ k on. on ≡ ltb 1 (slice_index l.sets k)) l.k
