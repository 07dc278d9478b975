use Rattle.engine_core.proofs.Common.{AreWoken, has, is_since, is_waiting}
use Rattle.engine_core.specs.Keeping.{StillServes}
use Rattle.engine_core.proofs.trail.noting.wake_since.Given as goal

abbrev pub invariant-loop-number : goal.invariant-loop-number
invariant-loop-number g l =
    let puzzle = g.S.RuleSet.puzzle_of l.rules.set in
    let p = g.S.RuleSet.system puzzle in
    record {
      woken : AreWoken p (is_since p l.trailed l.from l.number) (is_waiting l.fn.waits) (is_waiting l.waits);
      noted : g.S.Notes.Notes.noted puzzle (has l.trailed.board) l.notes;
      keeps : StillServes g.S.Notes.Notes.made_for l.fn.notes l.notes;
    }
