use Rattle.pattern_core.proofs.Common.{AreLinesWithin, IsRunning, List, length, line_rules, waiting, ℕ, ◌-◌, ◌≡◌}
use Rattle.grid_core.specs.Planes.{IsFurther, planes_have}
use Rattle.pattern_core.proofs.planes.close.close.Given as goal

abbrev pub invariant-loop-line : goal.invariant-loop-line
invariant-loop-line g l =
    let pat = l.rules.pattern in
    record {
      visits : List ℕ;
      counted : length visits ≡ l.turns;
      running : IsRunning (line_rules pat) (planes_have l.fn.planes) visits (planes_have l.planes) (waiting g.W.Word.bits pat.size l.waits);
      within : AreLinesWithin g.W.Word.bits pat.size l.waits;
      further : IsFurther l.fn.planes l.planes;
    }

abbrev pub decreases-loop-line : goal.decreases-loop-line
decreases-loop-line g l = (line_rules l.rules.pattern).bound - l.turns
