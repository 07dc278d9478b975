use Rattle.engine_core.proofs.Common.{AreSetsOf, AreWoken, Candidates, IsInside, any_below, calls, counts_of, has, is_waiting}
use Rattle.engine_core.proofs.closing.marking.mark_changed.Given as goal

abbrev pub invariant-loop-k : goal.invariant-loop-k
invariant-loop-k g l =
    let p = g.R.Rules.system l.rules in
    (K : Candidates) → AreSetsOf p l.house K l.sets → IsInside (has l.board) K
    → AreWoken p (λ j. any_below (calls p l.house (counts_of p l.house K) (has l.board) j) l.k) (is_waiting l.fn.waits) (is_waiting l.waits)
