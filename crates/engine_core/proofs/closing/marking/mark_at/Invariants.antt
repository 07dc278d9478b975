use Rattle.engine_core.proofs.Common.{AreWoken, has_place, is_waiting, ltb, ◌&&◌, ◌≤◌}
use Rattle.engine_core.proofs.closing.marking.mark_at.Given as goal

abbrev pub invariant-loop-other : goal.invariant-loop-other
invariant-loop-other g l =
    let p = g.R.Rules.system l.rules in
    record {
      past : l._other ≤ l.from;
      woken : AreWoken p (λ j. has_place (p.scope j) l.place && ltb j l.from) (is_waiting l.fn.waits) (is_waiting l.waits);
    }
