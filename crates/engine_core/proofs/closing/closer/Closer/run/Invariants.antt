use Rattle.engine_core.proofs.Common.{SameRoom, false, has, is_dead, is_waiting, true, ◌*◌, ◌+◌, ◌-◌, ◌≡◌, ◌≤◌}
use Rattle.engine_core.proofs.AroundLemmas.{IsQueuedBy, IsSweepStriking}
use Rattle.engine_core.proofs.closing.closer.Closer.run.Given as goal

abbrev pub invariant-loop-house : goal.invariant-loop-house
invariant-loop-house g l =
    let p = g.R.Rules.system l.rules in
    record {
      past : l.from ≤ p.houses;
      dead : is_dead p.cells p.values (has l.self.board) ≡ l.dead;
      queued : p.by_queue ≡ true
          → IsQueuedBy p (has l.fn.self.board) l.turns l.self.trace (has l.self.board) (is_waiting l.self.waits) l.dead;
      striking : p.by_queue ≡ false → IsSweepStriking p (has l.fn.self.board) l.turns l.from (has l.self.board) (is_waiting l.self.waits) l.struck;
      room : SameRoom l.fn.self l.self;
    }

-- each step makes a turn, or goes on to a later house
abbrev pub decreases-loop-house : goal.decreases-loop-house
decreases-loop-house g l =
    let p = g.R.Rules.system l.rules in (p.bound - l.turns) * (p.houses + 1) + (p.houses - l.from)
