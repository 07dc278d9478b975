use Rattle.engine_core.proofs.Common.{GoesOn, IsAlong, List, board_in, is_waiting, length, ℕ, ◌-◌, ◌≡◌}
use Rattle.engine_core.proofs.ListLemmas.{IsRunning}
use Rattle.engine_core.proofs.trail.position.TrailPosition.run.Given as goal

abbrev pub invariant-loop-house : goal.invariant-loop-house
invariant-loop-house g l =
    let p = g.S.RuleSet.system (g.S.RuleSet.puzzle_of l.rules.set) in
    record {
      visits : List ℕ;
      counted : length visits ≡ l.turns;
      running : IsRunning p (board_in l.fn.self) visits (board_in l.self) (is_waiting l.self.waits);
      along : IsAlong (g.S.Notes.Notes.noted (g.S.RuleSet.puzzle_of l.rules.set)) p l.self;
      onward : GoesOn l.fn.self l.self;
    }

-- each step makes a visit
abbrev pub decreases-loop-house : goal.decreases-loop-house
decreases-loop-house g l = (g.S.RuleSet.system (g.S.RuleSet.puzzle_of l.rules.set)).bound - l.turns
