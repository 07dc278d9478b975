use Rattle.engine_core.proofs.Common.{any_below, counts_of, eqb, has, ◌≡◌}
use Rattle.engine_core.proofs.closing.marking.is_house_dead.Given as goal

abbrev pub invariant-loop-k : goal.invariant-loop-k
invariant-loop-k g l = l.dead ≡ any_below (λ k. eqb (counts_of (g.R.Rules.system l.rules) l.house (has l.board) k) 0) l.k
