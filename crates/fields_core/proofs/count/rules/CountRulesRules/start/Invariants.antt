use Rattle.fields_core.proofs.Common.{SameShape}
use Rattle.grid_core.specs.Board.{has}
use Rattle.fields_core.proofs.RuleLemmas.{IsStarted}
use Rattle.fields_core.proofs.count.rules.CountRulesRules.start.Given as goal

abbrev pub invariant-loop-place : goal.invariant-loop-place
invariant-loop-place g l = record {
  started : IsStarted (g.P.CountGame.counts l.self.puzzle).cells (g.P.CountGame.counts l.self.puzzle).blocked l.place (has l.board);
  shape : SameShape l.fn.board l.board;
}
