use Rattle.pattern_core.proofs.Common.{arith, common_steps, ◌∙◌}
use Rattle.pattern_core.proofs.LineTakings.{line_visited}
use Rattle.pattern_core.proofs.lines.PatternLinesRules.visit.Goals as goal

pub returns-clause-left : goal.returns-clause-left
returns-clause-left c =
    line_visited _ c.args.self.now.extent c.requires.house_in c.requires.board_of c.size.ensures c.clue.ensures
    (c.deref-places.ensures.0 ∙ c.cells_of_line-places.ensures.places) (grind (arith, common_steps)) c.gather.ensures.bits c.filter_sets.ensures c.apply.ensures.left
