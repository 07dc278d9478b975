use Rattle.std.proofs.lemmas.Grind.{common_steps}
use Rattle.pattern_core.proofs.Common.{[], arith, get_or-map, length-map}
use Rattle.pattern_core.proofs.lines.PatternLines.clue.Goals as goal

pub returns : goal.returns
returns c = grind (arith, common_steps, get_or-map, length-map, c.index.ensures, c.requires, c.self.invariant.lines)
