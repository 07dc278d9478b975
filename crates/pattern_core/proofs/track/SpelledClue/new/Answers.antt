use Rattle.std.proofs.lemmas.Grind.{common_steps}
use Rattle.std.proofs.Common.{arith}
use Rattle.pattern_core.proofs.SpelledRuns.{clue_back, track_of_clue}
use Rattle.pattern_core.proofs.track.SpelledClue.new.Goals as goal

pub invariant_of-result : goal.invariant_of-result
invariant_of-result g c = grind (arith, common_steps, track_of_clue, clue_back, c.requires.positive, c.requires.fits, c.spell.ensures, c.requires.roomy)

pub returns : goal.returns
returns g c = clue_back c.requires.positive c.requires.fits c.spell.ensures
