use Rattle.maker_core.proofs.Common.{light_is_game, solo_is_game}
use Rattle.maker_core.proofs.ThinningTurns.{none_is_idle}
use Rattle.maker_core.proofs.laws.needed_clues_are_not_idle.Goals as goal

pub returns-clause-solo : goal.returns-clause-solo
returns-clause-solo c = none_is_idle solo_is_game

pub returns-clause-lights : goal.returns-clause-lights
returns-clause-lights c = none_is_idle light_is_game
