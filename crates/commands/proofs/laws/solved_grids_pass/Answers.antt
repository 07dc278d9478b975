use Rattle.commands.proofs.Common.{AllowsCheck, AllowsSolve, Answer, Game, Text, game_of, ℕ}
use Rattle.commands.proofs.GameLaws.{GoesWith, goes_with, refusals_go, passed, laws_of}
use Rattle.commands.proofs.Readings.{both_answers}
use Rattle.commands.proofs.laws.solved_grids_pass.Goals as goal

goes : (game : Game) (id input : Text) (budget : ℕ) (given solved : Answer)
    → AllowsCheck (game_of game) id input given → AllowsSolve (game_of game) id budget solved → GoesWith input given solved
goes game id input budget given solved =
    both_answers (laws_of game).reading (GoesWith input) id given solved (refusals_go input)
    (λ p s a b. goes_with p given solved ((laws_of game).checked id p s) a b)

pub returns-clause-pass : goal.returns-clause-pass
returns-clause-pass c = λ game id budget solved. passed (game_of game) (laws_of game).reading (laws_of game).checked id budget solved

pub returns-clause-some : goal.returns-clause-some
returns-clause-some c = λ game id input budget given solved checks fine tells. (goes game id input budget given solved checks tells fine).some

pub returns-clause-same : goal.returns-clause-same
returns-clause-same c = λ game id input grid budget given solved checks fine tells is. (goes game id input budget given solved checks tells fine).that grid is
