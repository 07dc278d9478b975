-- The games: what the puzzles of each are, and what the commands know of them.
use Rattle.std.specs.Prelude.{ℕ, Option, Some, None, codes, if◌then◌else◌}
use Rattle.std.specs.Str.{bytes_eq}
use Rattle.gameid_core.specs.declared.id.game.Game.TheVariants as game
use Rattle.commands.specs.Common.{Game, Light, Pattern, Solo, Tents}
use Rattle.commands.specs.Answers.{Text}
use Rattle.commands.specs.LightFacts.{light_facts}
use Rattle.commands.specs.PatternFacts.{pattern_facts}
use Rattle.commands.specs.PuzzleFacts.{PuzzleFacts}
use Rattle.commands.specs.SoloFacts.{solo_facts}
use Rattle.commands.specs.TentsFacts.{tents_facts}

abbrev pub puzzle_type : Game → Type 0
puzzle_type game.Pattern = Pattern
puzzle_type game.Solo = Solo
puzzle_type game.LightUp = Light
puzzle_type game.Tents = Tents

abbrev pub game_of : (g : Game) → PuzzleFacts (puzzle_type g)
game_of game.Pattern = pattern_facts
game_of game.Solo = solo_facts
game_of game.LightUp = light_facts
game_of game.Tents = tents_facts

-- the game of that name
abbrev pub game_named : Text → Option Game
game_named text = if bytes_eq text (codes "solo") then Some game.Solo
    else (if bytes_eq text (codes "pattern") then Some game.Pattern
    else (if bytes_eq text (codes "lightup") then Some game.LightUp
    else (if bytes_eq text (codes "tents") then Some game.Tents else None)))

-- the percentage of black cells where nothing is said, in the games that have some
abbrev pub usual_black : Game → Option ℕ
usual_black game.Pattern = Some 50
usual_black game.LightUp = Some 20
usual_black _ = None
