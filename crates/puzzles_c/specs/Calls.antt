-- What a call leaves in its caller's memory, and what it is asked for.
use Rattle.std.specs.Prelude.{◌≡◌, ◌<◌, ◌≤◌, ◌==◌, ℕ, List, Option, Some, None, if◌then◌else◌, nat_le, nat_lt, length, option_map, option_and_then, take}
use Rattle.gameid_core.specs.declared.id.game.Game.{Game}
use Rattle.gameid_core.specs.declared.id.game.Game.TheVariants as game
use Rattle.commands.specs.Answers.{Answer, Asked, Text, answer_with, check, generate, grade, solve, status_of}
use Rattle.commands.specs.declared.answers.status.Stop.TheVariants.{Memory}

-- With the status of an answer the output begins with an allowed answer, whole, that is so long.
abbrev pub Tells : (Answer → Type 0) → List ℕ → ℕ → ℕ → Type 0
Tells allows output written status = status < status_of Memory
    → (written ≤ length output) × allows (answer_with (take written output) status)

-- With the status of too small an output an allowed answer is so long, and the output shorter.
abbrev pub NeedsRoom : (Answer → Type 0) → List ℕ → ℕ → ℕ → Type 0
NeedsRoom allows output written status = status ≡ 7
    → (length output < written) × ((a : Answer) × allows a × (length a.text ≡ written))

-- the game of a number
abbrev pub game_by_number : ℕ → Option Game
game_by_number n = if n == 0 then Some game.Solo
    else (if n == 1 then Some game.Pattern
    else (if n == 2 then Some game.LightUp
    else (if n == 3 then Some game.Tents else None)))

-- What a call asks for: nothing by a number that is no game's, or for more than all cells.

abbrev pub asks_solve : ℕ → Text → ℕ → Option Asked
asks_solve number id budget = option_map (λ g. solve g (Some id) budget) (game_by_number number)

abbrev pub asks_each : ℕ → ℕ → Option Asked
asks_each number budget = option_map (λ g. solve g None budget) (game_by_number number)

abbrev pub asks_check : ℕ → Text → Option Asked
asks_check number id = option_map (λ g. check g id) (game_by_number number)

-- with a trace unless the number for that is 0
abbrev pub asks_grade : ℕ → Text → ℕ → ℕ → Option Asked
asks_grade number id budget traced =
    option_map (λ g. grade g id budget (nat_lt 0 traced)) (game_by_number number)

abbrev pub asks_generate : ℕ → Text → ℕ → ℕ → ℕ → ℕ → Option Asked
asks_generate number size seed budget tries black = option_and_then
    (λ g. if nat_le black 100 then Some (generate g size seed budget tries black) else None)
    (game_by_number number)
