-- What the words ask for, and numbers in words.
use Rattle.std.specs.Prelude.{◌&&◌, ℕ, Bool, List, Option, Some, None, if◌then◌else◌, nat_lt, nat_le, length, false, String, codes, map, option_and_then, option_map, string_bytes}
use Rattle.std.specs.Borrow.{Bor}
use Rattle.std.specs.List.{list_all}
use Rattle.std.specs.Char.{digit_value}
use Rattle.std.specs.Str.Parse.{digits_value}
use Rattle.std.specs.Str.{bytes_eq}
use Rattle.std.specs.Option.{option_map_or}
use Rattle.clap.specs.Walk.{Row, Text, first_of}
use Rattle.gameid_core.specs.declared.id.game.Game.{Game}
use Rattle.puzzles.specs.CommandLine.{parsed}
use Rattle.commands.specs.Allowed.{reads_input}
use Rattle.commands.specs.Answers.{Asked, solve, check, grade, generate}
use Rattle.commands.specs.Games.{game_named, usual_black}
use Rattle.puzzles.specs.declared.words.Request.{Request}
use Rattle.puzzles.specs.declared.words.Request.TheVariants as request

-- one decimal digit or more, and nothing else
abbrev pub is_number : List ℕ → Bool
is_number text = nat_lt 0 (length text) && list_all (λ d. nat_lt (digit_value d) 10) text

-- the number that the text writes, up to a limit
unfoldable pub number_in : ℕ → List ℕ → Option ℕ
number_in most text = if is_number text && nat_le (digits_value 10 text) most
    then Some (digits_value 10 text) else None

-- the same, or a number that stands in its place where there is no text
abbrev pub number_or : ℕ → ℕ → Option (List ℕ) → Option ℕ
number_or otherwise most None = Some otherwise
number_or otherwise most (Some text) = number_in most text

-- a text in memory
abbrev pub lent : Option (Bor (List ℕ)) → Option (List ℕ)
lent text = option_map (λ s. s.now) text

abbrev pub asked_in : Request → Asked
asked_in (request.Solve task id) = solve task.game (lent id) task.budget
asked_in (request.Check game id) = check game id.now
asked_in (request.Grade game id options) = grade game id.now options.budget options.traced
asked_in (request.Generate game size recipe) =
    generate game size.now recipe.seed recipe.limits.budget recipe.limits.tries recipe.black.value

abbrev pub game_in : List Row → Option Game
game_in rows = option_and_then game_named (first_of (codes "game") rows)

-- 0 to 18,446,744,073,709,551,615, and 100,000 where nothing is said
abbrev pub budget_in : List Row → Option ℕ
budget_in rows = number_or 100000 18446744073709551615 (first_of (codes "budget") rows)

abbrev pub solve_in : List Row → Option Asked
solve_in rows = option_and_then (λ game. option_map (λ budget.
    solve game (first_of (codes "id") rows) budget) (budget_in rows)) (game_in rows)

abbrev pub check_in : List Row → Option Asked
check_in rows = option_and_then (λ game. option_map (λ id.
    check game id) (first_of (codes "id") rows)) (game_in rows)

-- the flag has the value `true` where it was used
abbrev pub trace_in : List Row → Bool
trace_in rows = option_map_or (λ text. bytes_eq text (codes "true"))
    (first_of (codes "trace") rows) false

abbrev pub grade_in : List Row → Option Asked
grade_in rows = option_and_then (λ game. option_and_then (λ id. option_map (λ budget.
    grade game id budget (trace_in rows)) (budget_in rows)) (first_of (codes "id") rows))
    (game_in rows)

-- the percentage of black cells, 0 to 100; where a game has none, nothing may be said of it
abbrev pub black_for : Option ℕ → Option Text → Option ℕ
black_for (Some usual) text = number_or usual 100 text
black_for None None = Some 0
black_for None (Some text) = None

-- 0 to 18,446,744,073,709,551,615
abbrev pub seed_in : List Row → Option ℕ
seed_in rows = option_and_then (number_in 18446744073709551615) (first_of (codes "seed") rows)

-- 0 to 4,294,967,295, and 1,000 where nothing is said
abbrev pub tries_in : List Row → Option ℕ
tries_in rows = number_or 1000 4294967295 (first_of (codes "tries") rows)

abbrev pub black_in : Game → List Row → Option ℕ
black_in game rows = black_for (usual_black game) (first_of (codes "black") rows)

abbrev pub generate_in : List Row → Option Asked
generate_in rows = option_and_then (λ game. option_and_then (λ size. option_and_then (λ seed.
    option_and_then (λ budget. option_and_then (λ tries. option_map (λ black.
    generate game size seed budget tries black) (black_in game rows)) (tries_in rows))
    (budget_in rows)) (seed_in rows)) (first_of (codes "size") rows)) (game_in rows)

-- what the command of this name asks for
abbrev pub asked_by : Text → List Row → Option Asked
asked_by name rows = if bytes_eq name (codes "solve") then solve_in rows
    else (if bytes_eq name (codes "check") then check_in rows
    else (if bytes_eq name (codes "grade") then grade_in rows
    else (if bytes_eq name (codes "generate") then generate_in rows else None)))

abbrev pub asked_by_rows : Option (Text × List Row) → Option Asked
asked_by_rows found = option_and_then (λ p. asked_by p.0 p.1) found

-- what the words ask for; None where they are refused
unfoldable pub asked_of : List Text → Option Asked
asked_of words = asked_by_rows (parsed words)

-- the same of words in memory
abbrev pub request_of : {Z : Type 0} → List (String Z) → Option Asked
request_of words = asked_of (map string_bytes words)

-- what the words ask for reads the input
abbrev pub is_input_read : {Z : Type 0} → List (String Z) → Bool
is_input_read words = reads_input (request_of words)
