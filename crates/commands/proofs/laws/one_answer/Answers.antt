use Rattle.commands.proofs.Common.{Allows, AllowsCheck, AllowsGrade, AllowsSolve, Asked, Game, HasOneAnswer, LightUp, None, Option, Some, Text, check, false, game_of, generate, grade, is_fixed, lines, refused_words, solve, sym, true, true≢false, wanted, ℕ, ◌≡◌}
use Rattle.gameid_core.specs.declared.id.game.Game.TheVariants.{Solo, Pattern, Tents}
use Rattle.commands.proofs.CheckedPuzzles.{check_same, check_some}
use Rattle.commands.proofs.GameLaws.{laws_of, solving, listed_right}
use Rattle.commands.proofs.SearchedPuzzles.{seed_words}
use Rattle.commands.proofs.Makings.{made_differ, made_pattern, made_tents}
use Rattle.commands.proofs.Readings.{each_once, grade_once, id_once, one_of_same, told_once}
use Rattle.commands.proofs.laws.one_answer.Goals as goal

checking : (game : Game) (id input : Text) → HasOneAnswer (AllowsCheck (game_of game) id input)
checking game id input =
    id_once (laws_of game).reading id (λ p s.
    let checked = (laws_of game).checked id p s in
    one_of_same (check_some (game_of game) p checked input) (check_same (game_of game) p checked input))

grading : (game : Game) (id : Text) (budget : ℕ) → HasOneAnswer (AllowsGrade (game_of game) id budget false)
grading game id budget =
    let of = (game_of game).game in
    id_once (laws_of game).reading id (λ p s. grade_once p
    (listed_right (of.sets p) budget ((laws_of game).listed id p s) ((laws_of game).searched id p s)))

pub returns : goal.returns
returns c = record {
  fixed = by;
  solo = λ text seed budget tries black. made_differ (wanted seed budget tries black) (seed_words seed) Solo text;
  lights = λ text seed budget tries black. made_differ (wanted seed budget tries black) (seed_words seed) LightUp text;
}
  where
    by : (asked : Option Asked) (input : Text) → is_fixed asked ≡ true → HasOneAnswer (Allows asked input)
    by None input fixed = told_once refused_words
    by (Some (solve game (Some id) budget)) input fixed = solving game budget id
    by (Some (solve game None budget)) input fixed = each_once (λ id. AllowsSolve (game_of game) id budget) (solving game budget) (lines input)
    by (Some (check game id)) input fixed = checking game id input
    by (Some (grade game id budget false)) input fixed = grading game id budget
    by (Some (grade game id budget true)) input fixed = absurd (true≢false (sym fixed))
    by (Some (generate Pattern size seed budget tries black)) input fixed = made_pattern (wanted seed budget tries black) (seed_words seed) size
    by (Some (generate Solo size seed budget tries black)) input fixed = absurd (true≢false (sym fixed))
    by (Some (generate LightUp size seed budget tries black)) input fixed = absurd (true≢false (sym fixed))
    by (Some (generate Tents size seed budget tries black)) input fixed = made_tents (wanted seed budget tries black) (seed_words seed) size
