use Rattle.commands.proofs.Common.{AllowsId, Answer, Game, IsRewritten, Text, game_of, puzzle_type, ◌↔◌}
use Rattle.commands.proofs.GameLaws.{laws_of}
use Rattle.commands.proofs.Readings.{answered_alike, spelled_alike}
use Rattle.commands.proofs.laws.rewritten_ids_are_the_same.Goals as goal

pub returns : goal.returns
returns c = λ g id other r. record {
  puzzles = spelled_alike (game_of g).game (laws_of g).reading (laws_of g).again id other r;
  solved = λ budget input. alike g id other r _;
  checked = λ input. alike g id other r _;
  graded = λ budget traced input. alike g id other r _;
}
  where
    alike : (g : Game) (id other : Text) → IsRewritten (game_of g).game id other → (allows : puzzle_type g → Answer → Type 0) (answer : Answer)
        → AllowsId ((game_of g).game.reading id) ((game_of g).game.spells id) allows answer
        ↔ AllowsId ((game_of g).game.reading other) ((game_of g).game.spells other) allows answer
    alike g id other r = answered_alike (game_of g).game (laws_of g).reading (laws_of g).again id other r
