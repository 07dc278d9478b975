use Rattle.commands.proofs.Common.{All-contains, Answer, IsReason, LightUp, MadePuzzlesAreSolved, all_given, ap, arith, game_of, inl, inr, light_game, printed_by, rule_from_test, solo_game, wanted, with_numbers}
use Rattle.gameid_core.specs.declared.id.game.Game.TheVariants.{Solo}
use Rattle.fields_core.proofs.LightRuleLemmas.{rule-from-test}
use Rattle.commands.proofs.GameLaws.{laws_of, passes_as, spelled_read, found_alone, never_one}
use Rattle.commands.proofs.laws.made_puzzles_are_solved.Goals as goal

by : MadePuzzlesAreSolved
by game size seed budget tries black answer (inl refusal) fine = absurd (omega (arith, fine, ap (λ (a : Answer). a.status) refusal.said))
by game size seed budget tries black answer (inr sized) fine = elim sized.allowed [
  | inl handed ↦
      let play = game_of game in
      let known = laws_of game in
      let p = handed.made.puzzle in
      let alone = known.made sized.puzzle (wanted seed budget tries black) handed.made handed.is_made in
      record {
        id = play.game.written p;
        grid = printed_by play p handed.made.solution;
        said = handed.said;
        solved = λ said. found_alone play known.reading (play.game.written p) p budget handed.made.solution said handed.spelled alone.0 alone.1;
        read = spelled_read known.reading (play.game.written p) p handed.spelled;
        passes = λ said. passes_as play known.reading known.checked (play.game.written p) p handed.spelled handed.made.solution alone.1.0 said;
      }
  | inr none ↦ absurd (omega (arith, fine, ap (λ (a : Answer). a.status) none.said))
]

pub returns-clause-solved : goal.returns-clause-solved
returns-clause-solved c = by

pub returns-clause-solo : goal.returns-clause-solo
returns-clause-solo c = λ first second x budget tries s p g kept place made needed id any said spelled.
    never_one (game_of Solo) (laws_of Solo).reading id (solo_game.without p place) any said spelled
    (All-contains (λ k. IsReason solo_game budget (all_given first second x g) p k.place k.why) kept _ made.reasons.reasons
    needed)
    (λ h t. rule_from_test (solo_game.without p place) spelled.puzzle h t.grid t.good)

pub returns-clause-lights : goal.returns-clause-lights
returns-clause-lights c = λ size black budget tries s p g kept place made needed id any said spelled.
    never_one (game_of LightUp) (laws_of LightUp).reading id (light_game.without p place) any said spelled
    (All-contains (λ k. IsReason light_game budget (with_numbers p g) p k.place k.why) kept _ made.reasons.reasons needed)
    (λ h t. rule-from-test (light_game.without p place) h t.grid t.good)
