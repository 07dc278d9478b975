use Rattle.commands.proofs.Common.{NamesSetNoStrongerThanSearch, StatusesAgree, game_of, inl, refl, ◌↔◌, ◌≡◌}
use Rattle.commands.proofs.GameLaws.{laws_of, least_budgets, with_enough}
use Rattle.commands.proofs.GradeLemmas.{statuses_agree, named_alike, refusals_apart, status_alike}
use Rattle.commands.proofs.Readings.{both_answers}
use Rattle.commands.proofs.laws.grades_agree.Goals as goal

pub returns-clause-statuses : goal.returns-clause-statuses
returns-clause-statuses c = λ g id budget traced solved graded.
    let of = (game_of g).game in
    both_answers (laws_of g).reading (λ x y. StatusesAgree y.status x.status) id solved graded (λ cause. inl refl)
    (λ p s a b. status_alike _ _ (statuses_agree (of.sets p) (of.rules p) (of.solves p) budget a.right b.right) b.said a.said)

pub returns-clause-enough : goal.returns-clause-enough
returns-clause-enough c = with_enough

pub returns-clause-least : goal.returns-clause-least
returns-clause-least c = least_budgets

pub returns-clause-rule_sets : goal.returns-clause-rule_sets
returns-clause-rule_sets c = λ g id budget traced solved graded.
    both_answers (laws_of g).reading (λ x y. NamesSetNoStrongerThanSearch y ↔ (x.status ≡ 0)) id solved graded refusals_apart
    (λ p s a b. named_alike _ _ ((laws_of g).searched id p s).lawful ((laws_of g).named id p s budget) b.said a.said)
