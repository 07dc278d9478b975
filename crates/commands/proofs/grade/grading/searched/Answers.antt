use Rattle.commands.proofs.Common.{BySearch, ap, trials_in, walk, ◌∙◌, ◌≡◌}
use Rattle.commands.proofs.GradeLemmas.{grade_is, spent_whole}
use Rattle.commands.proofs.grade.grading.searched.Goals as goal

pub returns-in-None-clause-grade : goal.returns-in-None-clause-grade
returns-in-None-clause-grade g c = grade_is _ _ c.in-None.ensures.verdict.0

pub returns-in-One-clause-grade : goal.returns-in-One-clause-grade
returns-in-One-clause-grade g c =
    let rules = g.R.Rules.system c.args.rules.now in
    let spent = spent_whole c.args.budget _ (walk rules 0 rules.start) _ c.in-One.ensures.verdict.1 in
    let all : c.trials.result ≡ trials_in (walk rules 0 rules.start) = cc (c.trials.ensures, c.in-One.ensures.trials, spent) in
    ap (λ n. BySearch n) all ∙ grade_is rules c.args.budget c.in-One.ensures.verdict.1

pub returns-in-Several-clause-grade : goal.returns-in-Several-clause-grade
returns-in-Several-clause-grade g c = grade_is _ _ c.in-Several.ensures.verdict.2

pub returns-in-GaveUp-clause-grade : goal.returns-in-GaveUp-clause-grade
returns-in-GaveUp-clause-grade g c = grade_is _ _ c.in-GaveUp.ensures.verdict.0
