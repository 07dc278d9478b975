use Rattle.std.proofs.lemmas.Grind.{common_steps}
use Rattle.std.proofs.Common.{arith}
use Rattle.commands.proofs.Common.{sym}
use Rattle.commands.proofs.GradeLemmas.{one_settled, settled_one, unsettled}
use Rattle.commands.proofs.grade.grading.is_settled_by.Goals as goal

pub returns-in-One-clause-settled : goal.returns-in-One-clause-settled
returns-in-One-clause-settled g c =
    let said = c.in-One.ensures.verdict in
    sym (one_settled (g.met.R.Rules.lawful c.args.rules.now) said.0 said.1)

pub returns-in-One-clause-one : goal.returns-in-One-clause-one
returns-in-One-clause-one g c = grind (arith, common_steps, settled_one, one_settled, c.in-One.ensures.verdict, g.met.R.Rules.lawful)

pub returns-in-None-clause-settled : goal.returns-in-None-clause-settled
returns-in-None-clause-settled g c = unsettled (g.met.R.Rules.lawful c.args.rules.now) c.in-None.ensures.verdict.0 (λ g e. cc)

pub returns-in-Several-clause-settled : goal.returns-in-Several-clause-settled
returns-in-Several-clause-settled g c =
    unsettled (g.met.R.Rules.lawful c.args.rules.now) c.in-Several.ensures.verdict.2 (λ g e. cc)

pub returns-in-GaveUp-clause-settled : goal.returns-in-GaveUp-clause-settled
returns-in-GaveUp-clause-settled g c =
    unsettled (g.met.R.Rules.lawful c.args.rules.now) c.in-GaveUp.ensures.verdict.0 (λ g e. cc)
