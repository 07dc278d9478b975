use Rattle.maker_core.proofs.Common.{IsVerdict, ap, subst, ◌∙◌}
use Rattle.maker_core.proofs.thinning.thin.try_clue.Goals as goal
use Rattle.maker_core.proofs.thinning.thin.try_clue.Goals.{in-Several, in-GaveUp}
use Rattle.maker_core.proofs.ThinningTurns.{needed, gave_up}

pub returns-clause-asked : goal.returns-clause-asked
returns-clause-asked g c =
    let meant = c.requires.means c.in_ok-rules.rules ∙ c.in_ok-rules.ensures ∙ ap g.P.Clued.game.rules c.take_clue-clue.ensures.without in
    elim c.match-solve.branch [
      | in-Several w ↦ subst (λ x. IsVerdict x c.args.budget c.match-solve.why) meant
          (needed _ _ w.why-is w.in-Several.ensures.verdict w.in-Several.ensures.sound)
      | in-GaveUp w ↦ subst (λ x. IsVerdict x c.args.budget c.match-solve.why) meant (gave_up _ _ w.why-is w.in-GaveUp.ensures.verdict)
    ]
