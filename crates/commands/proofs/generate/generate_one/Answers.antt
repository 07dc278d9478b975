use Rattle.commands.proofs.Common.{IfOk-weaker, Text, inl, inr, subst}
use Rattle.commands.proofs.generate.generate_one.Goals as goal

pub returns-in_ok-written-in-Ok : goal.returns-in_ok-written-in-Ok
returns-in_ok-written-in-Ok g c =
    let m = c.in-Ok.ensures.made in
    let w = c.in_ok-written-in-Ok.ensures in
    IfOk-weaker c.made_reply.result _ _ (λ r said. inr (record {
      puzzle = m.size;
      spelled = m.read;
      allowed = inl (record {
        made = record { puzzle = c.in-Ok.made.puzzle; solution = c.in-Ok.made.answer; kept = c.in-Ok.made.kept.items };
        is_made = m.allowed;
        spelled = subst (λ (t : Text). g.P.Played.game.spells t c.in-Ok.made.puzzle) w.text w.again;
        said = rw w.text at said;
      });
    })) c.made_reply.ensures
