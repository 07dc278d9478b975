use Rattle.fields_core.proofs.Common.{◌∙◌}
use Rattle.fields_core.proofs.TentTreeWords.{one-beside}
use Rattle.fields_core.proofs.planes.tents.three_rows.ThreeRows.just_one.Goals as goal

pub returns : goal.returns
returns g c = λ size passes y x narrow lt is.
    c.but-2.ensures x
    ∙ rw (c.but.ensures x, c.differ.ensures x, c.both.ensures x, c.both-2.ensures x, c.either-along.ensures x, c.either-across.ensures x, c.on-left.ensures x, c.back-right.ensures x)
    (one-beside g.W.Word.bits g.W.Word.room size passes y x c.args.self narrow lt is)
