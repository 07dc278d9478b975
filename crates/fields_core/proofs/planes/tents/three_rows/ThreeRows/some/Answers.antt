use Rattle.fields_core.proofs.Common.{◌∙◌}
use Rattle.fields_core.proofs.TentTreeWords.{some-beside}
use Rattle.fields_core.proofs.planes.tents.three_rows.ThreeRows.some.Goals as goal

pub returns : goal.returns
returns g c = λ size passes y x narrow lt is.
    c.either-2.ensures x
    ∙ rw (c.either.ensures x, c.either-across.ensures x, c.on.ensures x, c.back.ensures x)
    (some-beside g.W.Word.bits g.W.Word.room size passes y x c.args.self narrow lt is)
