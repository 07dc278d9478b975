use Rattle.pattern_core.proofs.Common.{arith, slots_of}
use Rattle.pattern_core.proofs.LineWords.{on_past, on_within}
use Rattle.pattern_core.proofs.SpelledRuns.{spelling_black}
use Rattle.pattern_core.proofs.track.push_black.Goals as goal

pub returns : goal.returns
returns g c = λ cells fits s.
    let has = slots_of g.P.Word.bits in
    spelling_black _ s (omega (arith, fits)) (on_within g.P.Word.room (has c.args.spelling.next) (has c.on.result) c.on.ensures)
    (on_past g.P.Word.room (has c.args.spelling.next) (has c.on.result) c.on.ensures) c.either.ensures
