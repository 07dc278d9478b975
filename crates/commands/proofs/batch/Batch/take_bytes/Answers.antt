use Rattle.commands.proofs.Common.{[], append_assoc, refl, ◌++◌, ◌∷◌}
use Rattle.commands.proofs.BatchLemmas.{gathers_before, gathers_piece}
use Rattle.commands.proofs.batch.Batch.take_bytes.Goals as goal

pub returns-in_err-take-clause-up_to : goal.returns-in_err-take-clause-up_to
returns-in_err-take-clause-up_to c = λ answers seen written b.
    let i = c.loop-line.invariant in gathers_before answers seen i.0 c.loop-line.rest.now i.1 (i.2 seen written b)

pub returns-in_err-answer_line-clause-up_to : goal.returns-in_err-answer_line-clause-up_to
returns-in_err-answer_line-clause-up_to c = λ answers seen written b.
    let i = c.loop-line.invariant in
    rw c.in_err-answer_line.ensures.stays (gathers_before answers seen i.0 c.loop-line.rest.now i.1 (i.2 seen written b))

pub loop-line-preserved : goal.loop-line-preserved
loop-line-preserved c =
    let i = c.loop-line.invariant in
    let line = c.in-Some.line.now in (
      i.0 ++ (line ++ 10 ∷ []),
      rw (i.1, c.in-Some.ensures.1) (simp append_assoc),
      λ seen written b.
          let ended = c.in_ok-answer_line.ensures.goes_on ((seen ++ i.0) ++ line) written
          (gathers_piece (seen ++ i.0) line c.in-Some.ensures.0 (i.2 seen written b) c.in_ok-take.ensures refl refl) in
          simp append_assoc at ended,
    )

pub returns-clause-goes_on : goal.returns-clause-goes_on
returns-clause-goes_on c = λ seen written b.
    let i = c.loop-line.invariant in
    let rest = c.loop-line.rest.now in
    rw (i.1, ← append_assoc seen i.0 rest)
    (gathers_piece (seen ++ i.0) rest c.in_default.ensures (i.2 seen written b) c.in_ok-take-2.ensures refl refl)

pub returns-in_err-take-2-clause-up_to : goal.returns-in_err-take-2-clause-up_to
returns-in_err-take-2-clause-up_to c = λ answers seen written b.
    let i = c.loop-line.invariant in gathers_before answers seen i.0 c.loop-line.rest.now i.1 (i.2 seen written b)

pub returns-clause-up_to : goal.returns-clause-up_to
returns-clause-up_to c = λ answers seen written b.
    let i = c.loop-line.invariant in gathers_before answers seen i.0 c.loop-line.rest.now i.1 (i.2 seen written b)
