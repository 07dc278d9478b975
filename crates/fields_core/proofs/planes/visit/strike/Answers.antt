use Rattle.fields_core.proofs.Common.{further-more, further-none, pieces_of, refl, sym, ◌∙◌}
use Rattle.fields_core.proofs.PartLemmas.{line_in, struck-more, struck-none}
use Rattle.fields_core.proofs.planes.visit.strike.Goals as goal

pub loop-number-init : goal.loop-number-init
loop-number-init g c = record {
  left = struck-none c.args.planes.now.size.w _ c.args.value;
  further = further-none c.args.planes.now;
}

pub line-requires-clause-line_in : goal.line-requires-clause-line_in
line-requires-clause-line_in g c =
    rw (c.loop-number.invariant.further.same_size)
    (line_in c.requires.pieces (rw c.len-number-end.ensures at c.loop-number-test.true) (sym c.part-part.ensures))

pub take-requires-clause-line_in : goal.take-requires-clause-line_in
take-requires-clause-line_in g c =
    rw (c.loop-number.invariant.further.same_size)
    (line_in c.requires.pieces (rw c.len-number-end.ensures at c.loop-number-test.true) (sym c.part-part.ensures))

pub loop-number-preserved : goal.loop-number-preserved
loop-number-preserved g c =
    let bits = g.W.Word.bits in let i = c.loop-number.invariant in
    record {
      left = c.take.ensures.left
          ∙ struck-more c.args.planes.now c.loop-number.planes (pieces_of g.W.Word.bits c.args.parts.now)
          c.loop-number.number (bits c.both-other.result) (sym c.part-part.ensures) i.further.same_size
          c.requires.value_in i.left
          (λ k. c.both-other.ensures k ∙ rw (c.line.ensures.cells k) refl);
      further = further-more c.args.planes.now c.loop-number.planes c.take.new.self i.further c.take.ensures.further;
    }
