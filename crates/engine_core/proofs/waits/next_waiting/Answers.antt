use Rattle.engine_core.proofs.Common.{arith, slice_index}
use Rattle.engine_core.proofs.MarkLemmas.{lowest_left, none_left, none_so_far, waits_in_word}
use Rattle.engine_core.proofs.waits.next_waiting.Goals as goal

pub returns-then-house-houses : goal.returns-then-house-houses
returns-then-house-houses c =
    let i = c.loop-word.invariant in
    let w = c.loop-word.word in
    let next = lowest_left (slice_index c.args.waits.now w) c.loop-word.bit (omega (arith, c.type_inv.waits w)) c.if-left-ne0.true in (
      omega (arith, next.0),
      c.if-house-houses.true,
      waits_in_word c.args.waits.now w next.1 next.2,
      none_so_far c.args.waits.now w (omega (arith, next.1)) i.none next.3,
    )

pub returns-else-house-houses : goal.returns-else-house-houses
returns-else-house-houses c = λ j le lt.
    let i = c.loop-word.invariant in
    let w = c.loop-word.word in
    let next = lowest_left (slice_index c.args.waits.now w) c.loop-word.bit (omega (arith, c.type_inv.waits w)) c.if-left-ne0.true in
    none_so_far c.args.waits.now w (omega (arith, next.1)) i.none next.3 j le (omega (arith, c.if-house-houses.false))

pub loop-word-preserved : goal.loop-word-preserved
loop-word-preserved c =
    let i = c.loop-word.invariant in
    let w = c.loop-word.word in
    record {
      bit_in = omega arith;
      past = omega arith;
      none = λ j le lt. none_so_far c.args.waits.now w {high = 64} (omega arith) i.none
          (λ b from_b in_b. none_left (slice_index c.args.waits.now w) c.loop-word.bit b c.if-left-ne0.false from_b) j le (omega arith);
    }
