use Rattle.fields_core.proofs.Common.{arith, eqb, fewer_left, has_bit, length, map, not, slice_index, sym, ℕ, ◌&&◌, ◌*◌, ◌+◌, ◌<◌, ◌∙◌, ◌≡◌}
use Rattle.fields_core.proofs.LightRunLines.{around-all, around-clash, around-more, around-none}
use Rattle.fields_core.proofs.CellLemmas.{row-read}
use Rattle.fields_core.proofs.planes.light_up.visits.around.Goals as goal
use Rattle.fields_core.proofs.planes.light_up.visits.around.Goals.{After-lowest-at, After-without_lowest-rest}

pub loop-rest-init : goal.loop-rest-init
loop-rest-init g c = around-none _ _ _ _ c.none-bits.ensures

there : (g : _) (c : After-lowest-at g) → c.args.first + c.lowest-at.result * c.args.stride < length c.args.runs.now
there g c = c.requires.within c.lowest-at.result (c.loop-rest.invariant.inside c.lowest-at.result c.lowest-at.ensures.has)

pub overflow_mul-run : goal.overflow_mul-run
overflow_mul-run g c = let lt = there g (goal.at.overflow_mul-run g c).After-lowest-at in omega arith

pub overflow_add-run : goal.overflow_add-run
overflow_add-run g c = let lt = there g (goal.at.overflow_add-run g c).After-lowest-at in omega arith

-- the run of each number, and that of the lowest
abbrev run_of : (g : _) → After-without_lowest-rest g → ℕ → ℕ
run_of g c k = slice_index (map g.W.Word.bits c.args.runs.now) (c.args.first + k * c.args.stride)

own : (g : _) (c : After-without_lowest-rest g) → run_of g c c.lowest-at.result ≡ g.W.Word.bits c.index-runs-first.result
own g c =
    row-read g.W.Word.bits c.args.runs.now (c.args.first + c.lowest-at.result * c.args.stride) c.index-runs-first.result
    (c.requires.within c.lowest-at.result (c.loop-rest.invariant.inside c.lowest-at.result c.lowest-at.ensures.has)) c.index-runs-first.is

later : (g : _) (c : After-without_lowest-rest g) (k : ℕ)
    → has_bit (g.W.Word.bits c.without_lowest-rest.result) k ≡ (has_bit (g.W.Word.bits c.loop-rest.rest) k && not (eqb k c.lowest-at.result))
later g c k = c.without_lowest-rest.ensures c.lowest-at.result k c.lowest-at.ensures

pub returns-then-is_some-clause-clash : goal.returns-then-is_some-clause-clash
returns-then-is_some-clause-clash g c =
    let at = (goal.at.returns-then-is_some-clause-clash g c).After-without_lowest-rest in let bits = g.W.Word.bits in
    around-clash (run_of g at) g.W.Word.room (bits c.args.marked) (bits c.loop-rest.rest) (bits c.loop-rest.bits) c.lowest-at.result
    (bits c.without_lowest-rest.result) (bits c.loop-rest.bits) c.loop-rest.invariant c.lowest-at.ensures c.requires.marked_in (later g at)
    (bits c.both.result) (λ k. rw (own g at) (c.both.ensures k)) (sym c.is_some-in-loop-rest.ensures ∙ c.if-is_some.true)

pub loop-rest-smaller : goal.loop-rest-smaller
loop-rest-smaller g c =
    fewer_left (has_bit (g.W.Word.bits c.loop-rest.rest)) (has_bit (g.W.Word.bits c.without_lowest-rest.result)) g.W.Word.room c.lowest-at.result
    c.lowest-at.ensures.within c.lowest-at.ensures.has (later g (goal.at.loop-rest-smaller g c).After-without_lowest-rest)

pub loop-rest-preserved : goal.loop-rest-preserved
loop-rest-preserved g c =
    let at = (goal.at.loop-rest-preserved g c).After-without_lowest-rest in let bits = g.W.Word.bits in
    around-more (run_of g at) g.W.Word.room (bits c.args.marked) (bits c.loop-rest.rest) (bits c.loop-rest.bits) c.lowest-at.result
    (bits c.without_lowest-rest.result) (bits c.either-bits.result) c.loop-rest.invariant c.lowest-at.ensures c.requires.marked_in (later g at)
    (bits c.both.result) (λ k. rw (own g at) (c.both.ensures k)) (sym c.is_some-in-loop-rest.ensures ∙ c.if-is_some.false)
    (λ k. rw (own g at) (c.either-bits.ensures k))

pub returns-clause-around : goal.returns-clause-around
returns-clause-around g c =
    around-all c.loop-rest.invariant c.requires.marked_in
    (sym c.is_some.ensures ∙ c.loop-rest-test.false)
