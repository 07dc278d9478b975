use Rattle.fields_core.proofs.Common.{arith, false, has_bit, length, length-map, length-set, map, refl, sym, ◌*◌, ◌+◌, ◌<◌, ◌∙◌, ◌≡◌}
use Rattle.fields_core.proofs.LightRunWords.{IsRunFrom, left-all, left-next, run-last, run-least, run-none, words-more, written-filled, written-none}
use Rattle.fields_core.proofs.planes.light_up.tables.write_runs.Goals as goal
use Rattle.fields_core.proofs.planes.light_up.tables.write_runs.Goals.{After-fill, After-lowest-black}

run-here : (g : _) (c : After-lowest-black g)
    → (c.lowest-black.result < c.args.len) × (has_bit (g.W.Word.bits c.args.white) c.lowest-black.result ≡ false)
    × IsRunFrom (has_bit (g.W.Word.bits c.args.white)) c.args.len c.loop-blacks.start c.lowest-black.result
run-here g c = run-least c.loop-blacks.invariant.left c.lowest-black.ensures

place-in : (g : _) (c : After-fill g) → c.args.first + c.lowest-black.result * c.args.stride < length c.fill.new.runs.items
place-in g c =
    let i = c.loop-blacks.invariant in
    omega (arith, c.requires.within c.lowest-black.result (run-least i.left c.lowest-black.ensures).0, c.fill.ensures.long, i.long)

pub loop-blacks-init : goal.loop-blacks-init
loop-blacks-init g c = record {
  low = omega arith;
  left = left-all _ _ _ (λ k. c.but-blacks.ensures k ∙ rw (c.all.ensures k) refl);
  written = written-none;
  long = refl;
}

pub loop-blacks-smaller : goal.loop-blacks-smaller
loop-blacks-smaller g c =
    let here = run-here g (goal.at.loop-blacks-smaller g c).After-lowest-black in let high = here.0 in let low = here.2.low in
    omega arith

pub loop-blacks-preserved : goal.loop-blacks-preserved
loop-blacks-preserved g c =
    let bits = g.W.Word.bits in let i = c.loop-blacks.invariant in
    let here = run-here g (goal.at.loop-blacks-preserved g c).After-lowest-black in
    let black = c.lowest-black.result in let words = c.fill.new.runs.items in
    let there = place-in g (goal.at.loop-blacks-preserved g c).After-fill in
    let long : length (map bits words) ≡ length (map bits c.loop-blacks.runs.items) =
    length-map words bits ∙ c.fill.ensures.long ∙ sym (length-map c.loop-blacks.runs.items bits) in
    record {
      low = omega (arith, here.0);
      left = left-next i.left c.lowest-black.ensures (λ k. c.without_lowest-blacks.ensures black k c.lowest-black.ensures);
      written = words-more bits words c.none.result refl c.requires.onward there
          (written-filled c.requires.onward here.2 (λ k. c.but-run.ensures k ∙ rw (c.all-in-loop-blacks.ensures k, c.all-in-loop-blacks-2.ensures k) refl) i.written c.fill.ensures.filled long)
          (run-none _ c.args.len black _ here.1 c.none.ensures);
      long = length-set _ _ _ ∙ c.fill.ensures.long ∙ i.long;
    }

pub returns-clause-written : goal.returns-clause-written
returns-clause-written g c =
    let bits = g.W.Word.bits in let i = c.loop-blacks.invariant in
    let run = run-last i.left i.low c.requires.fits (sym c.is_some.ensures ∙ c.loop-blacks-test.false) in
    written-filled c.requires.onward run (λ k. c.but-last.ensures k ∙ rw (c.all-2.ensures k, c.all-3.ensures k) refl) i.written c.fill-2.ensures.filled
    (length-map c.fill-2.new.runs.items bits ∙ c.fill-2.ensures.long ∙ sym (length-map c.loop-blacks.runs.items bits))

pub fill-requires-clause-within : goal.fill-requires-clause-within
fill-requires-clause-within g c = λ i lt.
    omega (arith, c.requires.within i (omega (arith, (run-here g (goal.at.fill-requires-clause-within g c).After-lowest-black).0)), c.loop-blacks.invariant.long)

pub fill-requires-clause-low : goal.fill-requires-clause-low
fill-requires-clause-low g c = (run-here g (goal.at.fill-requires-clause-low g c).After-lowest-black).2.low

pub overflow_mul-black : goal.overflow_mul-black
overflow_mul-black g c = omega (arith, place-in g (goal.at.overflow_mul-black g c).After-fill)

pub overflow_add-first : goal.overflow_add-first
overflow_add-first g c = omega (arith, place-in g (goal.at.overflow_add-first g c).After-fill)

pub index_mut-requires : goal.index_mut-requires
index_mut-requires g c = omega (arith, place-in g (goal.at.index_mut-requires g c).After-fill)

pub overflow_add-start : goal.overflow_add-start
overflow_add-start g c = omega (arith, (run-here g (goal.at.overflow_add-start g c).After-lowest-black).0)
