use Rattle.maker_core.proofs.Common.{None, Option, Why, ap, replicate, rules, ◌∙◌, ◌≡◌}
use Rattle.maker_core.proofs.ThinningTurns.{all_tried, contains_head, next_turn, thinning_start, thinning_turn, turn, turn_in_room}
use Rattle.maker_core.proofs.thinning.thin.try_clues.Goals as goal

pub loop-place-init : goal.loop-place-init
loop-place-init g c =
    let blank : c.in_ok-whys.whys.items ≡ replicate {A = Option Why} c.cells.result None = search rules in
    record {
      thinning = thinning_start g.met.P.Clued.lawful _ _ _ _ c.requires.one.only c.requires.one.found c.requires.order
          (blank ∙ ap (λ n. replicate {A = Option Why} n None) c.cells.ensures);
      fits = search rules;
    }

pub loop-place-preserved : goal.loop-place-preserved
loop-place-preserved g c =
    let now = next_turn _ c.loop-place-test.true c.loop-place.invariant.thinning in
    let made = c.in_ok-whys-2.ensures in
    let turned = turn g.met.P.Clued.lawful now _ made.left made.asked in
    record { thinning = thinning_turn g.met.P.Clued.lawful now turned; fits = rw made.made (turned.fits _ c.loop-place.invariant.fits) }

pub try_clue-requires-clause-clue : goal.try_clue-requires-clause-clue
try_clue-requires-clause-clue g c =
    (next_turn _ c.loop-place-test.true c.loop-place.invariant.thinning).waiting _ (contains_head _ _)

pub index_mut-requires : goal.index_mut-requires
index_mut-requires g c =
    let below = turn_in_room g.met.P.Clued.lawful (next_turn _ c.loop-place-test.true c.loop-place.invariant.thinning) in
    search rules

pub returns : goal.returns
returns g c = all_tried _ c.loop-place-test.false c.loop-place.invariant.thinning
