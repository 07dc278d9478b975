use Rattle.solo_core.proofs.Common.{Block, ap, arith, has_place, listed-same, lists_house, not, places_of, sym, ◌∙◌}
use Rattle.solo_core.proofs.CrossingLemmas.{rest-out, rest-in, rest-fits}
use Rattle.solo_core.proofs.houses.crossings.push_rest.Goals as goal

pub push-requires-clause-fits : goal.push-requires-clause-fits
push-requires-clause-fits c =
    rest-fits _ c.args.list.now _ c.loop-k.k _
    c.loop-k.list c.loop-k.invariant (omega arith) c.requires.fits

pub loop-k-preserved-then-lies : goal.loop-k-preserved-then-lies
loop-k-preserved-then-lies c =
    let long = (lists_house c.n.ensures.lawful c.args.line c.requires.line_of).len in
    let has = listed-same (lists_house c.n.ensures.lawful (Block c.args.block) c.requires.block_in) c.place-other.ensures.within in
    rest-out (λ z. not (has_place (places_of c.args.puzzle.now (Block c.args.block)) z))
    c.args.list.now (places_of c.args.puzzle.now c.args.line) c.loop-k.k c.loop-k.list
    (omega arith)
    (ap (λ z. not (has_place (places_of c.args.puzzle.now (Block c.args.block)) z))
    (sym c.place-other.ensures.place) ∙ ap not (sym has ∙ sym c.lies.ensures ∙ c.if-lies.true))
    c.loop-k.invariant

pub loop-k-preserved : goal.loop-k-preserved
loop-k-preserved c =
    let long = (lists_house c.n.ensures.lawful c.args.line c.requires.line_of).len in
    let has = listed-same (lists_house c.n.ensures.lawful (Block c.args.block) c.requires.block_in) c.place-other.ensures.within in
    rest-in (λ z. not (has_place (places_of c.args.puzzle.now (Block c.args.block)) z))
    c.args.list.now (places_of c.args.puzzle.now c.args.line) c.loop-k.k c.loop-k.list
    (omega arith) c.place-other.ensures.place
    (ap (λ z. not (has_place (places_of c.args.puzzle.now (Block c.args.block)) z))
    (sym c.place-other.ensures.place) ∙ ap not (sym has ∙ sym c.lies.ensures ∙ c.if-lies.false))
    c.loop-k.invariant c.in_ok-push.ensures
