use Rattle.solo_core.proofs.Common.{Block, House, IsDecided, lists_house, places_of, solo_n, subst}
use Rattle.solo_core.proofs.CrossingLemmas.{crossing-is, decided_at}
use Rattle.solo_core.proofs.visits.crossing.keep_crossed.Goals as goal

pub returns : goal.returns
returns c =
    let p = c.args.puzzle.now in
    let block = c.crossing_at-block.result.0 in
    let line = c.crossing_at-block.result.1 in
    let long = (lists_house c.n.ensures.lawful (Block block) c.crossing_at-block.ensures.block_in).len in
    subst
    (λ (house : House). IsDecided (solo_n p) house.decides c.args.sets.now c.keep_crossing.new.kept) (crossing-is p block line c.requires.number_in c.crossing_at-block.ensures.scope)
    (decided_at (solo_n p) c.shared.result (places_of p (Block block)) (places_of p line) long c.shared.ensures
    (rw (c.from.ensures, c.n.ensures.value) at (c.keep_crossing.ensures (solo_n p))))
