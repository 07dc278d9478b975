use Rattle.pattern_core.proofs.Common.{Extent, HasLineRoom, Pattern, ap, ℕ, ◌≡◌}
use Rattle.grid_core.specs.Planes.{ArePlanes, Layers, planes_have}
use Rattle.pattern_core.proofs.LineTakings.{cells-in}
use Rattle.pattern_core.proofs.WaitingLines.{place-first}
use Rattle.pattern_core.proofs.planes.close.first.Goals as goal

pub at_start-requires-clause-narrow : goal.at_start-requires-clause-narrow
at_start-requires-clause-narrow g c = rw c.requires.size at c.size-size.ensures.lawful.narrow

pub at_start-requires-clause-low : goal.at_start-requires-clause-low
at_start-requires-clause-low g c = rw c.requires.size at c.size-size.ensures.lawful.low

pub returns-clause-rested : goal.returns-clause-rested
returns-clause-rested g c =
    let pat = c.args.rules.now.pattern in let p = c.args.planes.now in
    let wide = ap (λ (e : Extent). e.w) c.requires.size in
    place-first g.W.Word.bits pat _ c.none.result c.with.result c.with-2.result c.in-Some.place
    (rw c.requires.size at c.size-size.ensures.lawful.lawful) wide c.split-y.ensures.column c.split-y.ensures.row c.none.ensures c.with.ensures c.with-2.ensures
    c.split-y.ensures.column_in (rw c.in-Some.is at c.requires.closed_but)

fits : (room : ℕ) (p : Pattern) (planes : Layers) → ArePlanes room planes → planes.size ≡ p.size → HasLineRoom room p (planes_have planes)
fits room p planes are same = record { narrow = rw same at are.narrow; low = rw same at are.low; cells = cells-in are same }

pub returns-clause-fits : goal.returns-clause-fits
returns-clause-fits g c = fits g.W.Word.room c.args.rules.now.pattern c.args.planes.now c.size-size.ensures.lawful c.requires.size

pub returns-in_default-clause-fits : goal.returns-in_default-clause-fits
returns-in_default-clause-fits g c = fits g.W.Word.room c.args.rules.now.pattern c.args.planes.now c.size-size.ensures.lawful c.requires.size
