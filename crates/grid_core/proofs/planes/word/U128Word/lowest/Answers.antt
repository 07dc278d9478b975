use Rattle.grid_core.proofs.Common.{ap, bit_at-trailing_zeros, eq-eqb, eqb}
use mir.Syntax.{w128}
use Rattle.grid_core.proofs.WordLemmas.{some-bit}
use Rattle.grid_core.proofs.planes.word.U128Word.lowest.Goals as goal

pub returns : goal.returns
returns c =
    let is = bit_at-trailing_zeros w128 c.args.self (some-bit 128 c.args.self c.requires) c.ranges.self.fits in
    record { within = is.0; has = eq-eqb _ _ is.1; before = λ p lt. ap (λ n. eqb n 1) (is.2 p lt) }
