use Rattle.fields_core.proofs.Common.{arith}
use Rattle.fields_core.proofs.TentWaits.{sides-fit}
use Rattle.fields_core.proofs.tents.rules.TentsPuzzleGridGame.size.Goals as goal

pub returns-clause-short : goal.returns-clause-short
returns-clause-short c = λ had fits short.
    let two = c.size.ensures.lawful.size in let scope = fits.scope_in in
    let sides = sides-fit c.args.self.now (omega (arith, two.w_two)) (omega (arith, two.h_two)) in
    rw c.size.ensures.value (omega (arith, sides.0, scope, short), omega (arith, sides.1, scope, short))
