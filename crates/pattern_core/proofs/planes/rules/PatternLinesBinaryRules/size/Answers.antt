use Rattle.pattern_core.proofs.LineTakings.{sides-short}
use Rattle.pattern_core.proofs.planes.rules.PatternLinesBinaryRules.size.Goals as goal

pub returns-clause-short : goal.returns-clause-short
returns-clause-short c = λ had fits short.
    let r = c.args.self.now in rw c.size.ensures (sides-short r.pattern r.extent fits short)
