use Rattle.grid_core.proofs.WordLemmas.{on-bits}
use Rattle.grid_core.proofs.planes.word.U128Word.on.Goals as goal

pub returns : goal.returns
returns c = λ p. on-bits 128 c.args.self p
