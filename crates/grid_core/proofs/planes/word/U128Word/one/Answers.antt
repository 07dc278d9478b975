use Rattle.grid_core.proofs.WordLemmas.{one-bits}
use Rattle.grid_core.proofs.planes.word.U128Word.one.Goals as goal

pub returns : goal.returns
returns c = λ p. one-bits 128 c.args.place p c.requires
