use Rattle.grid_core.proofs.WordLemmas.{one-bits}
use Rattle.grid_core.proofs.planes.word.U64Word.one.Goals as goal

pub returns : goal.returns
returns c = λ p. one-bits 64 c.args.place p c.requires
