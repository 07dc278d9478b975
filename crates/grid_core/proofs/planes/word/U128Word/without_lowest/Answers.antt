use Rattle.grid_core.proofs.WordLemmas.{lowest-dropped}
use Rattle.grid_core.proofs.planes.word.U128Word.without_lowest.Goals as goal

pub returns : goal.returns
returns c = lowest-dropped 128 c.args.self
