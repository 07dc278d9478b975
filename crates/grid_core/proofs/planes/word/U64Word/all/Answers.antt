use Rattle.grid_core.proofs.Common.{arith}
use Rattle.grid_core.proofs.WordLemmas.{all-bits, full-bits}
use Rattle.grid_core.proofs.planes.word.U64Word.all.Goals as goal

pub returns-then-count-eq64 : goal.returns-then-count-eq64
returns-then-count-eq64 c = λ p. rw c.if-count-eq64.true (full-bits 64 p)

pub returns : goal.returns
returns c = λ p. all-bits 64 c.args.count p (let ne = c.if-count-eq64.false in let le = c.requires in omega arith)
