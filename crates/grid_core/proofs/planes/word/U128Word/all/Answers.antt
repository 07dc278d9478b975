use Rattle.grid_core.proofs.Common.{arith}
use Rattle.grid_core.proofs.WordLemmas.{all-bits, full-bits}
use Rattle.grid_core.proofs.planes.word.U128Word.all.Goals as goal

pub returns-then-count-eq128 : goal.returns-then-count-eq128
returns-then-count-eq128 c = λ p. rw c.if-count-eq128.true (full-bits 128 p)

pub returns : goal.returns
returns c = λ p. all-bits 128 c.args.count p (let ne = c.if-count-eq128.false in let le = c.requires in omega arith)
