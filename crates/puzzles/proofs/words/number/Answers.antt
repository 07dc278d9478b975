use Rattle.std.proofs.Common.{sym, inl, inr, rules, arith}
use Rattle.puzzles.proofs.WordLemmas.{number-none, number-read, number-high, number-failed}
use Rattle.puzzles.proofs.words.number.Goals.{then-is_empty-via-then-is_empty, then-is_empty-via-else-is_empty+then-bytes-eq43}
use Rattle.puzzles.proofs.words.number.Goals as goal

pub returns-then-is_empty-clause-value : goal.returns-then-is_empty-clause-value
returns-then-is_empty-clause-value c = sym (number-none c.args.most c.args.text.now (elim c.then-is_empty.branch [
  | then-is_empty-via-then-is_empty w ↦ inl (search rules)
  | then-is_empty-via-else-is_empty+then-bytes-eq43 w ↦ inr (search rules)
]))

pub returns-in-Ok-clause-value : goal.returns-in-Ok-clause-value
returns-in-Ok-clause-value c = number-read c.args.most c.in-Ok.value c.args.text.now (search rules) c.in-Ok.ensures.value.0.0.0 c.in-Ok.ensures.value.0.1 (omega arith)

pub returns-in_default-clause-value : goal.returns-in_default-clause-value
returns-in_default-clause-value c = number-high c.args.most c.in-Ok.value c.args.text.now (search rules) c.in-Ok.ensures.value.0.1 (omega arith)

pub returns-in_default-2-clause-value : goal.returns-in_default-2-clause-value
returns-in_default-2-clause-value c = number-failed c.args.most c.args.text.now (search rules) c.in_default.ensures.value.0 (omega arith)
