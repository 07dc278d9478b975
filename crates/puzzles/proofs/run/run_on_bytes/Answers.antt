use Rattle.puzzles.proofs.Common.{Allows, Global, List, Vec, [], ap, asked_of, input_known, map, rules, string_bytes, subst, sym, ℕ, ◌++◌, ◌∙◌, ◌≡◌}
use Rattle.commands.specs.Answers.{BeginsAnswer}
use Rattle.puzzles.proofs.run.run_on_bytes.Goals as goal

pub returns-clause-begun : goal.returns-clause-begun
returns-clause-begun c =
    let r = c.run-status.ensures.ran in
    let is = input_known c.run-status.new.input.ended c.new-input.result.ended c.args.bytes.now c.new-input.result.reader.now r.read c.run-status.new.input.reader.now
    (search rules) c.new-input.ensures.ended r.gave in
    let empty : c.new-output.result.writer.items ≡ [] = search rules in
    let same : r.written ≡ c.into_inner.result.items = sym (ap (λ (v : Vec ℕ Global). v.items) c.into_inner.ensures ∙ r.took ∙ ap (λ l. l ++ r.written) empty) in
    subst (λ (t : List ℕ). BeginsAnswer (Allows (asked_of (map string_bytes c.args.words.now)) c.args.bytes.now) t) same (r.leaves.begun c.args.bytes.now is)
