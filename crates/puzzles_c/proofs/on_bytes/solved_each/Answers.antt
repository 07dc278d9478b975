use Rattle.std.proofs.Common.{rules, ◌≡◌, ◌<◌, ◌++◌, ◌∙◌, ℕ, [], List, None, Some, Vec, Global, ap, subst, sym}
use Rattle.commands.proofs.RunLemmas.{input_known}
use Rattle.commands.specs.Allowed.{Allows}
use Rattle.commands.specs.Answers.{answer_with, solve}
use Rattle.commands.specs.Stops.{status_in}
use Rattle.puzzles_c.proofs.on_bytes.solved_each.Goals as goal

pub returns-clause-whole : goal.returns-clause-whole
returns-clause-whole c small =
    let ended = c.solve_lines-ended in
    let r = ended.ensures.ran in
    let is = input_known ended.new.input.ended c.new-input.result.ended c.args.lines.now c.new-input.result.reader.now r.read ended.new.input.reader.now
    (search rules) c.new-input.ensures.ended r.gave in
    let empty : c.new-output.result.writer.items ≡ [] = search rules in
    let same : r.written ≡ c.into_inner.result.items = sym (ap (λ (v : Vec ℕ Global). v.items) c.into_inner.ensures ∙ r.took ∙ ap (λ l. l ++ r.written) empty) in
    let status : status_in ended.result ≡ c.code.result = sym (c.code.ensures.whole small) in
    let early : status_in ended.result < 5 = subst (λ (s : ℕ). s < 5) (sym status) small in
    let whole = r.leaves.whole early c.args.lines.now is in
    let at_code = subst (λ (s : ℕ). Allows (Some (solve c.args.task.game None c.args.task.budget)) c.args.lines.now (answer_with r.written s)) status whole in
    subst (λ (t : List ℕ). Allows (Some (solve c.args.task.game None c.args.task.budget)) c.args.lines.now (answer_with t c.code.result)) same at_code
