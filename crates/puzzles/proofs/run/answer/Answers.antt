use Rattle.puzzles.proofs.Common.{Allows, IfOk-weaker, None, Option, Some, ap, asked_in, asked_of, is_late, map, option_map, ran_by_put, ran_by_telling, ran_unwritten, string_bytes, subst, sym, ◌∙◌, ◌≡◌}
use Rattle.commands.specs.Answers.{Asked, generate, grade, solve}
use Rattle.commands.specs.Replies.{answer_in}
use Rattle.puzzles.proofs.run.answer.Goals as goal

pub returns-in_err-task-clause-ran : goal.returns-in_err-task-clause-ran
returns-in_err-task-clause-ran g c = ran_unwritten (c.each_request_has_an_answer.ensures (asked_of (map string_bytes c.args.words.now))) _
    (is_late _ _ c.from_residual.ensures) (g.met.I.Source.gives_nothing c.args.input.now) (g.met.O.Sink.takes_nothing c.args.output.now)

pub returns-in-Some-Solve-default-Some-clause-ran : goal.returns-in-Some-Solve-default-Some-clause-ran
returns-in-Some-Solve-default-Some-clause-ran g c =
    let a = c.in-Some-Solve-default-Some in
    let asked : Some (solve a.task.game (Some c.as_bytes.result.now) a.task.budget) ≡ asked_of (map string_bytes c.args.words.now) =
    ap (λ t. Some (solve a.task.game (Some t) a.task.budget)) c.as_bytes.ensures.value
    ∙ sym (ap (λ o. Some (solve a.task.game (option_map (λ s. s.now) o) a.task.budget)) a.field-0-1-is)
    ∙ sym (ap (λ r. Some (asked_in r)) a.field-0-is) ∙ sym (ap (option_map asked_in) a.is) ∙ c.in_ok-task.ensures in
    ran_by_put c.solve_id.result
    (c.each_request_has_an_answer.ensures (asked_of (map string_bytes c.args.words.now)))
    (g.met.I.Source.gives_nothing c.args.input.now) (g.met.O.Sink.takes_nothing c.args.output.now)
    (IfOk-weaker c.solve_id.result _ _ (λ r told input. subst (λ (q : Option Asked). Allows q input (answer_in r)) asked told) c.solve_id.ensures)
    c.put_reply.ensures.put c.put_reply.ensures.unmade

pub returns-in-Some-Grade-clause-ran : goal.returns-in-Some-Grade-clause-ran
returns-in-Some-Grade-clause-ran g c =
    let a = c.in-Some-Grade in
    let asked : Some (grade a.game c.as_bytes-in-Some-Grade.result.now a.options.budget a.options.traced) ≡ asked_of (map string_bytes c.args.words.now) =
    ap (λ t. Some (grade a.game t a.options.budget a.options.traced)) c.as_bytes-in-Some-Grade.ensures.value ∙ sym (ap (λ r. Some (asked_in r)) a.field-0-is) ∙ sym (ap (option_map asked_in) a.is) ∙ c.in_ok-task.ensures in
    ran_by_telling _ (g.met.I.Source.gives_nothing c.args.input.now) (λ input b told. subst (λ (q : Option Asked). Allows q input b) asked told) c.grade_id.ensures.answer

pub returns-in-Some-Generate-clause-ran : goal.returns-in-Some-Generate-clause-ran
returns-in-Some-Generate-clause-ran g c =
    let a = c.in-Some-Generate in
    let asked : Some (generate a.game c.as_bytes-in-Some-Generate.result.now a.recipe.seed a.recipe.limits.budget a.recipe.limits.tries a.recipe.black.value)
    ≡ asked_of (map string_bytes c.args.words.now) =
    ap (λ t. Some (generate a.game t a.recipe.seed a.recipe.limits.budget a.recipe.limits.tries a.recipe.black.value)) c.as_bytes-in-Some-Generate.ensures.value
    ∙ sym (ap (λ r. Some (asked_in r)) a.field-0-is) ∙ sym (ap (option_map asked_in) a.is) ∙ c.in_ok-task.ensures in
    ran_by_put c.generated.result
    (c.each_request_has_an_answer.ensures (asked_of (map string_bytes c.args.words.now)))
    (g.met.I.Source.gives_nothing c.args.input.now) (g.met.O.Sink.takes_nothing c.args.output.now)
    (IfOk-weaker c.generated.result _ _ (λ r told input. subst (λ (q : Option Asked). Allows q input (answer_in r)) asked told) c.generated.ensures)
    c.put_reply-in-Some-Generate.ensures.put c.put_reply-in-Some-Generate.ensures.unmade

pub returns-in-None-clause-ran : goal.returns-in-None-clause-ran
returns-in-None-clause-ran g c =
    let none : ◌≡◌ {A = Option Asked} None (asked_of (map string_bytes c.args.words.now)) = sym (ap (option_map asked_in) c.in-None.is) ∙ c.in_ok-task.ensures in
    ran_by_put c.words_reply.result
    (c.each_request_has_an_answer.ensures (asked_of (map string_bytes c.args.words.now)))
    (g.met.I.Source.gives_nothing c.args.input.now) (g.met.O.Sink.takes_nothing c.args.output.now)
    (IfOk-weaker c.words_reply.result _ _ (λ r told input. subst (λ (q : Option Asked). Allows q input (answer_in r)) none told) c.words_reply.ensures)
    c.put_reply-in-None.ensures.put c.put_reply-in-None.ensures.unmade
