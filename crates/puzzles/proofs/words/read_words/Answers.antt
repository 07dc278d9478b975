use Rattle.puzzles.proofs.Common.{ap, asked_by_rows, asked_of, sym, ◌∙◌}
use Rattle.puzzles.proofs.WordLemmas.{parsed_ok, parsed_err}
use Rattle.puzzles.proofs.words.read_words.Goals as goal

pub returns-in-Ok : goal.returns-in-Ok
unfolding asked_of
returns-in-Ok c = c.request_in.ensures ∙ ap asked_by_rows
    (parsed_ok _ _ c.in-Ok.matches c.in_ok-command.ensures c.in-Ok.ensures.kinds c.in-Ok.ensures.matches)

pub returns : goal.returns
unfolding asked_of
returns c = sym (ap asked_by_rows
    (parsed_err _ _ c.in-Err.error c.in_ok-command.ensures c.in-Err.ensures.kinds (λ e. c.in_default.not-OutOfMemory (c.kind.ensures ∙ e))))
