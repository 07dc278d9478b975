use Rattle.puzzles.proofs.Common.{IfOk-weaker, IsApp, codes, new_app, rules}
use Rattle.puzzles.proofs.WordLemmas.{with_arg}
use Rattle.puzzles.proofs.command_line.grade_command.Goals as goal

pub returns : goal.returns
returns c =
    let bare : IsApp (new_app (codes "grade")) c.new.result = (c.new.ensures.app, c.new.ensures.local) in
    let game = with_arg bare c.in_ok-arg.ensures (search rules) (search rules) in
    let id = with_arg game c.in_ok-arg-2.ensures (search rules) (search rules) in
    let budget = with_arg id c.in_ok-arg-3.ensures (search rules) (search rules) in
    IfOk-weaker c.arg-4.result _ _ (λ command adds. with_arg budget adds (search rules) (search rules)) c.arg-4.ensures
