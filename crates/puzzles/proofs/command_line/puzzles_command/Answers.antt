use Rattle.puzzles.proofs.Common.{IfOk-weaker, app_of, bare_app, rules, ◌≡◌}
use Rattle.puzzles.proofs.WordLemmas.{with_command}
use Rattle.puzzles.proofs.command_line.puzzles_command.Goals as goal

pub returns : goal.returns
returns c =
    let bare : app_of c.subcommand_required.result ≡ bare_app = search rules in
    let solving = with_command bare c.in_ok-solve_command.ensures c.in_ok-subcommand.ensures in
    let checking = with_command solving c.in_ok-check_command.ensures c.in_ok-subcommand-2.ensures in
    let grading = with_command checking c.in_ok-grade_command.ensures c.in_ok-subcommand-3.ensures in
    IfOk-weaker c.subcommand-4.result _ _ (λ program adds. with_command grading c.in_ok-generate_command.ensures adds) c.subcommand-4.ensures
