use Rattle.puzzles.proofs.Common.{IfOk-weaker, IsApp, codes, new_app}
use Rattle.puzzles.proofs.WordLemmas.{local_too, long_is, required_is, with_arg}
use Rattle.puzzles.proofs.command_line.generate_command.Goals as goal

pub returns : goal.returns
returns c =
    let bare : IsApp (new_app (codes "generate")) c.new.result = (c.new.ensures.app, c.new.ensures.local) in
    let game = with_arg bare c.in_ok-arg.ensures (required_is c.new-2.result c.required.ensures c.new-2.ensures.rule)
    (local_too c.required.ensures c.new-2.ensures.optional.1) in
    let size = with_arg game c.in_ok-arg-2.ensures (required_is c.new-3.result c.required-2.ensures c.new-3.ensures.rule)
    (local_too c.required-2.ensures c.new-3.ensures.optional.1) in
    let seed = with_arg size c.in_ok-arg-3.ensures (required_is c.long.result c.required-3.ensures (long_is c.new-4.result c.long.ensures c.new-4.ensures.rule))
    (local_too c.required-3.ensures (local_too c.long.ensures c.new-4.ensures.optional.1)) in
    let budget = with_arg seed c.in_ok-arg-4.ensures (long_is c.new-5.result c.long-2.ensures c.new-5.ensures.rule)
    (local_too c.long-2.ensures c.new-5.ensures.optional.1) in
    let tries = with_arg budget c.in_ok-arg-5.ensures (long_is c.new-6.result c.long-3.ensures c.new-6.ensures.rule)
    (local_too c.long-3.ensures c.new-6.ensures.optional.1) in
    IfOk-weaker c.arg-6.result _ _
    (λ command adds. with_arg tries adds (long_is c.new-7.result c.long-4.ensures c.new-7.ensures.rule)
    (local_too c.long-4.ensures c.new-7.ensures.optional.1)) c.arg-6.ensures
