use Rattle.engine_core.proofs.Common.{arith}
use Rattle.std.proofs.lemmas.List.FromFn.{get_or-range_with_len, length-range_with_len}
use Rattle.engine_core.proofs.notes.plain.PlainNotesNotes.number.Goals as goal

pub returns : goal.returns
returns g c =
    omega (arith, get_or-range_with_len 0 c.args.self.now.left.len c.args.i 0 (omega (arith, c.requires, length-range_with_len 0 c.args.self.now.left.len)))
