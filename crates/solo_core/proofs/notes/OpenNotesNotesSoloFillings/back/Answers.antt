use Rattle.solo_core.proofs.Common.{arith, length, ◌≡◌}
use Rattle.std.proofs.Math.Seq.{take-append_seam}
use Rattle.solo_core.proofs.notes.OpenNotesNotesSoloFillings.back.Goals as goal

pub returns-clause-noted : goal.returns-clause-noted
returns-clause-noted c = λ L same.
    let long : c.args.self.now.houses.len ≡ length c.open_at.new.houses = omega (arith, c.open_at.ensures.as_many, c.deref_mut.ensures.len) in
    rw (long, take-append_seam c.open_at.new.houses) (rw c.set.ensures at (c.open_at.ensures.notes L same))
