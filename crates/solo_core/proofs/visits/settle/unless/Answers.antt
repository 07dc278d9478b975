use Rattle.std.proofs.lemmas.Nat.{and_mask}
use Rattle.solo_core.proofs.Common.{arith, cases_Bool, inl, inr, ◌+◌, ◌%◌, ◌≡◌}
use Rattle.solo_core.proofs.visits.settle.unless.Goals as goal

pub returns : goal.returns
returns c =
    let set = c.args.set in
    elim (cases_Bool c.args.on) [
      | inl on ↦
          let zero : (c.from.result + 4294967295) % 4294967296 ≡ 0 = rw (c.from.ensures, on) (omega arith) in
          rw (on, zero) (omega (arith, and_mask set 0))
      | inr off ↦
          let all : (c.from.result + 4294967295) % 4294967296 ≡ 4294967295 = rw (c.from.ensures, off) (omega arith) in
          rw (off, all) (omega (arith, and_mask set 32))
    ]
