use Rattle.commands.proofs.Common.{subst, take, ℕ}
use Rattle.commands.proofs.BatchLemmas.{given_no_more}
use Rattle.commands.proofs.ends.text.take_whole.Goals as goal

pub returns-in-Some-eq0-clause-taken : goal.returns-in-Some-eq0-clause-taken
returns-in-Some-eq0-clause-taken g c = given_no_more g.met.I.Source.gives_both c.loop-turn.invariant.kept
    (subst (λ (n : ℕ). g.I.Source.gives c.loop-turn.input (take n c.fetch.new.buffer) c.fetch.new.self) c.in-Some-eq0.field-0-test c.in-Some-eq0.ensures.bytes)

pub returns-in-Some-eq0-clause-read : goal.returns-in-Some-eq0-clause-read
returns-in-Some-eq0-clause-read g c =
    let k = c.loop-turn.invariant.kept in
    (_, g.met.I.Source.gives_both _ _ _ k.seen _ k.gave c.in-Some-eq0.ensures.bytes)

pub returns-in_err-take-in-Some-clause-read : goal.returns-in_err-take-in-Some-clause-read
returns-in_err-take-in-Some-clause-read g c =
    let k = c.loop-turn.invariant.kept in
    (_, g.met.I.Source.gives_both _ _ _ k.seen _ k.gave c.in-Some.ensures.bytes)

pub returns-in-None-clause-read : goal.returns-in-None-clause-read
returns-in-None-clause-read g c =
    let k = c.loop-turn.invariant.kept in
    (_, g.met.I.Source.gives_both _ _ _ k.seen _ k.gave c.in-None.ensures.bytes)
