use Rattle.commands.proofs.Common.{ap, refl, rules, subst, take, ℕ, ◌+◌, ◌∙◌}
use Rattle.commands.proofs.BatchLemmas.{given_more, given_no_more, on_any_err, stopped_here}
use Rattle.commands.proofs.batch.take_input.Goals as goal

pub returns-in-Some-eq0-clause-taken : goal.returns-in-Some-eq0-clause-taken
returns-in-Some-eq0-clause-taken g c = given_no_more g.met.I.Source.gives_both c.loop-turn.invariant.taken
    (subst (λ (n : ℕ). g.I.Source.gives c.loop-turn.input (take n c.fetch.new.buffer) c.fetch.new.self) c.in-Some-eq0.field-0-test c.in-Some-eq0.ensures.bytes)

pub returns-in_err-take_chunk-in-Some-clause-stopped : goal.returns-in_err-take_chunk-in-Some-clause-stopped
returns-in_err-take_chunk-in-Some-clause-stopped g c = on_any_err c.from_residual.result (λ answers.
    given_more g.met.I.Source.gives_both refl c.loop-turn.invariant.taken c.in-Some.ensures.bytes
    (c.in_err-take_chunk-in-Some.ensures.stopped answers c.args.output.now))

pub returns-in-None-clause-stopped : goal.returns-in-None-clause-stopped
returns-in-None-clause-stopped g c =
    λ answers. stopped_here g.met.I.Source.gives_both answers _ _ _
    (given_no_more g.met.I.Source.gives_both c.loop-turn.invariant.taken c.in-None.ensures.bytes)

pub loop-turn-preserved : goal.loop-turn-preserved
loop-turn-preserved g c = record {
  taken =
      given_more g.met.I.Source.gives_both refl c.loop-turn.invariant.taken c.in-Some.ensures.bytes
      (c.in_ok-take_chunk-in-Some.ensures.goes_on c.args.output.now);
  calls = c.in-Some.ensures.counted ∙ ap (λ n. n + 1) c.loop-turn.invariant.calls;
  input_fine = c.in-Some.ensures.failed;
  input_open = search rules;
  output_fine = c.in_ok-take_chunk-in-Some.ensures.fine;
  room = search rules;
}

pub returns-clause-stopped : goal.returns-clause-stopped
returns-clause-stopped g c =
    λ answers. stopped_here g.met.I.Source.gives_both answers _ _ c.loop-turn.batch c.loop-turn.invariant.taken
