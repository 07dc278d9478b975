use Rattle.commands.proofs.Common.{TakesTask, false, length, ◌≡◌}
use Rattle.commands.proofs.batch.take_input.Given as goal

abbrev pub invariant-loop-turn : goal.invariant-loop-turn
invariant-loop-turn g l = record {
  taken : TakesTask g.I.Source.gives g.O.Sink.takes l.task l.fn.input l.fn.output l.batch l.input l.output;
  calls : g.I.Source.call_count l.input ≡ l._turn;
  input_fine : g.I.Source.has_failed l.input ≡ false;
  input_open : g.I.Source.has_ended l.input ≡ false;
  output_fine : g.O.Sink.has_failed l.output ≡ false;
  room : length l.buffer ≡ 4096;
}
