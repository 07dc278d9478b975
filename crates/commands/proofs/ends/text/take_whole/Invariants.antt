use Rattle.commands.proofs.Common.{Given, IsKeptText, false, length, text_limit, ◌≡◌}
use Rattle.commands.proofs.ends.text.take_whole.Given as goal

abbrev pub invariant-loop-turn : goal.invariant-loop-turn
invariant-loop-turn g l = record {
  kept : Given g.I.Source.gives l.fn.input l.input (IsKeptText text_limit l.kept);
  calls : g.I.Source.call_count l.input ≡ l._turn;
  input_fine : g.I.Source.has_failed l.input ≡ false;
  input_open : g.I.Source.has_ended l.input ≡ false;
  room : length l.buffer ≡ 4096;
}
