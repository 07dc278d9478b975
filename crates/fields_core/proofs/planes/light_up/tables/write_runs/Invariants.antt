use Rattle.fields_core.proofs.Common.{AreWordsWritten, has_bit, length, map, ◌-◌, ◌≡◌, ◌≤◌}
use Rattle.fields_core.proofs.LightRunWords.{AreNumbersLeft}
use Rattle.fields_core.proofs.planes.light_up.tables.write_runs.Given as goal

abbrev pub invariant-loop-blacks : goal.invariant-loop-blacks
invariant-loop-blacks g l = let bits = g.W.Word.bits in record {
  low : l.start ≤ l.len;
  left : AreNumbersLeft (has_bit (bits l.fn.white)) l.len l.start (bits l.blacks);
  written : AreWordsWritten (has_bit (bits l.fn.white)) l.len l.first l.stride l.start (map bits l.fn.runs.items) (map bits l.runs.items);
  long : length l.runs.items ≡ length l.fn.runs.items;
}

abbrev pub decreases-loop-blacks : goal.decreases-loop-blacks
decreases-loop-blacks g l = l.len - l.start
