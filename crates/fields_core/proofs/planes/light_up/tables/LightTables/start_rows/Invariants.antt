use Rattle.fields_core.proofs.Common.{IsRowOf, IsRowRun, planes_have, is_numbered, length, light_cells, map, not, slice_index, white, ℕ, ◌*◌, ◌<◌, ◌≡◌}
use Rattle.fields_core.proofs.RuleLemmas.{IsStarted}
use Rattle.fields_core.proofs.planes.light_up.tables.LightTables.start_rows.Given as goal

abbrev pub invariant-loop-y : goal.invariant-loop-y
invariant-loop-y g l = record {
  started : IsStarted (light_cells l.puzzle) (λ c. not (white l.puzzle c)) (l.y * l.puzzle.size.w) (planes_have l.planes);
  size : l.planes.size ≡ l.puzzle.size;
  steps : length l.planes.takings ≡ length l.fn.planes.takings;
  rows : (k : ℕ) → k < l.y → IsRowOf l.puzzle.size.w (white l.puzzle) k (slice_index (map g.W.Word.bits l.self.rows.items) k);
  numbers : (k : ℕ) → k < l.y → IsRowOf l.puzzle.size.w (is_numbered l.puzzle) k (slice_index (map g.W.Word.bits l.self.numbers.items) k);
  runs : (c : ℕ) → c < l.y * l.puzzle.size.w → IsRowRun l.puzzle c (slice_index (map g.W.Word.bits l.self.row_runs.items) c);
  columns : l.self.columns ≡ l.fn.self.columns;
  column_runs : l.self.column_runs ≡ l.fn.self.column_runs;
  long_rows : length l.self.rows.items ≡ length l.fn.self.rows.items;
  long_numbers : length l.self.numbers.items ≡ length l.fn.self.numbers.items;
  long_runs : length l.self.row_runs.items ≡ length l.fn.self.row_runs.items;
}
