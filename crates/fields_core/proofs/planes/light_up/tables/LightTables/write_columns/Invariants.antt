use Rattle.fields_core.proofs.Common.{IsColumnOf, IsColumnRun, length, light_cells, map, slice_index, white, ℕ, ◌%◌, ◌<◌, ◌≡◌, ◌≤◌}
use Rattle.fields_core.proofs.planes.light_up.tables.LightTables.write_columns.Given as goal

abbrev pub invariant-loop-x : goal.invariant-loop-x
invariant-loop-x g l = record {
  columns : (k : ℕ) → k < l.x → IsColumnOf l.puzzle.size (white l.puzzle) k (slice_index (map g.W.Word.bits l.self.columns.items) k);
  runs : (c : ℕ) → c < light_cells l.puzzle → c % l.puzzle.size.w < l.x → IsColumnRun l.puzzle c (slice_index (map g.W.Word.bits l.self.column_runs.items) c);
  inside : l.x ≤ length l.self.columns.items;
  rows : l.self.rows ≡ l.fn.self.rows;
  numbers : l.self.numbers ≡ l.fn.self.numbers;
  row_runs : l.self.row_runs ≡ l.fn.self.row_runs;
  long_columns : length l.self.columns.items ≡ length l.fn.self.columns.items;
  long_runs : length l.self.column_runs.items ≡ length l.fn.self.column_runs.items;
}
