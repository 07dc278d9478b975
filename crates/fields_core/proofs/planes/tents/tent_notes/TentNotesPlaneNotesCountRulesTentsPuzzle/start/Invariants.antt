use Rattle.fields_core.proofs.Common.{IsRowOf, planes_have, is_barred, length, map, not, slice_index, tent_cells, tree, wants_tent, ℕ, ◌*◌, ◌<◌, ◌≡◌}
use Rattle.fields_core.proofs.RuleLemmas.{IsStarted}
use Rattle.fields_core.proofs.TentTreeWords.{IsBefore}
use Rattle.fields_core.proofs.planes.tents.tent_notes.TentNotesPlaneNotesCountRulesTentsPuzzle.start.Given as goal

abbrev pub invariant-loop-y : goal.invariant-loop-y
invariant-loop-y g l = record {
  started : IsStarted (tent_cells l.rules.puzzle) (is_barred l.rules.puzzle) (l.y * l.rules.puzzle.size.w) (planes_have l.planes);
  size : l.planes.size ≡ l.rules.puzzle.size;
  room : length l.planes.takings ≡ length l.fn.planes.takings;
  trees : IsBefore g.W.Word.bits l.rules.puzzle.size (tree l.rules.puzzle) l.y l.trees;
  others : IsBefore g.W.Word.bits l.rules.puzzle.size (λ d. not (tree l.rules.puzzle d)) l.y l.others;
  written : (k : ℕ) → k < l.y → IsRowOf l.rules.puzzle.size.w (wants_tent l.rules.puzzle) k (slice_index (map g.W.Word.bits l.self.trees.items) k);
  long : length l.self.trees.items ≡ length l.fn.self.trees.items;
}
