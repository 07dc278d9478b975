use Rattle.engine_core.proofs.Common.{SameShape, trail_back_at, has, length, ℕ, ◌≡◌, ◌≤◌}
use Rattle.engine_core.specs.Keeping.{StillServes}
use Rattle.engine_core.proofs.trail.noting.put_back.Given as goal

abbrev pub invariant-loop-trailed : goal.invariant-loop-trailed
invariant-loop-trailed g l =
    let puzzle = g.S.RuleSet.puzzle_of l.rules.set in
    record {
      low : l.mark ≤ l.trailed.len;
      back : (m : ℕ) → m ≤ l.mark → trail_back_at l.trailed m ≡ trail_back_at l.fn.trailed m;
      shape : SameShape l.fn.trailed.board l.trailed.board;
      same_room : length l.trailed.changes ≡ length l.fn.trailed.changes;
      noted : g.S.Notes.Notes.noted puzzle (has l.trailed.board) l.notes;
      keeps : StillServes g.S.Notes.Notes.made_for l.fn.notes l.notes;
    }

abbrev pub decreases-loop-trailed : goal.decreases-loop-trailed
decreases-loop-trailed g l = l.trailed.len
