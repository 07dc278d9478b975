use Rattle.engine_core.proofs.Common.{IsTrail, SameShape, trail_back_at, cells_of, has, before_changes, length, ℕ, ◌≡◌, ◌≤◌}
use Rattle.engine_core.proofs.trail.trailed.TrailedBoard.undo.Given as goal

abbrev pub invariant-loop-self : goal.invariant-loop-self
invariant-loop-self l =
    let b = l.self-inside.board in
    record {
      low : l.mark ≤ l.self-inside.len;
      trail : IsTrail (cells_of b) b.values (has b) l.self-inside.changes.items l.self-inside.len;
      back : (m : ℕ) → m ≤ l.mark → before_changes (has b) l.self-inside.changes.items m l.self-inside.len ≡ trail_back_at l.fn.self m;
      shape : SameShape l.fn.self.board b;
      same_room : length l.self-inside.changes.items ≡ length l.fn.self.changes;
    }

abbrev pub decreases-loop-self : goal.decreases-loop-self
decreases-loop-self l = l.self-inside.len
