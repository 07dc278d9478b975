use Rattle.grid_core.proofs.Common.{ArePlanes, back_at, layers_of, length, ℕ, ◌≡◌, ◌≤◌}
use Rattle.grid_core.proofs.planes.Planes.undo.Given as goal

abbrev pub invariant-loop-self : goal.invariant-loop-self
invariant-loop-self g l =
    let p = l.self-inside in
    let layers = layers_of g.W.Word.bits p.size p.rows.items p.columns.items p.changes.items p.len in
    record {
      low : l.len ≤ p.len;
      are : ArePlanes g.W.Word.room layers;
      back : (m : ℕ) → m ≤ l.len → back_at layers m ≡ back_at l.fn.self m;
      same_size : p.size ≡ l.fn.self.size;
      same_room : length layers.takings ≡ length l.fn.self.takings;
    }

abbrev pub decreases-loop-self : goal.decreases-loop-self
decreases-loop-self g l = l.self-inside.len
