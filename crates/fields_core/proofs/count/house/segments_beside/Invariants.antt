use Rattle.fields_core.proofs.Common.{Bool, Segment, TestsBelow, [], filter, get_or, length, places_in_segments, segment_places, steps, ℕ, ◌*◌, ◌<◌, ◌≡◌, ◌≤◌}
use Rattle.fields_core.proofs.count.house.segments_beside.Given as goal

abbrev pub invariant-loop-direction : goal.invariant-loop-direction
invariant-loop-direction g l = record {
  found : (test : ℕ → Bool) → TestsBelow (goal.F-post g l.passes) test (l.size.w * l.size.h)
      → places_in_segments l.cells ≡ filter test (steps l.size l.place l.direction);
  rest : (k : ℕ) (d : Segment) → l.direction ≤ k → k < length l.cells → segment_places (get_or l.cells k d) ≡ [];
  four : length l.cells ≡ 4;
}
