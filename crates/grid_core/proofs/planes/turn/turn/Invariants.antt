use Rattle.grid_core.proofs.Common.{bit_of, count_below, differ, has_bit, length, map, not, true, ℕ, ◌&&◌, ◌<◌, ◌==◌, ◌≡◌}
use Rattle.grid_core.proofs.planes.turn.turn.Given as goal

abbrev pub invariant-loop-own : goal.invariant-loop-own
invariant-loop-own g l =
    let bits = g.W.Word.bits in
    record {
      inside : (k : ℕ) → has_bit (bits l.rest) k ≡ true → has_bit (bits l.fn.bits) k ≡ true;
      across : (k u j : ℕ) → u < 2 → bit_of (map bits l.across.items) k u j
          ≡ differ (bit_of (map bits l.fn.across.items) k u j)
          ((u == l.value) && ((j == l.line) && (has_bit (bits l.fn.bits) k && not
          (has_bit (bits l.rest) k))));
      wide : length l.across.items ≡ length l.fn.across.items;
    }

abbrev pub decreases-loop-own : goal.decreases-loop-own
decreases-loop-own g l = count_below (has_bit (g.W.Word.bits l.rest)) g.W.Word.room
