use Rattle.gameid_core.specs.Common.{length, ◌*◌, ◌≡◌, ◌≤◌}
use Rattle.gameid_core.specs.SoloText.{solo_cells_at, solo_token}
use Rattle.gameid_core.proofs.Reading.{fills, place}
use Rattle.gameid_core.proofs.solo.id.SoloPuzzleIdText.read_description.Given as goal

abbrev pub invariant-loop-first : goal.invariant-loop-first
invariant-loop-first l = record {
  short : length l.rest ≤ length l.description;
  room : length l.givens.items ≤ l.n * l.n;
  so_far : fills (solo_token l.n) (l.n * l.n) (place l.head.description (length l.description) l.rest) l.givens.items l.rest ≡ solo_cells_at l.n l.head.description l.description;
}

abbrev pub decreases-loop-first : goal.decreases-loop-first
decreases-loop-first l = length l.rest
