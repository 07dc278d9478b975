use Rattle.gameid_core.specs.Common.{length, ◌≡◌, ◌≤◌}
use Rattle.gameid_core.specs.TentsText.{tents_at}
use Rattle.gameid_core.proofs.Reading.{place}
use Rattle.gameid_core.proofs.TentsTexts.{reads}
use Rattle.gameid_core.proofs.tents.id.parts.Given as goal

abbrev pub invariant-loop-first : goal.invariant-loop-first
invariant-loop-first l = record {
  short : length l.rest ≤ length l.description;
  so_far : reads l.size (place l.base (length l.description) l.rest) l.places.items l.counts.items l.rest ≡ tents_at l.size l.base l.description;
}

abbrev pub decreases-loop-first : goal.decreases-loop-first
decreases-loop-first l = length l.rest
