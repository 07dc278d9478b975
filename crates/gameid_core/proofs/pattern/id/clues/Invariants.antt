use Rattle.gameid_core.specs.Common.{length, used, ◌≡◌, ◌≤◌}
use Rattle.gameid_core.specs.PatternText.{clues_at}
use Rattle.gameid_core.proofs.Reading.{place}
use Rattle.gameid_core.proofs.PatternTexts.{reads}
use Rattle.gameid_core.proofs.pattern.id.clues.Given as goal

abbrev pub invariant-loop-first : goal.invariant-loop-first
invariant-loop-first l = record {
  short : length l.rest ≤ length l.description;
  before : l.before ≡ used l.clues.clue;
  small : l.before ≤ 256;
  so_far : reads l.size (place l.base (length l.description) l.rest) l.clues l.rest ≡ clues_at l.size l.base l.description;
}

abbrev pub decreases-loop-first : goal.decreases-loop-first
decreases-loop-first l = length l.rest
