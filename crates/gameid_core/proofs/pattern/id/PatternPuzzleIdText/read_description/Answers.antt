use Rattle.gameid_core.specs.Common.{IsExtent, rules}
use Rattle.gameid_core.proofs.PatternTexts.{clues_lawful}
use Rattle.gameid_core.proofs.pattern.id.PatternPuzzleIdText.read_description.Goals as goal

pub invariant_of-result : goal.invariant_of-result
invariant_of-result c =
    let lawful : IsExtent c.unwrap-size.result = search rules in
    clues_lawful _ _ _ _ lawful c.in_ok-clues.ensures
