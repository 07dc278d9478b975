use Rattle.pattern_core.proofs.FaultLemmas.{pattern_none}
use Rattle.pattern_core.specs.Solutions.{FailsPattern, pattern_tests}
use Rattle.gameid_core.proofs.FirstFailed.{none_exactly}
use Rattle.pattern_core.proofs.check.check_pattern.Goals as goal

pub returns-clause-solution : goal.returns-clause-solution
returns-clause-solution c =
    let p = c.args.puzzle.now in let g = c.args.grid.now in
    none_exactly (FailsPattern p g) (pattern_tests p) (pattern_none p g) _ c.first_fault.ensures
