use Rattle.solo_core.proofs.Common.{FailsSolo, ◌++◌}
use Rattle.solo_core.proofs.RepeatLemmas.{solo_none}
use Rattle.solo_core.specs.Faults.{given_tests, house_tests}
use Rattle.gameid_core.proofs.FirstFailed.{none_exactly}
use Rattle.solo_core.proofs.check.check_solo.Goals as goal

pub returns-clause-solution : goal.returns-clause-solution
returns-clause-solution c =
    let p = c.args.puzzle.now in let g = c.args.grid.now in
    none_exactly (FailsSolo p g) (given_tests p ++ house_tests p) (solo_none p c.first_fault.ensures.lawful g) _ c.first_fault.ensures.fault
