use Rattle.gameid_core.specs.Common.{List, [], ap, get_or, runs, ℕ, ◌+◌, ◌∙◌}
use Rattle.gameid_core.proofs.LineLaws.{at_column, at_row, runs_lawful}
use Rattle.gameid_core.proofs.pattern.puzzle.PatternPuzzle.of_grid.Goals as goal

pub invariant_of-result : goal.invariant_of-result
invariant_of-result c = runs_lawful c.args.size c.args.grid.now _ c.in_ok-clues.ensures.lawful c.in_ok-clues.ensures.runs

pub returns-clause-lawful : goal.returns-clause-lawful
returns-clause-lawful c = runs_lawful c.args.size c.args.grid.now _ c.in_ok-clues.ensures.lawful c.in_ok-clues.ensures.runs

pub returns-clause-columns : goal.returns-clause-columns
returns-clause-columns c = λ x lt. ap (λ (cs : List (List ℕ)). get_or cs x []) c.in_ok-clues.ensures.runs ∙ at_column runs [] c.args.size c.args.grid.now x lt

pub returns-clause-rows : goal.returns-clause-rows
returns-clause-rows c =
    λ y lt. ap (λ (cs : List (List ℕ)). get_or cs (c.args.size.w + y) []) c.in_ok-clues.ensures.runs
    ∙ at_row runs [] c.args.size c.args.grid.now y lt
