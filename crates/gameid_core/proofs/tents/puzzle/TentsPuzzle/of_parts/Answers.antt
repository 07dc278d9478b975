use Rattle.gameid_core.specs.Common.{List, ap, get_or, ones, ℕ, ◌+◌, ◌∙◌}
use Rattle.gameid_core.proofs.LineLaws.{at_column, at_row}
use Rattle.gameid_core.proofs.tents.puzzle.TentsPuzzle.of_parts.Goals as goal

pub returns-clause-columns : goal.returns-clause-columns
returns-clause-columns c = λ x lt.
    rw c.of-2.ensures (ap (λ (cs : List ℕ). get_or cs x 0) c.in_ok-counts.ensures.ones ∙ at_column ones 0 c.args.size c.args.tents.now x lt)

pub returns-clause-rows : goal.returns-clause-rows
returns-clause-rows c =
    λ y lt. rw c.of-2.ensures (ap (λ (cs : List ℕ). get_or cs (c.args.size.w + y) 0) c.in_ok-counts.ensures.ones
    ∙ at_row ones 0 c.args.size c.args.tents.now y lt)
