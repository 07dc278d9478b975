use Rattle.pattern_core.proofs.Common.{arith}
use Rattle.pattern_core.proofs.LineTakings.{clue_of_line}
use Rattle.pattern_core.proofs.line_clue.LineClue.new.Goals as goal

pub measured-cells-requires : goal.measured-cells-requires
measured-cells-requires c =
    let z = clue_of_line c.requires.lawful c.requires.line c.line-numbers.ensures in
    record { positive = z.0; fits = omega arith }
