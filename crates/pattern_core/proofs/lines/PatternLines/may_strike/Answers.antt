use Rattle.pattern_core.proofs.Common.{ap, line_cells, not-false, ◌∙◌}
use Rattle.pattern_core.proofs.RoomyLines.{start_idle}
use Rattle.pattern_core.proofs.lines.PatternLines.may_strike.Goals as goal

pub returns : goal.returns
returns c = λ roomy.
    let long = c.line_len.ensures.cells ∙ ap (λ s. line_cells s c.args.line) c.size.ensures in
    start_idle _ c.requires (rw (← c.clue.ensures, ← long) (c.is_roomy.ensures (not-false _ roomy)))
