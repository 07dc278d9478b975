use Rattle.pattern_core.proofs.WaitingLines.{next_column, next_none, next_row}
use Rattle.pattern_core.proofs.lines.PatternLinesRules.house_at.Goals as goal

pub returns-then-from-column : goal.returns-then-from-column
returns-then-from-column c = next_column _ _ c.columns-w.ensures c.requires c.if-from-column.true

pub returns-then-from-row : goal.returns-then-from-row
returns-then-from-row c = next_row _ _ c.columns-w.ensures c.requires c.if-from-column.false c.if-from-row.true

pub returns : goal.returns
returns c = next_none _ _ c.columns-w.ensures c.requires c.if-from-column.false c.if-from-row.false
