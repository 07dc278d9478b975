-- The lemmas that the proofs of each source file go by.
use Rattle.fields_core.proofs.HouseLemmas.{cell-at, four-long, left-within, line-cells, place-here, place-later, places-last, segment-at, segment-long, tally-all, tally-few, tally-first, tally-past, tally-segment, white-at}
use Rattle.fields_core.proofs.CountKept.{partly-first, two-bits}
use Rattle.fields_core.proofs.LightRuleLemmas.{light-counting, light-lawful, light-tells, rule-from-test, test-from-rule}
use Rattle.fields_core.proofs.LightSeen.{black-unseen}
use Rattle.fields_core.proofs.RunLemmas.{few-places}
use Rattle.fields_core.proofs.KindLemmas.{listed-named, unnamed}
use Rattle.fields_core.proofs.MeasureLemmas.{longest-is}
use Rattle.fields_core.proofs.LightCompleting.{column-of-place, place-row, row-of-place}
use Rattle.fields_core.proofs.RuleLemmas.{same-shape, start-all, start-blocked}
use Rattle.fields_core.proofs.TentCounting.{tent-counting, tent-lawful}
use Rattle.fields_core.proofs.TentLines.{barred-alone, barred-tree, count-none, line-all, line-more, line-skip, line-start, listed-all, listed-skip, next-joined, next-none, passed-bare, passed-early, passed-edge, passed-start}
use Rattle.fields_core.proofs.TentRuleLemmas.{count-is, listed-tents, others-unpaired, short-unpaired, solution-from-tents, tents-from-solution, tents-tell, whole-pairs}
use Rattle.fields_core.proofs.VisitLemmas.{sweep-first, sweep-more}
use Rattle.fields_core.proofs.Common.{eq-eqb, mul-lt, ne_eqb}

pub ruleset count_rules_laws = (start-blocked, same-shape, start-all, listed-named, unnamed, longest-is, partly-first)

pub ruleset house_laws = (line-cells, segment-at, segment-long, place-here, place-later, places-last, left-within, four-long, mul-lt)

pub ruleset laws_laws = (light-lawful, tent-lawful, rule-from-test, test-from-rule, solution-from-tents, tents-from-solution)

pub ruleset light_cells_laws = (white-at)

pub ruleset light_check_laws = (ne_eqb, eq-eqb, cell-at)

pub ruleset light_line_laws = (few-places)

pub ruleset light_rules_laws = (light-counting, light-tells, place-row, row-of-place, column-of-place)

pub ruleset light_sight_laws = (black-unseen)

pub ruleset tally_laws = (tally-first, tally-segment, tally-past, tally-few, tally-all, two-bits)

pub ruleset tent_check_laws = (line-start, line-skip, line-more, line-all, ne_eqb, eq-eqb)

pub ruleset tent_pairs_laws =
    (next-joined, listed-skip, listed-all, passed-start, passed-edge, passed-bare, passed-early, next-none, count-none, others-unpaired, listed-tents, count-is, whole-pairs, short-unpaired)

pub ruleset tent_rules_laws = (tent-counting, tents-tell, barred-tree, barred-alone)

pub ruleset tent_touch_laws = (eq-eqb, ne_eqb)

pub ruleset tent_sweep_laws = (sweep-first, sweep-more)
