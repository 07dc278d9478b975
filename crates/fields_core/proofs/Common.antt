-- Words and lemmas of std and of the crates below, and words of this crate, as its proofs use them.
pub use Rattle.std.proofs.Common.{Bool, List, None, Option, Some, [], add-one, ap, ap₂, arith, cond, drop, eqb, false, get_or, inl, inr, is_some, le-leb, leb}
pub use Rattle.std.proofs.Common.{leb-true, length, length-set, ltb, map, max, min, not, refl, replicate, rules, set, slice_index, subst, suc, sym, take}
pub use Rattle.std.proofs.Common.{true, vec_len, zero, ℕ, ◌%◌, ◌&&◌, ◌*◌, ◌++◌, ◌+◌, ◌-◌, ◌/◌, ◌<◌, ◌^◌, ◌||◌, ◌↔◌, ◌∙◌, ◌∷◌, ◌≡◌, ◌≢◌, ◌≤◌, ◌⊎◌}
pub use Rattle.std.proofs.Math.Bool.{and-false, and-true, and_comm, or-false, or-true}
pub use Rattle.std.proofs.Math.Nat.{div-eq_of_lt, div-lt_iff_lt-mul, div-mul-le_self, mod-lt, mul-le-mul_right}
pub use Rattle.std.proofs.Math.Path.{fun_ext}
pub use Rattle.std.proofs.Math.Seq.{get_or-append_seam}
pub use Rattle.std.proofs.lemmas.Bool.{and_from, and_left, and_parts, cases_Bool, cases_eq, cases_lt, cond-false, cond-true, eq-eqb, eqb-false, eqb-true}
pub use Rattle.std.proofs.lemmas.Bool.{false_from_ne_true, false≢true, le-ltb, lt-ltb, ltb-false, ltb-true, ne_eqb, not-false, not-true, or_cases, or_left}
pub use Rattle.std.proofs.lemmas.Bool.{or_parts, or_right, true≢false}
pub use Rattle.std.proofs.lemmas.Grind.{common_steps}
pub use Rattle.std.proofs.lemmas.List.{append-nil, append_assoc, at_drop_more, drop_all, get_or-append_right, get_or-map, get_or-replicate, get_or-set_other}
pub use Rattle.std.proofs.lemmas.List.{get_or-set_same, get_or_append_left, get_or_past, length-append, length-map, length-take, map-append, map-set}
pub use Rattle.std.proofs.lemmas.List.Elements.{All-from_get_or, filter-append, filter_agree}
pub use Rattle.std.proofs.lemmas.List.Folds.{list_any-append, list_any_none}
pub use Rattle.std.proofs.lemmas.List.FromFn.{get_or-map-range_with_len, get_or-range_with_len, length-map-range_with_len, length-range_with_len}
pub use Rattle.std.proofs.lemmas.List.Sums.{count_by-le-length, length-filter, sum_by-append, sum_by-cons}
pub use Rattle.std.proofs.lemmas.Nat.{div-add-mod', div-mul-add, le-div, mod-mul-add, mul-add-lt, mul-lt}
pub use Rattle.std.proofs.lemmas.Option.{slice_get-get_or, slice_get_within}
pub use Rattle.std.specs.List.{AllByRecursion, count_by, filter, list_any, range_with_len, slice_get}
pub use Rattle.std.specs.Prelude.{MatchOption, ◌==◌}
pub use Rattle.grid_core.proofs.BoardLemmas.{all_below-at, all_below-from, any_below-here, any_below-none, any_below-same, any_below-some}
pub use Rattle.grid_core.proofs.BoardLemmas.{count_below-bound, count_below-few, count_below-lt, count_below-none, count_below-pos, count_below-same}
pub use Rattle.grid_core.proofs.BoardLemmas.{is_dead-each, is_dead-here, is_dead-not, least_below-passes, within_inside}
pub use Rattle.grid_core.proofs.Common.{bool_byte}
pub use Rattle.grid_core.proofs.GridLemmas.{only-inside, only-other, single-at}
pub use Rattle.grid_core.proofs.PlaneLemmas.{further-more, further-none, place-column, place-in}
pub use Rattle.grid_core.proofs.RegionLemmas.{column-at, row-at}
pub use Rattle.grid_core.proofs.WordLemmas.{fewer_left}
pub use Rattle.grid_core.specs.Board.{Layout, SameShape}
pub use Rattle.grid_core.specs.Candidates.{Candidates, IsInside, IsWithin, max_cells}
unfoldable pub use Rattle.grid_core.specs.Candidates.{all_below, all_of, any_below, count_below, is_dead, least_below, total, without}
pub use Rattle.grid_core.specs.Extent.{Extent}
pub use Rattle.grid_core.specs.Grids.{IsGrid}
pub use Rattle.grid_core.specs.Planes.{AreLinesOf, ArePlanes, IsFurther, IsLostIn, Layers, at_line, back_at, plane_cells, line_len, lines_beside, number_of}
unfoldable pub use Rattle.grid_core.specs.Planes.{bit_of, covers, crosses, planes_have, without_taking}
pub use Rattle.grid_core.specs.Regions.{beside, column_places, if_there, row_places}
unfoldable pub use Rattle.grid_core.specs.Regions.{step, steps}
pub use Rattle.grid_core.specs.Words.{IsLeast, has_bit}
unfoldable pub use Rattle.grid_core.specs.Words.{differ}
pub use Rattle.grid_core.specs.declared.planes.line.Line.{Line}
pub use Rattle.grid_core.specs.declared.planes.line.Line.TheVariants.{Column, Row}
pub use Rattle.grid_core.specs.declared.planes.touched_lines.Touched.{Touched}
pub use Rattle.gameid_core.proofs.FirstFailed.{AreRight, IsKnown, IsKindMade, TestKind, first_in, known_tests, none_exactly, none_held, none_right, none_tells}
pub use Rattle.gameid_core.proofs.FirstFailed.{right_none, tests}
pub use Rattle.gameid_core.specs.FirstFailed.{IsFirstFailed, NoneFails}
pub use Rattle.gameid_core.specs.Puzzles.{AreCounts, IsLight, IsLightCell, IsTents, Light, Tents}
pub use Rattle.gameid_core.specs.declared.light_up.cell.LightCell.{LightCell}
pub use Rattle.gameid_core.specs.declared.light_up.cell.LightCell.TheVariants.{Black, Numbered, White}
pub use Rattle.engine_core.proofs.HouseLemmas.{IsStriking, kept-inside, striking-more}
pub use Rattle.engine_core.proofs.MarkLemmas.{counted, not_taken, numbered, taken-here, taken-other}
pub use Rattle.engine_core.specs.ClosingList.{IsClosing}
pub use Rattle.engine_core.specs.Filling.{Fills, IsShown, has_value, strikes_by_fillings}
pub use Rattle.engine_core.specs.FillingLaws.{Fills-cons, Fills-tail, filling_from_test, has_value_below, shown_from_test, test_from_filling, test_from_shown}
pub use Rattle.engine_core.specs.HouseSets.{AreDifferent}
unfoldable pub use Rattle.engine_core.specs.HouseSets.{sets_at}
pub use Rattle.engine_core.specs.HouseSetsLaws.{by_fillings-met, by_fillings-monotone, by_fillings-settled, length-sets_at, sets_at-small, sets_at-value}
pub use Rattle.engine_core.specs.HouseSetsLaws.{strikes_at-in_scope, strikes_at-inside, strikes_at-place}
pub use Rattle.engine_core.specs.PlaceLaws.{AreDistinct, different-from, distinct-append, distinct-filter, distinct-from, has_place-at, has_place-here}
pub use Rattle.engine_core.specs.PlaceLaws.{place-append, place-back, place-filter, place-front, place-kept}
pub use Rattle.engine_core.specs.PlaneNotes.{AreKept, HasBoard}
pub use Rattle.engine_core.specs.Position.{IsClosedAround, IsClosedBut}
pub use Rattle.engine_core.specs.RuleSystem.{IsClosed, IsClosedGrid, IsLawful, IsNext, RuleSystem, needs_of}
unfoldable pub use Rattle.engine_core.specs.RuleSystem.{after, has_place, longest}
pub use Rattle.engine_core.specs.declared.mode.Closing.TheVariants.{Dead, Open}
pub use Rattle.fields_core.specs.Count.{counts_between, is_empty, is_open, nonzeros}
pub use Rattle.fields_core.specs.CountHouse.{AreHouses, AreMet, CountHouse, CountPuzzle, IsCounting, IsHouse, count_house_of, count_puzzle, exactly}
pub use Rattle.fields_core.specs.CountHouse.{no_count_house, one_at_least, one_at_most, rules_of}
unfoldable pub use Rattle.fields_core.specs.CountHouse.{after_house, houses_below, meets_house, start_of, strikes_of}
pub use Rattle.fields_core.specs.CountLaws.{count-lawful}
pub use Rattle.fields_core.specs.Houses.{AddsHouses, AreNamed, IsMeasured, TestsBelow, bounds_of, house_told, houses_of_kinds, longest_of, named, places_in_segments, segment_places}
pub use Rattle.fields_core.specs.Light.{bulb, bulbs_beside, is_white, light_cells, number_is}
unfoldable pub use Rattle.fields_core.specs.Light.{black_right, bulb_right, clear, joined_in_column, joined_in_row, lit_right, number_right, sees, sees_bulb}
unfoldable pub use Rattle.fields_core.specs.Light.{solves_lights, white}
pub use Rattle.fields_core.specs.LightFaults.{FailsLight, IsLightFault, light_tests}
pub use Rattle.fields_core.specs.LightHouses.{column_house, light_counts, light_house, light_kind, light_rules, lit_house, number_house, row_house}
unfoldable pub use Rattle.fields_core.specs.LightHouses.{begins_column_run, begins_row_run, column_run, light_houses, row_run, seen_from}
pub use Rattle.fields_core.specs.LightRuns.{asks, lonely}
pub use Rattle.fields_core.specs.LightPlanes.{ArePlanesOf}
pub use Rattle.fields_core.specs.LightRunLines.{AreAround, AreRunsOf, IsClash, IsRunOf, column_runs_of_column}
pub use Rattle.fields_core.specs.LightRuns.{AreWordsFilled, AreWordsWritten, IsRunAt}
pub use Rattle.fields_core.specs.LightRuns.{IsAround, IsLatest, begins_at, cells_along, line_white, run_house}
pub use Rattle.fields_core.specs.LightRuns.{RunsBack, RunsOn, SeesAlong, ShinesAlong}
pub use Rattle.fields_core.specs.LightSolutions.{AreJoined, IsFromTo, IsLightSolution, Sees, SeesBulb, light_column, light_row}
pub use Rattle.fields_core.specs.LightWaits.{AreColumnsParted, AreIdleBut, AreLightsReady, AreLightsRested, AreLightsWoken, AreParted, AreSafe}
pub use Rattle.fields_core.specs.LightWaits.{AreSafeInColumns, AreWhitesIdleBut, IsAway, IsReach, line_board, lits_of_row, run_houses, run_lines, waiting_runs}
pub use Rattle.fields_core.specs.LightWaits.{white_houses}
pub use Rattle.fields_core.specs.LightPlanes.{IsColumnRun, IsRowRun, has_number, numbers_of_row, row_runs_of_row}
unfoldable pub use Rattle.fields_core.specs.LightPlanes.{is_numbered}
pub use Rattle.fields_core.specs.LineWords.{AreRowsOf, AreSpread, IsColumnOf, IsRowIn, IsRowOf}
pub use Rattle.fields_core.specs.Parts.{ArePartsCounted, ArePieces, ArePlanesAlive, IsBroken, IsCount, IsHouseOfPieces, Piece, piece_at, pieces_of}
unfoldable pub use Rattle.fields_core.specs.Parts.{lies_in, lies_in_first, without_value}
pub use Rattle.fields_core.specs.Sweeps.{IsSweep, swept_by}
pub use Rattle.fields_core.specs.Count.{IsTally, value_stays}
pub use Rattle.fields_core.specs.TentSolutions.{FailsTents, IsTentFault, tent_tests}
pub use Rattle.fields_core.specs.TentHouses.{column_of_tents, free_beside, row_of_tents, square_house, tent_counts, tent_house, tent_kind, tent_rules, tent_span, tree_house}
unfoldable pub use Rattle.fields_core.specs.TentHouses.{is_barred, tent_houses}
pub use Rattle.fields_core.specs.TentWaits.{AreTentsWritten, IsFieldOf}
pub use Rattle.fields_core.specs.TentPairs.{AreIn, tree_beside, tree_count, trees_of}
unfoldable pub use Rattle.fields_core.specs.TentPairs.{may_pair}
pub use Rattle.fields_core.specs.TentSolutions.{IsPairedBy, IsTentSolution}
pub use Rattle.fields_core.specs.TentTrees.{squares_of_row, two_rows}
pub use Rattle.fields_core.specs.TentTouching.{HasTouching, IsTentAmong, IsWindow}
pub use Rattle.fields_core.specs.TentTrees.{AreBare, IsNear, trees_of_row}
unfoldable pub use Rattle.fields_core.specs.TentTrees.{is_beside, wants_tent}
pub use Rattle.fields_core.specs.TentWaits.{AreTentsRested, AreTentsWoken, AreVisitedOrDoomed, all_of_kind, kind_houses, kind_lines, later_kinds, waits_of}
pub use Rattle.fields_core.specs.Tents.{are_near, leaves_none_out, names_none_twice, tent, tent_cells, tree, trees_beside}
unfoldable pub use Rattle.fields_core.specs.Tents.{can_be_paired, column_right, row_right, solves_tents, touch_right, touches, tree_right}
pub use Rattle.fields_core.specs.Visits.{AreIdle, AreVisited}
unfoldable pub use Rattle.fields_core.specs.Visits.{after_visits, without_zeros}
pub use Rattle.fields_core.specs.declared.count.house.Segment.{Segment}
pub use Rattle.fields_core.specs.declared.count.name.HouseName.{HouseName}
pub use Rattle.fields_core.specs.declared.count.name.Measured.{Measured}
pub use Rattle.fields_core.specs.declared.count.tally.Tally.{Tally}
pub use Rattle.fields_core.specs.declared.light_up.fault.LightFault.{LightFault}
pub use Rattle.fields_core.specs.declared.light_up.light_house.LightHouse.{LightHouse}
pub use Rattle.fields_core.specs.declared.planes.light_up.waits.RunKind.{RunKind}
pub use Rattle.fields_core.specs.declared.planes.tents.waits.Kind.TheVariants.{Columns, Rows, Squares, Trees}
pub use Rattle.fields_core.specs.declared.planes.tents.waits.TentWaits.{TentWaits}
