-- Words and lemmas of std and of the crates below, and words of this crate, as its proofs use them.
pub use Rattle.std.proofs.Common.{Bool, List, None, Option, Some, [], add-one, ap, append-nil, append_assoc, ap₂, arith, cond, drop, eqb, false}
pub use Rattle.std.proofs.Common.{get_or, inl, inr, leb, length, ltb, map, not, refl, replicate, set, slice_index, subst, suc, sym, take, true, zero, ℕ, ◌%◌}
pub use Rattle.std.proofs.Common.{◌&&◌, ◌*◌, ◌++◌, ◌+◌, ◌-◌, ◌/◌, ◌<◌, ◌||◌, ◌∙◌, ◌∷◌, ◌≡◌, ◌≤◌, ◌⊎◌}
pub use Rattle.std.proofs.Math.Bool.{and-false, and-or_distrib_right, and-true, and_assoc, or-false, or-true}
pub use Rattle.std.proofs.Math.Nat.{mod-lt, mul-le-mul_right}
pub use Rattle.std.proofs.Math.Path.{fun_ext}
pub use Rattle.std.proofs.lemmas.Bool.{and_from, and_parts, and_right, cases_Bool, cases_eq, cases_lt, eq-eqb, eqb-true, false_from_ne_true}
pub use Rattle.std.proofs.lemmas.Bool.{false≢true, le-leb, le-ltb, lt-leb, lt-ltb, ltb-true, ne_eqb, not-false, not-true, or_cases, or_left, or_parts}
pub use Rattle.std.proofs.lemmas.Bool.{or_right, true≢false}
pub use Rattle.std.proofs.lemmas.Grind.{common_steps, elements}
pub use Rattle.std.proofs.lemmas.List.{drop-drop, drop_all, drop_more, get_or-append_right, get_or-drop, get_or-map, get_or-replicate, get_or-set_other}
pub use Rattle.std.proofs.lemmas.List.{get_or-set_same, get_or_append_left, get_or_past, length-append, length-drop, length-map, length-replicate, length-set}
pub use Rattle.std.proofs.lemmas.List.{replicate-append-replicate}
pub use Rattle.std.proofs.lemmas.Nat.{div-add-mod', div-mul-add, div_below, mod-mul-add, mod_below}
pub use Rattle.std.specs.Int.{from_bool}
pub use Rattle.std.specs.List.{AllByRecursion}
pub use Rattle.grid_core.proofs.BoardLemmas.{all_below-from, any_below-here, any_below-none, any_below-same, any_below-some, count_below-none}
pub use Rattle.grid_core.proofs.BoardLemmas.{count_below-pos, count_below-same, is_dead-each, is_dead-here, is_dead-not, within_inside}
pub use Rattle.grid_core.proofs.RegionLemmas.{length-line_numbers, length-line_places, line_laws, line_numbers-places, line_short, place_in_column}
pub use Rattle.grid_core.proofs.RegionLemmas.{place_in_row}
pub use Rattle.grid_core.proofs.PlaneLemmas.{further-more, further-none, has-within, place-in}
pub use Rattle.grid_core.specs.Board.{Layout}
pub use Rattle.grid_core.specs.Candidates.{Candidates, IsWithin}
unfoldable pub use Rattle.grid_core.specs.Candidates.{all_of, any_below, count_below}
pub use Rattle.grid_core.specs.Extent.{Extent, IsExtent}
pub use Rattle.grid_core.specs.Lines.{line_cells, lines_of}
unfoldable pub use Rattle.grid_core.specs.Lines.{line_numbers, line_places}
pub use Rattle.grid_core.specs.Planes.{ArePlanes, Layers, Taking, at_line, line_len, lines_beside, number_of}
pub use Rattle.grid_core.specs.declared.planes.line.Line.{Line}
pub use Rattle.grid_core.specs.declared.planes.line.Line.TheVariants.{Column, Row}
pub use Rattle.gameid_core.specs.Lines.{runs}
unfoldable pub use Rattle.gameid_core.specs.Lines.{runs_after}
pub use Rattle.gameid_core.specs.Puzzles.{AreClues, IsClue, IsPattern, Pattern, used}
pub use Rattle.engine_core.proofs.ListLemmas.{IsRunning, closing-dead, closing-open, room, running-alive, running-first, running-turn}
pub use Rattle.engine_core.proofs.QueueLemmas.{alive_but, rested_around}
pub use Rattle.engine_core.specs.ClosingList.{IsAlive, IsClosing, IsDead}
pub use Rattle.engine_core.specs.Filling.{Set, has_value, strikes_by_fillings}
unfoldable pub use Rattle.engine_core.specs.Filling.{some_filling}
pub use Rattle.engine_core.specs.FillingLaws.{filling_from_test, test_from_filling, test_from_shown}
pub use Rattle.engine_core.specs.HouseSets.{Decision, IsDecided}
unfoldable pub use Rattle.engine_core.specs.HouseSets.{kept_in, sets_at, strikes_at}
pub use Rattle.engine_core.specs.HouseSetsLaws.{bits-of_values, by_fillings-met, kept-decided, length-sets_at, sets-bits, sets_at-value}
pub use Rattle.engine_core.specs.HouseSetsLaws.{strikes_at-some, visited-after}
pub use Rattle.engine_core.specs.PlaceLaws.{has_place-at, has_place-here}
pub use Rattle.engine_core.specs.Position.{IsClosedBut}
pub use Rattle.engine_core.specs.Queue.{IsWoken, calls}
unfoldable pub use Rattle.engine_core.specs.Queue.{but, counts_of, woken}
pub use Rattle.engine_core.specs.RuleSystem.{FitsIn, IsBoardOf, IsClosedGrid, IsIdle, IsLawful, IsNext, Needs, RuleSystem, needs_of}
unfoldable pub use Rattle.engine_core.specs.RuleSystem.{after, has_place}
pub use Rattle.engine_core.specs.Sets.{IsBitsOf, has_bit}
unfoldable pub use Rattle.engine_core.specs.Sets.{set_of_bits}
pub use Rattle.pattern_core.specs.LineRules.{numbers_in}
pub use Rattle.pattern_core.specs.LineLaws.{column_has, different_places, has_runs-from, has_runs-is, in_grid, is_solution-from, is_solution-is}
pub use Rattle.pattern_core.specs.LineLaws.{is_solution-line, line_of_solution, line_rules-alive, line_rules-lawful, lines_with, row_has, solution_from_lines}
pub use Rattle.pattern_core.specs.LinePlanes.{AreLinesRested, AreLinesWithin, HasLineRoom, IsStart, crossed_by, line_house}
pub use Rattle.pattern_core.specs.LinePlanes.{is_marked, is_same, line_of, set_at, sets_by}
unfoldable pub use Rattle.pattern_core.specs.LinePlanes.{has_lost, waiting}
pub use Rattle.pattern_core.specs.LineRules.{line_rules}
pub use Rattle.pattern_core.specs.Lines.{ArePositive, HasClue, IsDecidedBy, IsRoomy, clue_of}
unfoldable pub use Rattle.pattern_core.specs.Lines.{has_runs}
pub use Rattle.pattern_core.specs.Track.{AreRows, AreRowsKept, IsBelow, IsSpelling, IsTrack, Spells, Track, along, set_for, sets_of, set_with, slots_of}
unfoldable pub use Rattle.pattern_core.specs.Track.{ahead, any_cells, cell_is, cells_from, clue_along, goes_on, leads, led, may_stay, one_on, some_leads}
unfoldable pub use Rattle.pattern_core.specs.Track.{spelled, can_stay, track_of}
pub use Rattle.pattern_core.specs.declared.planes.waits.LinesWaiting.{LinesWaiting}
