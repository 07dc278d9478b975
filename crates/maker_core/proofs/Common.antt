-- Words and lemmas of std and of the crates below, and words of this crate, as its proofs use them.
pub use native.Mathlib.Nat.{mul-pos}
pub use Rattle.std.proofs.Common.{Bool, List, None, Option, Some, [], add-one, ap, arith, cond, drop, eqb, false, get_or, get_or-set_other, inl, inr, length}
pub use Rattle.std.proofs.Common.{length-take, map, map-id, nat_le, not, refl, replicate, rules, set, slice_index, subst, suc, sym, take, true, zero, ℕ, ◌%◌}
pub use Rattle.std.proofs.Common.{◌&&◌, ◌*◌, ◌++◌, ◌+◌, ◌-◌, ◌/◌, ◌<◌, ◌^◌, ◌∙◌, ◌∷◌, ◌≡◌, ◌≢◌, ◌≤◌, ◌⊎◌}
pub use Rattle.std.proofs.Math.Seq.{drop-cons}
pub use Rattle.std.proofs.lemmas.Bool.{and_from, cases_eq, cond_both, eq-eqb, eqb-true, false_from_ne_true, le-ltb, lt-ltb, ltb-false, ltb-true}
pub use Rattle.std.proofs.lemmas.Bool.{or_cases, or_left, or_right, true≢false}
pub use Rattle.std.proofs.lemmas.Cmp.{nat_eq_equiv}
pub use Rattle.std.proofs.lemmas.Grind.{common_steps, elements, get_or-set_at, rows, same_number_lists}
pub use Rattle.std.proofs.lemmas.List.{append-nil, append_assoc, get_or-map, get_or-replicate, get_or_append_left, get_or_default}
pub use Rattle.std.proofs.lemmas.List.{get_or_past, get_or_read, length-append, length-map, length-replicate, length-set, length-take-le, map_more}
pub use Rattle.std.proofs.lemmas.List.{set-get_or, set-set, set_at, take_all, take_more_set}
pub use Rattle.std.proofs.lemmas.List.Elements.{All-append, All-cons, All-contains, All-from_get_or, All-from_recursion, All-get_or, All-map, All-nil}
pub use Rattle.std.proofs.lemmas.List.Elements.{All-replicate, All-set, Contains-append_right, Contains-get_or, filter-append}
pub use Rattle.std.proofs.lemmas.List.Elements.{filter_passes, recursion_from_All}
pub use Rattle.std.proofs.lemmas.List.FromFn.{fill_by_all, get_or-map-range_with_len, get_or-range_with_len, length-map-range_with_len, length-range_with_len}
pub use Rattle.std.proofs.lemmas.List.FromFn.{map-range_with_len_more}
pub use Rattle.std.proofs.lemmas.List.Sorted.{All-permutation, Contains-permutation, IsPermutation-refl, IsPermutation-swap, IsPermutation-sym}
pub use Rattle.std.proofs.lemmas.List.Sorted.{IsPermutation-trans, length_permutation}
pub use Rattle.std.proofs.lemmas.List.Sums.{count_by-le-length, get_or-le-sum_by, length-filter, sum_by-append, sum_by-cons, sum_by-le, sum_by-set}
pub use Rattle.std.proofs.lemmas.Map.Keys.{IsDistinct-IsPermutation, IsDistinct-from_apart, apart_from_distinct}
pub use Rattle.std.proofs.lemmas.Nat.{div-add-mod', div-mul-add, div_below, mod-mul-add, mod_below, mul-add-lt, mul-le, same_from_place}
pub use Rattle.std.proofs.lemmas.Result.{IfOk-weaker}
pub use Rattle.std.proofs.lemmas.Simd.{map-map}
pub use Rattle.std.specs.List.{AllByRecursion, range_with_len}
unfoldable pub use Rattle.std.specs.List.{IsDistinct}
pub use Rattle.std.specs.Prelude.{All, Contains, Err, IfSome, IsPermutation, IsTrue, Result, filter, if◌then◌else◌, is_some, nat_lt}
pub use Rattle.std.specs.Prelude.{slice_set, sum, sum_by, ◌==◌, ◌||◌, ◌↔◌}
pub use Rattle.rand.proofs.ShuffleLemmas.{last_below, rest_below, rising_more, rising_one, rising_positive}
pub use Rattle.rand.proofs.UniformLemmas.{carry_room, if_below}
pub use Rattle.rand.specs.Shuffle.{Chooser, chooser_at, chooser_next, chooser_refill, chunk_of}
unfoldable pub use Rattle.rand.specs.Shuffle.{grow, narrow_swaps, rising}
unfoldable pub use Rattle.rand.specs.Uniform.{canon}
pub use Rattle.rand_core.specs.Stream.{Stream}
unfoldable pub use Rattle.rand_core.specs.Stream.{next_u32}
pub use Rattle.grid_core.proofs.BoardLemmas.{all_below-at, all_below-from, any_below-here, any_below-none, any_below-some, count_below-few}
pub use Rattle.grid_core.proofs.BoardLemmas.{count_below-pos, is_dead-each, is_full-each}
pub use Rattle.grid_core.proofs.PairingLemmas.{distinct_filtered_range}
pub use Rattle.grid_core.proofs.GridLemmas.{grid_of-full, single-at, single-is}
pub use Rattle.grid_core.proofs.RegionLemmas.{length-line_places, place_in_row}
pub use Rattle.grid_core.specs.Candidates.{Candidates, IsInside}
unfoldable pub use Rattle.grid_core.specs.Candidates.{count_below, single}
pub use Rattle.grid_core.specs.Extent.{Extent, IsExtent}
pub use Rattle.grid_core.specs.Grids.{IsGrid, row_cells}
pub use Rattle.grid_core.specs.Lines.{lines_of}
unfoldable pub use Rattle.grid_core.specs.Lines.{line_numbers, line_places}
pub use Rattle.grid_core.specs.Regions.{beside, column_places, row_places}
unfoldable pub use Rattle.grid_core.specs.Regions.{steps}
pub use Rattle.gameid_core.proofs.LineLaws.{at_column, at_row}
pub use Rattle.gameid_core.specs.Lines.{run_of, runs}
unfoldable pub use Rattle.gameid_core.specs.Lines.{runs_after}
pub use Rattle.gameid_core.specs.Lines.{lines_ones, ones}
pub use Rattle.gameid_core.specs.Puzzles.{IsSolo, Light, Pattern, Solo, Tents, solo_n, solo_puzzle, tents_puzzle}
pub use Rattle.gameid_core.specs.declared.light_up.cell.LightCell.{LightCell}
pub use Rattle.gameid_core.specs.declared.light_up.cell.LightCell.TheVariants.{Black, Numbered, White}
pub use Rattle.engine_core.proofs.ClosingLemmas.{closure_closed, closure_inside, closure_largest}
pub use Rattle.engine_core.proofs.SearchLemmas.{outcome-true}
pub use Rattle.engine_core.proofs.WalkLemmas.{walk-unfold, walk_closed-solved}
unfoldable pub use Rattle.engine_core.specs.Closing.{closure}
pub use Rattle.engine_core.specs.Filling.{strikes_by_fillings}
pub use Rattle.engine_core.specs.FillingLaws.{shown_from_test}
unfoldable pub use Rattle.engine_core.specs.HouseSets.{sets_at, strikes_at}
pub use Rattle.engine_core.specs.HouseSetsLaws.{length-sets_at, strikes_at-place}
pub use Rattle.engine_core.specs.PlaceLaws.{has_place-here, place-filter}
pub use Rattle.engine_core.specs.RuleSystem.{FitsIn, IsClosed, IsGridOf, IsLawful, Needs, RuleSystem, needs_of}
unfoldable pub use Rattle.engine_core.specs.RuleSystem.{has_place}
pub use Rattle.engine_core.specs.Stored.{IsAnswer}
pub use Rattle.engine_core.specs.Verdict.{HasTwo, IsTrueOf, Outcome, Outcome.GaveUp, Outcome.NoSolution, Outcome.OneSolution, Outcome.SeveralSolutions}
pub use Rattle.engine_core.specs.Verdict.{Solves, verdict_of}
unfoldable pub use Rattle.engine_core.specs.Verdict.{outcome}
pub use Rattle.engine_core.specs.Walk.{Mark, Mark.Found}
unfoldable pub use Rattle.engine_core.specs.Walk.{walk}
pub use Rattle.engine_core.specs.declared.search.walk.Verdict.{Verdict}
pub use Rattle.pattern_core.specs.LineLaws.{cell_in_grid, different_places, has_runs-is, is_solution-from, is_solution-is, line_rules-lawful}
pub use Rattle.pattern_core.specs.LineRules.{line_rules}
pub use Rattle.pattern_core.specs.Lines.{clue_of}
unfoldable pub use Rattle.pattern_core.specs.Lines.{has_runs}
pub use Rattle.pattern_core.specs.Solutions.{IsPatternSolution}
pub use Rattle.solo_core.specs.Houses.{block_of, column_of, row_of, solo_cells}
pub use Rattle.solo_core.specs.Houses.{IsSoloHouse, lies_in_house}
pub use Rattle.solo_core.specs.RuleLaws.{houses_lawful}
pub use Rattle.solo_core.specs.RuleSets.{houses_rules}
unfoldable pub use Rattle.solo_core.specs.RuleSets.{start}
pub use Rattle.solo_core.specs.SolutionLaws.{rule_from_test, test_from_rule}
pub use Rattle.solo_core.specs.Solutions.{IsSoloSolution}
pub use Rattle.solo_core.specs.declared.houses.house.NamedHouse.{NamedHouse}
pub use Rattle.solo_core.specs.declared.houses.house.NamedHouse.TheVariants.{Block, Column, Diagonal, Row}
pub use Rattle.fields_core.proofs.HouseLemmas.{step-keep, step-none, step-skip}
pub use Rattle.fields_core.proofs.LightRuleLemmas.{light-lawful}
pub use Rattle.fields_core.proofs.LightHouseLaws.{lit-from, lit-parts}
pub use Rattle.fields_core.proofs.LightHouseLaws.{sees_back, white-in}
pub use Rattle.fields_core.proofs.LightRuleLemmas.{rule-from-test, test-from-rule}
pub use Rattle.fields_core.proofs.LightHouseLaws.{bulb-in}
pub use Rattle.fields_core.proofs.PlaceLists.{filter-few}
pub use Rattle.fields_core.proofs.BesideLemmas.{step-down, step-left, step-right, step-up, steps-few, steps-some}
pub use Rattle.fields_core.proofs.BesideLemmas.{beside-in}
pub use Rattle.fields_core.proofs.TentCounting.{tent-in}
pub use Rattle.fields_core.proofs.TentRuleLemmas.{solution-from-tents, tents-from-solution}
unfoldable pub use Rattle.fields_core.specs.CountHouse.{start_of}
pub use Rattle.fields_core.specs.Light.{bulb, bulbs_beside, light_cells, number_is}
unfoldable pub use Rattle.fields_core.specs.Light.{black_right, bulb_right, joined_in_column, joined_in_row, lit_right, number_right, sees, sees_bulb}
unfoldable pub use Rattle.fields_core.specs.Light.{solves_lights, white}
pub use Rattle.fields_core.specs.LightHouses.{light_rules}
pub use Rattle.fields_core.specs.LightSolutions.{IsLightSolution}
pub use Rattle.fields_core.specs.TentHouses.{tent_rules}
pub use Rattle.fields_core.specs.TentSolutions.{IsTentSolution}
pub use Rattle.fields_core.specs.Tents.{tent, tents_in_column, tents_in_row}
unfoldable pub use Rattle.fields_core.specs.Tents.{touches}
pub use Rattle.maker_core.specs.Draws.{AreAll, HasWords, IsFirst, IsFirstPassing, LeavesStream, Tries, draw_below, filling_at, shuffled_order}
unfoldable pub use Rattle.maker_core.specs.Draws.{black_cells, stream_after}
pub use Rattle.maker_core.specs.SoloFilling.{flipped_from, line_from}
unfoldable pub use Rattle.maker_core.specs.SoloFilling.{flipped}
pub use Rattle.maker_core.specs.LightMaking.{light_game}
pub use Rattle.maker_core.specs.LightCluesLaws.{light_is_game, lights_by_fewer, numbered_is}
pub use Rattle.maker_core.specs.LightMaking.{IsLit, numbered_cell, with_bulb}
unfoldable pub use Rattle.maker_core.specs.LightMaking.{bulbs_after, light_filling, light_puzzle_of, lights_of, white_places, with_numbers}
pub use Rattle.maker_core.specs.Made.{HasOne, IsOnlySolution, TellsOne, has_one, is_one}
pub use Rattle.maker_core.specs.PatternMaking.{clued_by}
pub use Rattle.maker_core.specs.SoloMaking.{solo_game}
pub use Rattle.maker_core.specs.SoloCluesLaws.{clue_is, house_stays, is_clue, lies_alike, solo_is_game, solved_by_fewer}
pub use Rattle.maker_core.specs.SoloFilling.{all_given, first_number, group_added, old_number}
unfoldable pub use Rattle.maker_core.specs.SoloFilling.{lines_of_groups, rearranged}
pub use Rattle.maker_core.specs.SoloMaking.{IsSoloSize, solo_passes, solo_tries}
pub use Rattle.maker_core.specs.SoloFilling.{AreOrders, IsLineOrder, IsOrder}
pub use Rattle.maker_core.specs.SoloFilling.{first_grid, flipped_by_draw, top_row_given, x_filling}
unfoldable pub use Rattle.maker_core.specs.TentMaking.{free_cells_beside, is_free, may_have_tent, no_tents, place_tent, take_cell, tent_filling, tents_after}
unfoldable pub use Rattle.maker_core.specs.TentMaking.{tents_puzzle_of}
pub use Rattle.maker_core.specs.TentSteps.{IsTentPlaced, IsTentTaken}
pub use Rattle.maker_core.specs.Thinning.{AreReasons, CluedGame, IsGame, IsOnly, IsReason, IsThinnedFrom, LeavesNoIdleClue, clue_places, has_clue}
pub use Rattle.maker_core.specs.Thinning.{stream_after_clues}
pub use Rattle.maker_core.specs.ThinningSteps.{IsAsked, IsLeft, IsThinning, IsTold, IsVerdict}
unfoldable pub use Rattle.maker_core.specs.ThinningSteps.{reasons_from}
pub use Rattle.maker_core.specs.declared.light_up.filling.LightFilling.{LightFilling}
pub use Rattle.maker_core.specs.declared.made.Kept.{Kept}
pub use Rattle.maker_core.specs.declared.made.Why.{Why}
pub use Rattle.maker_core.specs.declared.made.Why.TheVariants.{Budget, Needed}
pub use Rattle.maker_core.specs.declared.tents.filling.TentFilling.{TentFilling}
