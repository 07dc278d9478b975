-- Words and lemmas of std and of the crates below, and words of this crate, as its proofs use them.
pub use Rattle.std.proofs.Common.{All, Bool, List, MatchOption, None, Option, Some, [], add-one, add-zero, ap, append-nil, append_assoc, arith, bit_and}
pub use Rattle.std.proofs.Common.{bit_or, cond, eqb, false, get_or, if◌then◌else◌, inl, inr, is_some, leb, length, length-append, length-take, ltb, map}
pub use Rattle.std.proofs.Common.{mul-le-mul_right, nat_le, nat_lt, not, refl, replicate, rules, slice_index, slice_set, subst, suc, sym, take, tests, true}
pub use Rattle.std.proofs.Common.{true≢false, w32, zero, ℕ, ◌%◌, ◌&&◌, ◌*◌, ◌++◌, ◌+◌, ◌-◌, ◌/◌, ◌<◌, ◌^◌, ◌||◌, ◌∙◌, ◌∷◌, ◌≡◌, ◌≤◌, ◌⊎◌}
pub use Rattle.std.proofs.Math.Bool.{and-false, or-false}
pub use Rattle.std.proofs.Math.ListN.{set}
pub use Rattle.std.proofs.Math.Seq.{take-length}
pub use Rattle.std.proofs.lemmas.Grind.{common_steps}
pub use Rattle.std.proofs.lemmas.List.{ext_get_or, get_or-replicate, get_or-take, get_or_append_left, get_or_push}
pub use Rattle.std.proofs.lemmas.Nat.{and_le_r, or_lt}
pub use Rattle.std.proofs.lemmas.Simd.{map-map}
pub use Rattle.std.specs.Int.{bit_at, bit_not, trailing_zeros}
pub use Rattle.grid_core.proofs.RegionLemmas.{block-within, column-at, row-at}
pub use Rattle.grid_core.proofs.PairingLemmas.{contains_from_member, no_choice}
pub use Rattle.engine_core.specs.FillingLaws.{shown_from_test, test_from_shown}
pub use Rattle.engine_core.specs.HouseList.{FitsPlaces, Listed}
pub use Rattle.engine_core.specs.HouseSetsLaws.{by_fillings-met, kept-decided, length-sets_at, sets_at-small, strikes_at-here, strikes_at-some}
pub use Rattle.engine_core.specs.HouseList.{all_places}
pub use Rattle.solo_core.specs.BoundLaws.{bound_is, count_plain, count_x, crossings_rules-bound, house_count}
pub use Rattle.solo_core.specs.Common.{AreDifferent, Block, Candidates, Column, Decision, Diagonal, FoldsTo, House, IsDecided, IsGrid, IsSoloHouse, IsShownBy}
pub use Rattle.solo_core.specs.Common.{IsSolo, IsSoloSolution, IsSound, MatchBool-at_false, MatchBool-at_true, NamedHouse, Row, Set, Solo, all_below-from}
pub use Rattle.solo_core.specs.Common.{and_cases, and_from, and_parts, and_right, any_below-here, any_below-same, any_below-some, both-bits, cases_Bool}
pub use Rattle.solo_core.specs.Common.{cases_eq, cases_lt, different-filter, div-add-mod', div-mul-add, either-bits, eq-eqb, eqb-true, false_from_ne_true}
pub use Rattle.solo_core.specs.Common.{filter, filter-append, filter_of_map_range_with_len_more, fun_ext, get_or-append_right, get_or-map}
pub use Rattle.solo_core.specs.Common.{get_or-map-range_with_len, get_or-range_with_len, get_or-set_at, get_or-set_other, get_or_append_left, get_or_default}
pub use Rattle.solo_core.specs.Common.{get_or_past, given_stands, has_bit, has_in, has_place, has_place-at, has_place-here, has_value, house_of, house_places}
pub use Rattle.solo_core.specs.Common.{houses_of, is_struck, length-map, length-map-range_with_len, length-range_with_len, length-set, lies_in_house, list_any}
pub use Rattle.solo_core.specs.Common.{lt-ltb, map-append, map-id, map-range_with_len_more, mod-mul-add, mod_below, mul-add-lt, mul-le, nat_tests, ne_eqb}
pub use Rattle.solo_core.specs.Common.{no_house, not-false, not-true, not_from_false, numbers_of, one_shl, or_cases, or_left, or_parts, or_right}
pub use Rattle.solo_core.specs.Common.{place-filter, place-kept, places_of, pow_pos, power-bits, range_with_len, sets_at, solo_cells, solo_n, strikes_at}
pub use Rattle.solo_core.specs.Common.{strikes_by_fillings, take_more, true_from_ne_false, zero-bits}
unfoldable pub use Rattle.solo_core.specs.Common.{all_of, any_below, is_solo_solution, no_repeat, only, set_of_bits}
pub use Rattle.solo_core.specs.Faults.{FailsSolo, IsSoloFault, Repeats, fault_of, given_tests, house_tests}
pub use Rattle.solo_core.specs.HouseLaws.{all_houses, column_in, each_house, listed-different, listed-has, listed-same, listed-within, lists_house, row_in}
pub use Rattle.solo_core.specs.HouseLaws.{some_numbers}
pub use Rattle.solo_core.specs.SolutionLaws.{different_from_no_repeat, no_repeat_from_different, none_missed, own_from_no_repeat}
pub use Rattle.solo_core.specs.PeeledHouses.{AreAllCounts, AreAlone, AreLone, AreSettledCells, AreValueCounts, AreWhole, IsAlone, IsDropped, IsOutside, IsPaired}
pub use Rattle.solo_core.specs.PeeledHouses.{IsPassedCell, IsPeeled, IsRest, IsShortRest, IsSingleSet, KeepsFillings, KeepsOthers, KeepsParts, LeadByMates, PairsCells}
pub use Rattle.solo_core.specs.PeeledHouses.{AreCellsOf, AreMetOutside, AreSettledBut, meets}
pub use Rattle.solo_core.specs.QuickPairings.{PairsOneMore, IsBegun}
pub use Rattle.solo_core.specs.RuleLaws.{crossings_lawful, crossings_sound, fillings_sound, houses_lawful, singles_lawful, singles_sound}
pub use Rattle.solo_core.specs.RuleSets.{crossing_of, crossings_of, deciding, filled_houses, visited_house, house_by, houses_rules, solo_rules_of, setting_of}
pub use Rattle.solo_core.specs.RuleSets.{single_houses, singles_rules}
unfoldable pub use Rattle.solo_core.specs.RuleSets.{start}
pub use Rattle.solo_core.specs.Scopes.{IsCrossingAt, crossing_scopes, scopes_of}
pub use Rattle.solo_core.specs.Singles.{Has, has_at, is_broken, needed_for_other, stays_in, strikes_by_singles, taken_elsewhere}
unfoldable pub use Rattle.solo_core.specs.Singles.{strikes_where}
pub use Rattle.solo_core.specs.SolutionLaws.{differ_in, given_from_test, rule_from_test, test_from_rule}
pub use Rattle.solo_core.specs.Ways.{AreParts, AreTied, AreWholeParts, ComesAfter, ComesBefore, GoesTo, IsPart, IsSpreadAfter, IsSpreadBefore, IsWritten, LiesOnRounds}
pub use Rattle.solo_core.specs.Ways.{StaysBefore}
unfoldable pub use Rattle.solo_core.specs.Ways.{IsWay}
pub use Rattle.solo_core.specs.declared.fault.SoloFault.TheVariants.{Given}
