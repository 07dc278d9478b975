-- Words of std, of the crates below and of this crate, as its definitions, code and proofs use them. Declares nothing.
pub use Rattle.std.specs.List.{FoldsTo, filter, list_all, list_any, range_with_len}
pub use Rattle.std.proofs.lemmas.Bool.{MatchBool-at_false, MatchBool-at_true, and_cases, and_from, and_parts, and_right, cases_Bool, cases_eq, cases_lt}
pub use Rattle.std.proofs.lemmas.Bool.{cases_order, eq-eqb, eqb-true, false_from_ne_true, le-leb, le-ltb, leb-true, lt-ltb, ltb-true, ne_eqb, not-false}
pub use Rattle.std.proofs.lemmas.Bool.{not-true, not_from_false, or_cases, or_left, or_parts, or_right, true_from_ne_false, true≢false}
pub use Rattle.std.proofs.lemmas.Bool.Decides.{nat_tests}
pub use Rattle.std.proofs.lemmas.Nat.{div-add-mod', div-mul-add, div_below, mod-mul-add, mod_below, mul-add-lt, mul-le, one_shl, pow_pos}
pub use Rattle.std.proofs.lemmas.List.{append-nil, get_or-append_right, get_or-map, get_or-set_other, get_or_append_left, get_or_default, get_or_past}
pub use Rattle.std.proofs.lemmas.List.{length-map, length-set, map-append, map-id, take_more}
pub use Rattle.std.proofs.lemmas.List.FromFn.{filter_of_map_range_with_len_more, get_or-map-range_with_len, get_or-range_with_len, length-map-range_with_len}
pub use Rattle.std.proofs.lemmas.List.FromFn.{length-range_with_len, map-range_with_len_more}
pub use Rattle.std.proofs.lemmas.List.Elements.{All-append, All-cons, All-map, All-nil, filter-append}
pub use Rattle.std.proofs.lemmas.Grind.{get_or-set_at}
pub use Rattle.std.proofs.Math.Path.{fun_ext}
pub use Rattle.grid_core.specs.Candidates.{Candidates, IsInside, IsWithin, all_below, single}
unfoldable pub use Rattle.grid_core.specs.Candidates.{all_of, any_below, count_below, only}
pub use Rattle.grid_core.specs.Grids.{IsGrid}
pub use Rattle.grid_core.specs.Pairings.{IsPairing, IsShortSet}
pub use Rattle.grid_core.proofs.BoardLemmas.{all_below-at, all_below-from, any_below-here, any_below-none, any_below-same, any_below-some, count_below-one}
pub use Rattle.grid_core.proofs.BoardLemmas.{count_below-same}
pub use Rattle.gameid_core.specs.Puzzles.{IsSolo, Solo, solo_n}
pub use Rattle.engine_core.specs.Sets.{IsBitsOf, has_bit}
unfoldable pub use Rattle.engine_core.specs.Sets.{set_of_bits}
pub use Rattle.engine_core.specs.HouseSets.{AreDifferent, Decision, IsDecided, IsMonotone, kept_in, sets_at, strikes_at}
pub use Rattle.engine_core.specs.HouseRules.{House, IsSetting, IsSettled, IsSound, Keeps, Setting, by_houses, house_of, no_house, visits_of}
pub use Rattle.engine_core.specs.Filling.{IsShownBy, Set, has_value, strikes_by_fillings}
pub use Rattle.engine_core.specs.RuleSystem.{IsBoardOf, IsLawful, IsNext, Needs, RuleSystem, after, has_place}
pub use Rattle.engine_core.specs.PlaceLaws.{different-filter, different-from, distinct-append, distinct-from, has_place-at, has_place-here, place-filter}
pub use Rattle.engine_core.specs.PlaceLaws.{place-kept}
pub use Rattle.grid_core.proofs.WordLemmas.{both-bits, either-bits, power-bits, zero-bits}
pub use Rattle.solo_core.specs.declared.houses.house.NamedHouse.{NamedHouse}
pub use Rattle.solo_core.specs.declared.houses.house.NamedHouse.TheVariants.{Block, Column, Diagonal, Row}
pub use Rattle.solo_core.specs.Houses.{block_of, solo_cells}
pub use Rattle.solo_core.specs.Houses.{IsSoloHouse, house_places, houses_of, lies_in_house, places_of}
unfoldable pub use Rattle.solo_core.specs.Houses.{no_repeat}
pub use Rattle.solo_core.specs.Bits.{IsFirstSet, IsSmallBit, NoneIsSet, has_in, is_struck}
pub use Rattle.solo_core.specs.Solutions.{IsSoloSolution, given_stands, numbers_of}
unfoldable pub use Rattle.solo_core.specs.Solutions.{is_solo_solution}
