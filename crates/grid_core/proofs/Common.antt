-- Words and lemmas of std and of the crates below, and words of this crate, as its proofs use them.
pub use Rattle.std.proofs.Common.{Bool, List, None, Some, [], add-one, ap, arith, bit_and, bit_or, cond, drop, eqb, false, get_or, inl, inr, length}
pub use Rattle.std.proofs.Common.{length-take, ltb, map, nat_cmp, not, refl, replicate, set, slice_index, subst, suc, sym, take, true, w32, w64, zero}
pub use Rattle.std.proofs.Common.{ℕ, ◌%◌, ◌&&◌, ◌*◌, ◌++◌, ◌+◌, ◌-◌, ◌/◌, ◌<◌, ◌==◌, ◌^◌, ◌||◌, ◌↔◌, ◌∙◌, ◌∷◌, ◌≡◌, ◌≤◌, ◌⊎◌}
pub use Rattle.std.proofs.Math.Bool.{and-true, and_comm, or-false, or_comm}
pub use Rattle.std.proofs.Math.Nat.{div-lt_iff_lt-mul, mod-lt, mul-le-mul_right, pow-succ', pow-zero}
pub use Rattle.std.proofs.Math.Path.{fun_ext}
pub use Rattle.std.proofs.Math.Seq.{get_or-append_seam, take-set-lt}
pub use Rattle.std.proofs.lemmas.Bool.{and_from, and_parts, cases_Bool, cases_eq, cases_lt, eq-eqb, eqb-false, eqb-true, false_from_ne_true}
pub use Rattle.std.proofs.lemmas.Bool.{false≢true, le-leb, le-ltb, lt-leb, lt-ltb, ltb-false, ltb-true, ne_eqb, not-true, or_cases, or_right}
pub use Rattle.std.proofs.lemmas.Bool.{true≢false}
pub use Rattle.std.proofs.lemmas.Bool.Decides.{Decides-below_and, Decides-below_or, Decides-like, Decides-ltb, same_from_decides}
pub use Rattle.std.proofs.lemmas.Cmp.{nat_eq_equiv}
pub use Rattle.std.proofs.lemmas.Grind.{common_steps, same_number_lists}
pub use Rattle.std.proofs.lemmas.List.{get_or-map, get_or-replicate, get_or-set_other, get_or-set_same, get_or-take, get_or_append_left}
pub use Rattle.std.proofs.lemmas.List.{get_or_default, get_or_past, get_or_read, length-append, length-drop, length-map, length-replicate, length-set}
pub use Rattle.std.proofs.lemmas.List.{map-set, take-append-le, take_more_set}
pub use Rattle.std.proofs.lemmas.List.Elements.{All-from_get_or, All-get_or, All-set}
pub use Rattle.std.proofs.lemmas.List.Folds.{Any-from_list_any, list_any_at}
pub use Rattle.std.proofs.lemmas.List.FromFn.{get_or-map-range_with_len, get_or-range_with_len, length-map-range_with_len, length-range_with_len}
pub use Rattle.std.proofs.lemmas.List.Kept.{AllPairs-from_increasing, IsStrictlyIncreasing-filter}
pub use Rattle.std.proofs.lemmas.List.Sorted.{All-permutation, Contains-permutation, IsNonDecreasingBy-from_sort, length_permutation}
pub use Rattle.std.proofs.lemmas.List.Sorted.{list_any-IsPermutation}
pub use Rattle.std.proofs.lemmas.List.Sums.{length-filter}
pub use Rattle.std.proofs.lemmas.Map.Made.{IsDistinct-from_AllPairs, is_member-Decides, is_member-filter, length-le_from_is_member}
pub use Rattle.std.proofs.lemmas.Nat.{div-add-mod', div-mul-add, div_below, mod-mul-add, mod_below, one_shl, ones_cat, or_lt, pow_below, pow_pos}
pub use Rattle.std.proofs.lemmas.Nat.Bits.{bit_at-lt, bit_at-pow_other, bit_at-pow_same, bit_at-suc, bit_at-trailing_zeros, bit_at-zero, bit_at_above}
pub use Rattle.std.proofs.lemmas.Nat.Bits.{bit_at_and, bit_at_cat_low, bit_at_clear_other, bit_at_clear_same, bit_at_lowest, bit_at_ones}
pub use Rattle.std.proofs.lemmas.Nat.Bits.{bit_at_ones_above, bit_at_or, bit_at_xor, same_from_bits, same_from_bits_below, shr_and_one}
pub use Rattle.std.proofs.lemmas.Option.{slice_get-get_or, slice_get_past, slice_get_within}
pub use Rattle.std.specs.Cmp.{unsigned_Decides}
pub use Rattle.std.specs.Int.{bit_at}
pub use Rattle.std.specs.List.{IsDistinct, between, list_any, range_with_len, slice_get}
pub use Rattle.std.specs.List.Sorted.{IsStrictlyIncreasing}
pub use Rattle.std.specs.Prelude.{Any, Contains, IsPermutation, IsSorted, IsTrue, Option, bit_xor, count_by, filter, vec_len}
pub use Rattle.grid_core.specs.Augmenting.{AreMatesJoined, AreOwners, AreLeftsReached, Extends, FrontierView, IsApart, IsBlocked, IsExplored, IsFree, IsFreeFor}
pub use Rattle.grid_core.specs.Augmenting.{IsMateOfLater, IsFrontierOf, MatesView, ReachesOwners, with_left}
pub use Rattle.grid_core.specs.Board.{IsBoard, IsSetsOf, Layout}
pub use Rattle.grid_core.specs.Candidates.{Candidates, IsInside, IsWithin, max_cells}
unfoldable pub use Rattle.grid_core.specs.Candidates.{all_below, all_of, any_below, better, count_below, grid_of, is_dead, is_full, least_below, only, put_back}
unfoldable pub use Rattle.grid_core.specs.Candidates.{pick, single, sum_below, total, with_set, with_value, without}
pub use Rattle.grid_core.specs.Extent.{Extent, IsExtent, max_side}
pub use Rattle.grid_core.specs.Grids.{IsGrid}
pub use Rattle.grid_core.specs.Pairings.{IsShortSet}
pub use Rattle.grid_core.specs.Planes.{AreLinesFilled, ArePlanes, AreTakings, AreTurned, AreWords, HasLine, HasLost, HasRoomForTaking, IsFresh, IsFurther, IsLineIn}
pub use Rattle.grid_core.specs.Planes.{IsTakingIn, IsThere, Layers, Taking, at_line, back_at, plane_cells, layers_of, line_len, no_taking, taking_at, with_first}
pub use Rattle.grid_core.specs.Planes.{taking_of}
unfoldable pub use Rattle.grid_core.specs.Planes.{bit_of, covers, crosses, planes_have, turned_by, without_taking}
pub use Rattle.grid_core.specs.Regions.{beside, column_places, down, left, right, row_places, up}
unfoldable pub use Rattle.grid_core.specs.Regions.{step, steps}
pub use Rattle.grid_core.specs.Words.{IsLeast, has_bit}
unfoldable pub use Rattle.grid_core.specs.Words.{differ}
pub use Rattle.grid_core.specs.declared.planes.line.Line.TheVariants.{Column, Row}
pub use mir.Val.{bool_byte}
