-- Words of the crates below, and some of std, as the definitions and the code of this crate use them. Declares nothing.
pub use Rattle.std.proofs.Common.{arith, inl, inr}
pub use Rattle.std.proofs.lemmas.Bool.{and_from, and_left, and_parts, cases_Bool, cases_lt, eq-eqb, eqb-true, false_from_ne_true, false≢true, ne_eqb}
pub use Rattle.std.proofs.lemmas.Bool.{not-true, or_cases, or_left, or_right, true_from_ne_false, true≢false}
pub use Rattle.std.proofs.lemmas.Grind.{common_steps}
pub use Rattle.std.proofs.lemmas.List.{ext_get_or, get_or-append-add, get_or-map, get_or_append_left, length-map, places, same_lists}
pub use Rattle.std.proofs.lemmas.List.FromFn.{get_or-map-range_with_len, get_or-range_with_len, length-map-range_with_len, length-range_with_len}
pub use Rattle.std.proofs.lemmas.List.Sums.{sum_by-cons}
pub use Rattle.std.specs.List.{AllByRecursion, filter, list_all, list_any, range_with_len}
pub use Rattle.std.specs.Prelude.{All, sum_by}
pub use Rattle.grid_core.specs.Board.{Layout, SameShape, cells_of}
unfoldable pub use Rattle.grid_core.specs.Board.{has}
pub use Rattle.grid_core.specs.Candidates.{Candidates, IsInside, IsWithin, max_cells, max_values}
unfoldable pub use Rattle.grid_core.specs.Candidates.{any_below, count_below, grid_of, is_dead, is_full, put_back, single, sum_below, total, with_set}
pub use Rattle.grid_core.specs.Extent.{Extent}
pub use Rattle.grid_core.specs.Grids.{IsGrid}
