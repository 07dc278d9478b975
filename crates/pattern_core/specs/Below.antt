-- Words of the crates below, and some of std, as the definitions and the code of this crate use them. Declares nothing.
pub use Rattle.std.specs.Cmp.Lexicographic.{other_text, pointwise, same_text}
pub use Rattle.std.specs.Int.{from_bool}
pub use Rattle.std.specs.List.{AllByRecursion, range_with_len}
unfoldable pub use Rattle.grid_core.specs.Candidates.{all_below, all_of, count_below, sum_below}
pub use Rattle.grid_core.specs.Extent.{Extent, IsExtent, max_side}
pub use Rattle.grid_core.specs.Grids.{IsGrid, column_cells, row_cells}
pub use Rattle.grid_core.specs.Lines.{lines_of}
unfoldable pub use Rattle.grid_core.specs.Lines.{line_numbers, line_places}
pub use Rattle.grid_core.specs.Planes.{IsFurther, Layers, lines_beside, number_of}
unfoldable pub use Rattle.grid_core.specs.Planes.{planes_have}
pub use Rattle.grid_core.specs.Words.{has_bit}
pub use Rattle.gameid_core.specs.Lines.{runs}
pub use Rattle.gameid_core.specs.Puzzles.{IsPattern, Pattern, used}
pub use Rattle.engine_core.specs.ClosingList.{IsAlive, IsDead}
pub use Rattle.engine_core.specs.Filling.{Set, strikes_by_fillings}
unfoldable pub use Rattle.engine_core.specs.Filling.{some_filling}
pub use Rattle.engine_core.specs.HouseSets.{AreDifferent, IsDecided}
unfoldable pub use Rattle.engine_core.specs.HouseSets.{strikes_at}
pub use Rattle.engine_core.specs.Position.{IsClosedBut, IsTaken}
pub use Rattle.engine_core.specs.RuleSystem.{IsBoardOf, IsIdle, IsLawful, RuleSystem}
unfoldable pub use Rattle.engine_core.specs.RuleSystem.{after, has_place, share}
unfoldable pub use Rattle.engine_core.specs.Sets.{set_of_bits}
