-- Words of the crates below, and some of std, as the definitions and the code of this crate use them. Declares nothing.
pub use Rattle.std.specs.Global.{Vec}
pub use Rattle.std.specs.List.{AllByRecursion, concat, count_by, list_any, range_with_len}
pub use Rattle.grid_core.specs.Candidates.{Candidates, IsInside, IsWithin, max_cells}
unfoldable pub use Rattle.grid_core.specs.Candidates.{all_below, all_of, any_below, count_below, single}
pub use Rattle.grid_core.specs.Extent.{Extent}
pub use Rattle.grid_core.specs.Grids.{IsGrid}
pub use Rattle.grid_core.specs.Planes.{AreLinesOf, IsFurther, Layers, at_line, plane_cells, line_len, lines_beside, number_of}
unfoldable pub use Rattle.grid_core.specs.Planes.{crosses, planes_have}
pub use Rattle.grid_core.specs.Regions.{beside, column_places, row_places}
pub use Rattle.grid_core.specs.Words.{has_bit}
pub use Rattle.grid_core.specs.declared.planes.line.Line.{Line}
pub use Rattle.grid_core.specs.declared.planes.line.Line.TheVariants.{Row}
pub use Rattle.grid_core.specs.declared.planes.touched_lines.Touched.{Touched}
pub use Rattle.gameid_core.specs.FirstFailed.{IsAnswerOfCheck, tests_of}
pub use Rattle.gameid_core.specs.Puzzles.{IsLight, IsTents, Light, Tents}
pub use Rattle.gameid_core.specs.declared.light_up.cell.LightCell.{LightCell}
pub use Rattle.gameid_core.specs.declared.light_up.cell.LightCell.TheVariants.{Black, Numbered, White}
pub use Rattle.engine_core.specs.ClosingList.{IsAlive, IsDead}
pub use Rattle.engine_core.specs.Filling.{Set, strikes_by_fillings}
unfoldable pub use Rattle.engine_core.specs.Filling.{some_filling}
pub use Rattle.engine_core.specs.HouseSets.{AreBelow, AreDifferent, Decision}
unfoldable pub use Rattle.engine_core.specs.HouseSets.{strikes_at}
pub use Rattle.engine_core.specs.RuleSystem.{FitsIn, IsGridOf, IsLawful, Needs, RuleSystem, needs_of}
unfoldable pub use Rattle.engine_core.specs.RuleSystem.{after, has_place, longest}
