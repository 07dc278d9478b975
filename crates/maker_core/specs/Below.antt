-- Words of the crates below, and some of std, as the definitions and the code of this crate use them. Declares nothing.
pub use Rattle.std.proofs.Math.Nat.{le_refl, max-le}
pub use Rattle.std.proofs.lemmas.Bool.{and_from, and_parts, cases_eq, cases_lt}
pub use Rattle.std.proofs.lemmas.Grind.{common_steps}
pub use Rattle.std.proofs.lemmas.List.{get_or-set_other, get_or-set_same, get_or_past, length-append, length-map, length-set}
pub use Rattle.std.specs.List.{IsDistinct, range_with_len}
pub use Rattle.std.specs.Prelude.{filter, slice_index, slice_index_or, slice_set}
pub use Rattle.rand_core.specs.Stream.{Call, Stream}
unfoldable pub use Rattle.rand_core.specs.Stream.{next_u32}
pub use Rattle.grid_core.proofs.BoardLemmas.{all_below-at, all_below-from}
pub use Rattle.grid_core.specs.Extent.{Extent, IsExtent}
pub use Rattle.grid_core.specs.Grids.{IsGrid}
pub use Rattle.grid_core.specs.Regions.{beside}
pub use Rattle.gameid_core.specs.Head.{max_numbers}
pub use Rattle.gameid_core.specs.Lines.{lines_ones, lines_runs}
pub use Rattle.gameid_core.specs.Puzzles.{IsWide, Light, Pattern, Solo, Tents, solo_puzzle}
pub use Rattle.gameid_core.specs.declared.light_up.cell.LightCell.{LightCell}
pub use Rattle.gameid_core.specs.declared.light_up.cell.LightCell.TheVariants.{Black, Numbered, White}
pub use Rattle.engine_core.specs.RuleSystem.{FitsIn, RuleSystem, needs_of}
unfoldable pub use Rattle.engine_core.specs.RuleSystem.{has_place, longest}
pub use Rattle.engine_core.specs.Verdict.{HasTwo, IsTrueOf, Outcome, Outcome.GaveUp, Outcome.NoSolution, Outcome.OneSolution, Outcome.SeveralSolutions}
pub use Rattle.engine_core.specs.Verdict.{Solves, verdict_of}
pub use Rattle.pattern_core.specs.LineRules.{line_rules}
pub use Rattle.pattern_core.specs.Solutions.{IsPatternSolution}
pub use Rattle.solo_core.specs.RuleSets.{houses_rules}
pub use Rattle.solo_core.specs.Solutions.{IsSoloSolution}
unfoldable pub use Rattle.solo_core.specs.Solutions.{is_solo_solution}
pub use Rattle.fields_core.specs.Light.{bulb, bulbs_beside, is_white, light_cells, number_is}
unfoldable pub use Rattle.fields_core.specs.Light.{black_right, bulb_right, joined_in_column, joined_in_row, lit_right, number_right, sees, sees_bulb}
unfoldable pub use Rattle.fields_core.specs.Light.{solves_lights, white}
pub use Rattle.fields_core.specs.LightSolutions.{IsLightSolution}
pub use Rattle.fields_core.specs.LightHouses.{column_house, light_rules, lit_house, number_house, numbered, row_house}
unfoldable pub use Rattle.fields_core.specs.LightHouses.{begins_column_run, begins_row_run, column_run, light_houses, row_run, seen_from}
pub use Rattle.fields_core.specs.TentHouses.{tent_rules}
pub use Rattle.fields_core.specs.TentSolutions.{IsTentSolution}
