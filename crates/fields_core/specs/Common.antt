-- Words of std, of the crates below and of this crate, as its code uses them. Declares nothing.
pub use Rattle.std.proofs.Common.{subst, sym}
pub use Rattle.std.specs.List.{range_with_len}
pub use Rattle.grid_core.specs.Board.{SameShape}
pub use Rattle.grid_core.specs.Candidates.{Candidates}
unfoldable pub use Rattle.grid_core.specs.Candidates.{any_below, count_below}
pub use Rattle.grid_core.specs.Extent.{Extent, IsExtent}
pub use Rattle.grid_core.specs.Grids.{IsGrid}
pub use Rattle.grid_core.specs.Planes.{IsFurther, Layers, line_len, lines_beside, number_of}
unfoldable pub use Rattle.grid_core.specs.Planes.{planes_have}
pub use Rattle.grid_core.specs.Regions.{beside, column_places, row_places}
pub use Rattle.grid_core.specs.Words.{has_bit}
pub use Rattle.gameid_core.specs.Puzzles.{IsLight, IsTents, Light, Tents}
pub use Rattle.gameid_core.specs.declared.light_up.cell.LightCell.TheVariants.{Black}
pub use Rattle.engine_core.specs.Closing.{HasStruck}
pub use Rattle.engine_core.specs.Counts.{IsClosedIn}
pub use Rattle.engine_core.specs.Needs.{needs_in}
pub use Rattle.engine_core.specs.Position.{IsClosedBut, IsTaken}
pub use Rattle.engine_core.specs.RuleSystem.{FitsIn, IsGridOf, IsLawful, IsNext, Needs, needs_of}
unfoldable pub use Rattle.engine_core.specs.RuleSystem.{has_place, longest}
pub use Rattle.engine_core.specs.HouseSets.{AreBelow}
pub use Rattle.engine_core.specs.Keeping.{StillServes}
pub use Rattle.engine_core.specs.declared.mode.Mode.TheVariants.{Sweep}
pub use Rattle.engine_core.specs.PlaneNotes.{AreKept, HasBoard, IsSuited}
pub use Rattle.fields_core.specs.CountHouse.{AcceptsJust, AreMet, CountHouse, CountPuzzle, IsCounted, IsFlagged, IsHouse, count_house_of, exactly, one_at_least}
pub use Rattle.fields_core.specs.CountHouse.{one_at_most, rules_of}
unfoldable pub use Rattle.fields_core.specs.CountHouse.{after_house, houses_below}
pub use Rattle.fields_core.specs.CountLaws.{count-lawful}
pub use Rattle.fields_core.specs.Houses.{AddsHouses, AreNamed, ArePassing, CountsPassing, IsCountIf, IsMeasured, TestsBelow, house_told, houses_of_kinds, places_in_segments, segment_places}
pub use Rattle.fields_core.specs.Light.{bulb, bulbs_beside, light_cells}
unfoldable pub use Rattle.fields_core.specs.Light.{number_right, sees_bulb, white}
pub use Rattle.fields_core.specs.LightFaults.{IsLightFault}
pub use Rattle.fields_core.specs.LightHouses.{column_house, light_house_at, houses_in_grid, houses_in_rows, light_counts, light_house, light_kind, light_rules, lit_house, number_house}
pub use Rattle.fields_core.specs.LightHouses.{row_house}
unfoldable pub use Rattle.fields_core.specs.LightHouses.{light_houses}
pub use Rattle.fields_core.specs.LightRuns.{asks, lonely}
pub use Rattle.fields_core.specs.LightPlanes.{AreLightsWritten, ArePlanesOf, AreRowTables, AreTables, HasTables}
pub use Rattle.fields_core.specs.LightRunLines.{AreAround, AreAroundAlong, AreRunsOf, AreRunsVisited, IsClash, ReachesAlong, ReachesMarked, word_along}
pub use Rattle.fields_core.specs.LightRuns.{AreWordsFilled, AreRunsWritten, AreWordsWritten, IsFilledIn}
pub use Rattle.fields_core.specs.LightRuns.{IsAround, IsLatest, IsLine, house_along, cells_along, whites_of}
pub use Rattle.fields_core.specs.LightRuns.{RunsOn, ShinesAlong, ShinesInLine}
pub use Rattle.fields_core.specs.LightSolutions.{IsLightSolution}
pub use Rattle.fields_core.specs.LightWaits.{AreAlwaysRested, AreColumnsPartedFrom, AreIdleBut, AreLightsReady, AreLightsRested, AreLightsWoken, AreLightsWokenSince, AreNumbersSettled, AreRunLines, AreSafe, AreSafeInColumns, AreThoseMet}
pub use Rattle.fields_core.specs.LightWaits.{AreLightsSettled, AreWhitesIdleBut, all_runs, line_board, lits_of_row, meets_line, run_houses, run_lines, waiting_runs}
pub use Rattle.fields_core.specs.LightWaits.{white_houses}
pub use Rattle.fields_core.specs.LightPlanes.{numbers_of_row}
unfoldable pub use Rattle.fields_core.specs.LightPlanes.{is_numbered}
pub use Rattle.fields_core.specs.LineWords.{AreRowsOf, AreSpread, IsRowIn, IsRowOf}
pub use Rattle.fields_core.specs.Parts.{ArePieces, ArePlanesAlive, IsBroken, IsHouseBroken, IsHouseLeft, IsHouseOfPieces, IsStruck, Piece, piece_at, piece_of, pieces_of}
pub use Rattle.fields_core.specs.PlaneGames.{AreShortEnough, IsClosedByCounts}
unfoldable pub use Rattle.fields_core.specs.Parts.{without_value}
pub use Rattle.fields_core.specs.Sweeps.{IsSweep}
pub use Rattle.fields_core.specs.Count.{IsTally, value_stays}
pub use Rattle.fields_core.specs.TentSolutions.{IsTentFault}
pub use Rattle.fields_core.specs.TentHouses.{column_of_tents, row_of_tents, tent_counts, tent_house, tent_kind, tent_rules, tent_span, tree_house}
unfoldable pub use Rattle.fields_core.specs.TentHouses.{is_barred, tent_houses}
pub use Rattle.fields_core.specs.TentWaits.{AreTentsReady, AreTentsWritten, AreTreesVisited, IsFieldOf}
pub use Rattle.fields_core.specs.TentPairs.{AreIn, AreNumbered, HasPairingRoom, tent_places, tree_beside, tree_count}
unfoldable pub use Rattle.fields_core.specs.TentPairs.{may_pair}
pub use Rattle.fields_core.specs.TentSolutions.{IsTentSolution}
pub use Rattle.fields_core.specs.TentTrees.{squares_of_row}
pub use Rattle.fields_core.specs.TentTouching.{HasTouching, IsTentAmong, IsWindow}
pub use Rattle.fields_core.specs.TentTrees.{AreBare, AreBeside, AreTakenBeside, IsNear, trees_of_row}
unfoldable pub use Rattle.fields_core.specs.TentTrees.{is_beside, wants_tent}
pub use Rattle.fields_core.specs.TentWaits.{AreTentsRested, AreTentsSettled, AreTentsWoken, AreVisitedOrDoomed, AreWaitingLines, all_of_kind, kind_houses, kind_lines, waits_of}
pub use Rattle.fields_core.specs.Tents.{tent, tent_cells, tree}
unfoldable pub use Rattle.fields_core.specs.Tents.{can_be_paired, touches}
pub use Rattle.fields_core.specs.Visits.{AreIdle, AreVisited}
unfoldable pub use Rattle.fields_core.specs.Visits.{without_zeros}
