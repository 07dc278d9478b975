-- Words of std, of grid_core and of this crate, as its code uses them. Declares nothing.
pub use Rattle.std.specs.Int.{from_bool}
pub use Rattle.grid_core.specs.Board.{SameShape, cells_of}
unfoldable pub use Rattle.grid_core.specs.Board.{has}
pub use Rattle.grid_core.specs.Candidates.{Candidates, IsInside, max_cells, max_values}
unfoldable pub use Rattle.grid_core.specs.Candidates.{better, count_below, grid_of, is_full, only, pick}
pub use Rattle.grid_core.specs.Pieces.{last_end}
pub use Rattle.engine_core.specs.Closer.{AllWait, AreCalled, AreWokenAfter, AreWritten, BoardAndMarks, IsClosedBy, IsClosedFrom, IsCloserOf, IsVisited, SameRoom, sweeps_in, visits_in}
pub use Rattle.engine_core.specs.Closing.{HasLargestClosed, HasStruck}
pub use Rattle.engine_core.specs.ClosingList.{IsAlive, IsDeadAfter}
pub use Rattle.engine_core.specs.Counts.{IsClosedIn, IsTurns, boards_met}
unfoldable pub use Rattle.engine_core.specs.Counts.{deepest_of}
pub use Rattle.engine_core.specs.Frames.{AreGrids, AreLong, AreReady, IsNoted, IsRetried, IsSearched, IsTurn, SameMarks, StaySolutions, first_of, frame_at, second_of}
unfoldable pub use Rattle.engine_core.specs.Frames.{singles}
pub use Rattle.engine_core.specs.HouseSets.{AreBelow, AreBitsAt}
unfoldable pub use Rattle.engine_core.specs.HouseSets.{kept_in, sets_at}
pub use Rattle.engine_core.specs.Keeping.{AreHeadSets, AreSets, AreSetsOf, HasSetRoom, IsFiltered, IsKept, IsKeptOf, StillServes}
pub use Rattle.engine_core.specs.HouseList.{AreScopesOf, listed_visits, table_of}
pub use Rattle.engine_core.specs.Mode.{is_queue}
pub use Rattle.engine_core.specs.Needs.{needs_in}
pub use Rattle.engine_core.specs.Notes.{AreToStrike, HasOnly, IsKeptAt, IsMarkedOut, KeepsOnly, SameBut}
pub use Rattle.engine_core.specs.Position.{IsClosedAround, IsClosedBut, IsFull, IsOnward, IsReturned, IsTaken, IsTakenTo, Room, Standing, is_solved, most_changes, own_grid}
pub use Rattle.engine_core.specs.Queue.{IsQueuedAround, IsRested, is_dead_in}
unfoldable pub use Rattle.engine_core.specs.Queue.{but}
pub use Rattle.engine_core.specs.RuleSystem.{AreEnoughSweeps, AreEnoughVisits, FitsIn, IsBoardOf, IsClosed, IsClosedGrid, IsGridOf, IsLawful, IsNext, IsNextAt, Needs, RuleSystem, most_visits, needs_of}
unfoldable pub use Rattle.engine_core.specs.RuleSystem.{after, has_place, longest}
pub use Rattle.engine_core.specs.Sets.{IsBitsOf, has_bit}
unfoldable pub use Rattle.engine_core.specs.Sets.{set_of_bits}
pub use Rattle.engine_core.specs.Stored.{IsClosingOf, IsAnswerOf, IsUnsearched, Stored, is_settled, sizes_of}
pub use Rattle.engine_core.specs.Trail.{AreKeptOutside, AreRising, KeepsChanges, IsTrailBack, IsTrailLonger, IsHouseStruck, IsTrail, Trail, trail_back_at, change_at}
unfoldable pub use Rattle.engine_core.specs.Trail.{left_by}
pub use Rattle.engine_core.specs.Trail.{AreHousesRested, AreRestedBut, AreWokenSince, GoesOn, IsAlong, IsPlaced, IsPlainPlaced, IsStep, IsTrailUnderWay, Placed, board_in, no_notes, standing_of}
pub use Rattle.engine_core.specs.Verdict.{HasTwo, IsTrueOf, Solves, said_by_counts, spent_by_counts, spent_of, tried_of, verdict_of}
unfoldable pub use Rattle.engine_core.specs.Verdict.{outcome, spent, trials_in, tried}
pub use Rattle.engine_core.specs.Sets.{AreWokenAt, words_of}
unfoldable pub use Rattle.engine_core.specs.Sets.{is_waiting}
pub use Rattle.engine_core.specs.Walk.{AreFoundOnce, GoesOnFromClosure, IsFound, IsPick, Mark}
unfoldable pub use Rattle.engine_core.specs.Walk.{walk}
pub use Rattle.engine_core.specs.declared.mode.Closing.TheVariants.{Dead, Open}
pub use Rattle.engine_core.specs.declared.mode.Mode.{Mode}
