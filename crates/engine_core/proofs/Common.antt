-- Words and lemmas of std and of the crates below, and words of this crate, as its proofs use them.
pub use Rattle.std.proofs.Common.{Bool, IfSome, List, None, Option, Some, [], add-one, ap, append_assoc, arith, bit_and, count_ones, drop, eqb, false}
pub use Rattle.std.proofs.Common.{get_or, if◌then◌else◌, inl, inr, is_some, length, length-append, length-set, length-take, ltb, max, not, option_to_list}
pub use Rattle.std.proofs.Common.{refl, replicate, rules, set, slice_index, subst, suc, sym, take, true, w32, w64, zero, ℕ, ◌%◌, ◌&&◌, ◌*◌, ◌++◌, ◌+◌, ◌-◌}
pub use Rattle.std.proofs.Common.{◌/◌, ◌<◌, ◌==◌, ◌^◌, ◌||◌, ◌↔◌, ◌∙◌, ◌∷◌, ◌≡◌, ◌≢◌, ◌≤◌, ◌⊎◌}
pub use Rattle.std.proofs.Math.Bool.{and-false, and-true, not-not, or-false}
pub use Rattle.std.proofs.Math.Nat.{div-div-eq-div-mul, div-le_self, mul-le-mul_right, mul-suc, pow-succ'}
pub use Rattle.std.proofs.Math.Path.{fun_ext}
pub use Rattle.std.proofs.Math.Seq.{take-append_seam, take-length, take-suc-set}
pub use Rattle.std.proofs.lemmas.Bool.{and_from, and_left, and_parts, and_right, cases_Bool, cases_eq, cases_lt, eq-eqb, eqb-true}
pub use Rattle.std.proofs.lemmas.Bool.{false_from_ne_true, le-leb, le-ltb, leb-true, lt-leb, lt-ltb, ne_eqb, not-true, not_from_false, not_from_true}
pub use Rattle.std.proofs.lemmas.Bool.{or_cases, or_left, or_right, true≢false}
pub use Rattle.std.proofs.lemmas.Cmp.{upto}
pub use Rattle.std.proofs.lemmas.Grind.{common_steps}
pub use Rattle.std.proofs.lemmas.List.{append-nil, drop-append-le, get_or-replicate, get_or-set_other, get_or-set_same, get_or-take}
pub use Rattle.std.proofs.lemmas.List.{get_or_read, get_or_read_under, length-drop, length-replicate, length-take-le, length_push, map-id, places}
pub use Rattle.std.proofs.lemmas.List.{take-append-le, take_all}
pub use Rattle.std.proofs.lemmas.List.Edits.{get_or-between, length-between}
pub use Rattle.std.proofs.lemmas.List.Elements.{All-from_get_or}
pub use Rattle.std.proofs.lemmas.List.FromFn.{map-range_with_len_more}
pub use Rattle.std.proofs.lemmas.List.Sums.{sum_by-cons}
pub use Rattle.std.proofs.lemmas.Nat.{and_le_l, div-add-mod', div-mul-add, one_shl, or_lt, pow-add, pow_below, pow_pos}
pub use Rattle.std.proofs.lemmas.Nat.Bits.{bit_at-lt, bit_at-trailing_zeros, bit_at-zero, bit_at_above, bit_at_clear_other}
pub use Rattle.std.proofs.lemmas.Nat.Bits.{bit_at_clear_same, bit_at_ones, bit_at_set_other, bit_at_set_same, same_from_bits_below}
pub use Rattle.std.proofs.lemmas.Slice.{between_to_end}
pub use Rattle.std.specs.Int.{bit_at, from_bool, trailing_zeros}
pub use Rattle.std.specs.List.{AllByRecursion, between, range_with_len}
pub use Rattle.std.specs.Prelude.{bit_or, nat_le, nat_lt, sum_by, vec_len}
pub use Rattle.grid_core.proofs.BoardLemmas.{count_ones-bits}
pub use Rattle.grid_core.proofs.BoardLemmas.{all_below-from, any_below-here, any_below-none, any_below-some, count_below-any, count_below-bound}
pub use Rattle.grid_core.proofs.BoardLemmas.{count_below-few, count_below-kept, count_below-le, count_below-lt, count_below-none, count_below-one}
pub use Rattle.grid_core.proofs.BoardLemmas.{count_below-pos, count_below-same, is_dead-each, is_dead-here, is_dead-inside, is_dead-not}
pub use Rattle.grid_core.proofs.BoardLemmas.{least_below-passes, same_from_inside, same_or_fewer, sum_below-add, sum_below-le, total-bound, total-le, total-lt}
pub use Rattle.grid_core.proofs.BoardLemmas.{total-pos, within_inside}
pub use Rattle.grid_core.proofs.GridLemmas.{grid_of-at, grid_of-full, grid_of-inside, is_full-count, length-grid_of, only-at, only-has, only-here}
pub use Rattle.grid_core.proofs.GridLemmas.{only-inside, only-other, single-at, total-only}
pub use Rattle.grid_core.proofs.PieceLemmas.{ends-close, ends-more, last-close, last-le, length-pieces, piece-at, piece-ends, pieces-close, pieces-more}
pub use Rattle.grid_core.proofs.WordLemmas.{both-bits, either-bits, power-bits, zero-bits}
pub use Rattle.grid_core.specs.Board.{Layout, SameShape, cells_of}
unfoldable pub use Rattle.grid_core.specs.Board.{has}
pub use Rattle.grid_core.specs.Candidates.{Candidates, IsInside, IsWithin}
unfoldable pub use Rattle.grid_core.specs.Candidates.{any_below, better, count_below, grid_of, is_dead, is_full, least_below, only, pick, single}
unfoldable pub use Rattle.grid_core.specs.Candidates.{put_back, total, with_set, without}
pub use Rattle.grid_core.specs.Pieces.{AreEnds, last_end, pieces}
unfoldable pub use Rattle.grid_core.specs.Regions.{step}
pub use Rattle.engine_core.specs.Closer.{AreWritten, BoardAndMarks, IsClosedBy, SameRoom, sweeps_in, visits_in}
pub use Rattle.engine_core.specs.Closing.{HasStruck}
unfoldable pub use Rattle.engine_core.specs.Closing.{closure, replay, round, rounds, sweeps_of}
pub use Rattle.engine_core.specs.ClosingList.{HasHouseLost, IsAlive, IsCalledFor, IsCalledNext, IsClosing, IsClosingList, IsClosingSweeps, IsDead, Reaches}
pub use Rattle.engine_core.specs.Counts.{IsClosedIn, IsTurns, boards_of}
unfoldable pub use Rattle.engine_core.specs.Counts.{deepest_of}
pub use Rattle.engine_core.specs.FillingLaws.{shown_from_test, test_from_shown}
pub use Rattle.engine_core.specs.Frames.{AreGrids, AreReady, AreSolutions, IsFull, IsOpen, IsReady, IsSearched, IsTrial, SameMarks}
pub use Rattle.engine_core.specs.Frames.{first_of, found_marks, frame_at, level_at, marks_at, marks_of, pending_in, pending_of, retried_at}
pub use Rattle.engine_core.specs.Frames.{second_of, walk_of}
unfoldable pub use Rattle.engine_core.specs.Frames.{levels_of, singles}
pub use Rattle.engine_core.specs.HouseList.{AreMarked, AreMarksAt, AreScopes, HasMarked, IsScope, Table, place_bit, scope_of}
pub use Rattle.engine_core.specs.HouseList.{FitsPlaces, IsListed, Listed, listed}
pub use Rattle.engine_core.specs.HouseRulesLaws.{bound_enough, by_houses-lawful}
pub use Rattle.engine_core.specs.HouseSets.{AreDifferent, Decision}
unfoldable pub use Rattle.engine_core.specs.HouseSets.{kept_in, strikes_at}
pub use Rattle.engine_core.specs.HouseSetsLaws.{bits-of_values, sets-bits, strikes_at-in_scope, strikes_at-place}
pub use Rattle.engine_core.specs.Keeping.{AreSetsOf, IsKept}
pub use Rattle.engine_core.specs.PlaceLaws.{has_place-at, has_place-here}
pub use Rattle.engine_core.specs.PlanePosition.{AreUnderWay, PlacedPlanes, layers_in, standing_on_planes, word_places}
pub use Rattle.engine_core.specs.Position.{IsClosedAround, IsClosedBut, IsOnward, IsReturned, IsTaken, Standing}
pub use Rattle.engine_core.specs.Queue.{IsQueuedAround, IsRested, IsWoken, called_for, calls, is_dead_in}
unfoldable pub use Rattle.engine_core.specs.Queue.{but, counts_of, visits_left, woken}
pub use Rattle.engine_core.specs.RuleSystem.{IsBoardOf, IsClosed, IsClosedGrid, IsGridOf, IsIdle, IsInsideAt, IsLawful, IsNext, RuleSystem}
unfoldable pub use Rattle.engine_core.specs.RuleSystem.{after, has_place, longest, share}
pub use Rattle.engine_core.specs.Frames.{Level}
unfoldable pub use Rattle.engine_core.specs.Frames.{branches_from, pending}
pub use Rattle.engine_core.specs.Sets.{IsBitsOf, IsChange, has_bit}
pub use Rattle.engine_core.specs.Stored.{IsAnswer, is_settled}
pub use Rattle.engine_core.specs.Trail.{AreLost, IsTrail, IsTrailLonger, Trail, trail_back_at, before_changes, change_at, given_back, is_since}
unfoldable pub use Rattle.engine_core.specs.Trail.{left_by}
pub use Rattle.engine_core.specs.Trail.{GoesOn, IsAlong, Placed, board_in}
unfoldable pub use Rattle.engine_core.specs.Counts.{trials_of}
pub use Rattle.engine_core.specs.Verdict.{IsTrueOf, Outcome, Outcome.GaveUp, Outcome.NoSolution, Outcome.OneSolution, Outcome.SeveralSolutions, Solves}
pub use Rattle.engine_core.specs.Verdict.{says_counts, spent_of, tried_of, verdict_of}
unfoldable pub use Rattle.engine_core.specs.Verdict.{before_grid, before_second, grids_in, outcome, spent, trials_in, tried, within_budget}
pub use Rattle.engine_core.specs.Sets.{AreWoken, AreWokenAt, words_of}
unfoldable pub use Rattle.engine_core.specs.Sets.{is_waiting}
pub use Rattle.engine_core.specs.Walk.{AreFoundOnce, IsFewest, IsFound, IsPick, Mark, Mark.Found, Mark.Trial}
unfoldable pub use Rattle.engine_core.specs.Walk.{at_cell, branch_at, branches, walk, walk_closed, walk_to}
pub use Rattle.engine_core.specs.declared.mode.Closing.TheVariants.{Dead, Open}
pub use Rattle.engine_core.specs.declared.search.levels.Frame.{Frame}
pub use Rattle.engine_core.specs.declared.search.levels.Levels.{Levels}
