-- Words and lemmas of std and of the crates below, and words of this crate, as its proofs use them.
pub use Rattle.std.proofs.Common.{Bool, Err, IfErr, IfOk, List, None, Ok, Option, Result, Some, [], add-one, ap, append-nil, append_assoc, ap₂, arith, codes}
pub use Rattle.std.proofs.Common.{decimal, drop, false, get_or, if◌then◌else◌, inl, inr, length, length-append, max, refl, rules, slice_index}
pub use Rattle.std.proofs.Common.{string_bytes, string_len, subst, suc, sym, take, true, true≢false, vec_len, zero, ℕ, ◌%◌, ◌&&◌, ◌*◌, ◌++◌, ◌+◌, ◌/◌, ◌<◌}
pub use Rattle.std.proofs.Common.{◌==◌, ◌∙◌, ◌∷◌, ◌≡◌, ◌≢◌, ◌≤◌, ◌⊎◌}
pub use Rattle.std.proofs.Math.Nat.{eq-or-lt_of_le, mul-le-mul_left, mul-le-mul_right, suc-mul}
pub use Rattle.std.proofs.lemmas.Bool.{and_from, and_parts, cases_Bool, cases_eq, cases_lt, cond_both, eq-eqb, eqb-true, false_from_ne_true, leb-true, ne_eqb}
pub use Rattle.std.proofs.lemmas.Bool.{not-false, not-true}
pub use Rattle.std.proofs.lemmas.Grind.{common_steps}
pub use Rattle.std.proofs.lemmas.List.{drop-drop, drop_all, get_or_past, length-map, length-take-le, take-append-drop, take_all}
pub use Rattle.std.proofs.lemmas.List.Elements.{All-append, All-contains, All-nil}
pub use Rattle.std.proofs.lemmas.Option.{none-some}
pub use Rattle.std.proofs.lemmas.Result.{IfOk-weaker, on_err_weaker, on_ok_weaker}
pub use Rattle.std.specs.List.{All, AllByRecursion, slice_get, slice_split}
pub use Rattle.std.specs.Prelude.{IfSome, is_ok, nat_le, option_map, ◌↔◌}
pub use Rattle.std.specs.Str.Lines.{lines, lines_of_parts, strip_carriage_return}
pub use Rattle.grid_core.proofs.BoardLemmas.{any_below-none, any_below-some, count_below-one, least_below-passes, within_inside}
pub use Rattle.grid_core.specs.Candidates.{Candidates, IsWithin}
unfoldable pub use Rattle.grid_core.specs.Candidates.{any_below, is_dead, is_full, total}
pub use Rattle.gameid_core.proofs.HeadLaws.{puzzle_too_long, size_take}
pub use Rattle.gameid_core.proofs.LightTexts.{light_reading}
pub use Rattle.gameid_core.proofs.LightTexts.{light_is_written}
pub use Rattle.gameid_core.proofs.PatternTexts.{pattern_reading}
pub use Rattle.gameid_core.proofs.PatternWritten.{pattern_is_written}
pub use Rattle.gameid_core.proofs.PrintedGrids.{number_fits}
pub use Rattle.gameid_core.proofs.PrintedGrids.{begins_with_form, is_shown}
pub use Rattle.gameid_core.proofs.Reading.{bind_ok, chosen, ok_is, reading_of, taken}
pub use Rattle.gameid_core.proofs.SoloTexts.{solo_is_written}
pub use Rattle.gameid_core.proofs.SoloTexts.{solo_reading}
pub use Rattle.gameid_core.proofs.TentsTexts.{tents_reading}
pub use Rattle.gameid_core.proofs.TentsWritten.{tents_is_written}
pub use Rattle.gameid_core.specs.GridTexts.{grid_text, row_text}
unfoldable pub use Rattle.gameid_core.specs.GridTexts.{each_below}
pub use Rattle.gameid_core.specs.Puzzles.{IsLight, IsLightCell, IsWide, solo_n}
pub use Rattle.gameid_core.specs.declared.id.fault.IdFault.TheVariants.{Memory, SizeRange, TooLong}
pub use Rattle.gameid_core.specs.declared.id.game.Game.TheVariants.{LightUp}
pub use Rattle.gameid_core.specs.declared.light_up.cell.LightCell.{LightCell}
pub use Rattle.gameid_core.specs.declared.light_up.cell.LightCell.TheVariants.{Black, Numbered, White}
pub use Rattle.engine_core.proofs.ClosingLemmas.{after_inside, closure_closed, closure_inside, closure_largest}
pub use Rattle.engine_core.specs.Verdict.{HasTwo, Outcome.GaveUp, Outcome.NoSolution, Outcome.OneSolution, Outcome.SeveralSolutions}
unfoldable pub use Rattle.engine_core.specs.Verdict.{outcome, spent, trials_in}
pub use Rattle.engine_core.specs.Walk.{Found, Mark.Found, Mark.Trial}
unfoldable pub use Rattle.engine_core.specs.Walk.{at_cell, branch_at, branches, walk_closed}
pub use Rattle.fields_core.specs.Light.{is_white}
pub use Rattle.maker_core.proofs.PatternMakings.{black_cells-grid}
pub use Rattle.maker_core.proofs.Common.{All-from_get_or, AreReasons, CluedGame, HasWords, IsAsked, IsGame, IsLeft, IsLineOrder, IsLit, IsOnly, IsPermutation}
pub use Rattle.maker_core.proofs.Common.{IsPermutation-refl, IsThinnedFrom, IsThinning, IsTrueOf, Stream, TellsOne, bulbs_beside, clue_places}
pub use Rattle.maker_core.proofs.Common.{count_by-le-length, flipped_by_draw, houses_lawful, is_some, length-filter, length-map-range_with_len}
pub use Rattle.maker_core.proofs.Common.{length-range_with_len, light_cells, light_is_game, lt-ltb, mul-le, nat_lt, numbered_cell, outcome-true}
pub use Rattle.maker_core.proofs.Common.{recursion_from_All, replicate, shuffled_order, solo_is_game, top_row_given, x_filling, ◌-◌, ◌^◌}
unfoldable pub use Rattle.maker_core.proofs.Common.{black_cells, bulbs_after, lights_of, lines_of_groups, reasons_from, stream_after, white, white_places}
pub use Rattle.maker_core.proofs.Shuffles.{draw_is, order_is, swaps_are, words_later}
pub use Rattle.maker_core.specs.Draws.{IsFirstPassing, Making, NonePasses, filling_at, shuffled_list}
pub use Rattle.maker_core.specs.LightMaking.{SameLight, light_game, number_clue}
pub use Rattle.maker_core.specs.LightMaking.{light_passes}
unfoldable pub use Rattle.maker_core.specs.LightMaking.{light_filling, light_puzzle_of, lit_up, with_numbers}
pub use Rattle.maker_core.specs.Made.{HasOne, IsOnlySolution, is_one}
pub use Rattle.maker_core.specs.SoloMaking.{SameSolo, solo_game}
pub use Rattle.maker_core.specs.SoloFilling.{all_given, line_order, plain_filling}
pub use Rattle.maker_core.specs.SoloMaking.{IsSoloMade, IsSoloSize, IsSoloUnmade, solo_filling, solo_passes}
pub use Rattle.maker_core.specs.Thinning.{IsReason}
pub use Rattle.maker_core.specs.declared.made.Kept.{Kept}
pub use Rattle.commands.specs.Allowed.{Allows, AllowsCheck, AllowsGrade, AllowsId, AllowsMade, AllowsOfSize, AllowsSolve, IsGraded, IsHandedOut, IsSolved}
pub use Rattle.commands.specs.Allowed.{handed_out, wanted}
pub use Rattle.commands.specs.Answers.{Answer, Begins, BeginsAnswer, Delivers, IsInput, PutBegun, PutUpTo, Text, answer_with, code_of, status_of}
pub use Rattle.commands.specs.Answers.{Asked, check, generate, grade, solve}
pub use Rattle.commands.specs.Batches.{AllowsTask, Batched, Gathered, HasNoNewline, Holds, TakesTask}
pub use Rattle.commands.specs.CheckAnswers.{AllowsGrid, IsInputOf, SaysFault, begins_with_line_end, checked}
unfoldable pub use Rattle.commands.specs.CheckAnswers.{without_returns}
pub use Rattle.commands.specs.Common.{Extent, Game, HasOneReading, IdFault, IsAsShown, IsClosed, IsExtent, IsGrid, IsInside, IsLawful, IsLightSolution}
pub use Rattle.commands.specs.Common.{IsPattern, IsPatternSolution, IsPrinted, IsRight, IsSolo, IsSoloSolution, IsTentSolution, IsTents, Light, Mark, Outcome}
pub use Rattle.commands.specs.Common.{Pattern, RuleSystem, SizeRead, Solo, Solves, Tents, crossings_rules, extent_of, grid_of}
pub use Rattle.commands.specs.Common.{hides_nothing, houses_rules, in_range, is_settled, is_solution-from, is_solution-is, light_cell, light_hides}
pub use Rattle.commands.specs.Common.{light_rules, line_rules, line_rules-lawful, max_id, only, pattern_cell, rule_from_test, solo_rules_of, scopes_of}
pub use Rattle.commands.specs.Common.{singles_rules, size_of, solo_cell, solo_extent, tent_hides, tent_rules, tents_cell, test_from_rule, verdict_of, walk}
pub use Rattle.commands.specs.Each.{AllowsEach, Answered, BeginsLines, Begun, HasAnswers, Stopped, both, silence}
pub use Rattle.commands.specs.Games.{game_of, puzzle_type}
pub use Rattle.commands.specs.Grades.{HasOneSolution, IsRightGrade, NamedRules, SaysGrade, first_settled, grade_by, grade_status, grade_text, last_tried}
pub use Rattle.commands.specs.Grades.{listed_grade, only_set, rule_set_text}
unfoldable pub use Rattle.commands.specs.Grades.{searched_grade}
pub use Rattle.commands.specs.LawsOfCommands.{ArePassed, DifferInClues, GradedPuzzlesHaveOne, HandOutAlike, HasOneAnswer, IsLeastBudget, IsRewritten}
pub use Rattle.commands.specs.LawsOfCommands.{MadePuzzlesAreSolved, NamesSearch, NamesSet, NamesSetNoStrongerThanSearch, Passes, SearchesNameLeastBudgets}
pub use Rattle.commands.specs.LawsOfCommands.{StatusesAgree, is_fixed, is_within_search}
pub use Rattle.commands.specs.LightFacts.{light_facts, light_fault}
pub use Rattle.commands.specs.Makings.{MadePuzzle, Wanted, exhausted_answer}
pub use Rattle.commands.specs.PatternFacts.{pattern_facts, pattern_fault}
pub use Rattle.commands.specs.PuzzleFacts.{GameFacts, PuzzleFacts, printed_by}
pub use Rattle.commands.specs.Replies.{answer_in, fault_text, gave_up_answer, one_answer, refused, refused_words, verdict_answer}
pub use Rattle.commands.specs.Runs.{Ran}
pub use Rattle.commands.specs.SoloFacts.{sets_after_houses, sets_after_singles, solo_facts, solo_fault, solo_sets}
pub use Rattle.commands.specs.Stops.{BeginsIfAny, RanIfAny, Wrote, status_in}
pub use Rattle.commands.specs.TentsFacts.{tent_fault, tents_facts, tents_sizes}
pub use Rattle.commands.specs.Texts.{Given, IsKeptText, text_limit}
pub use Rattle.commands.specs.TracePieces.{BeginsTrace, KeptOrPut, PutInPieces, PutsTrace, TakesPieces, joined}
pub use Rattle.commands.specs.Traces.{IsTrace, SaysClosing, visit_line, sweeps_text, visits_text}
pub use Rattle.commands.specs.declared.answers.reply.Reply.{Reply}
pub use Rattle.commands.specs.declared.grade.grades.Grade.{Grade}
pub use Rattle.commands.specs.declared.grade.grades.Grade.TheVariants.{ByRules, BySearch}
pub use Rattle.commands.specs.declared.grade.grades.GradedRules.{GradedRules}
pub use Rattle.commands.specs.declared.grade.grades.GradedRules.TheVariants.{Crossings, Houses, Lines, Local, Singles}
