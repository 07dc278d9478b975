-- Words and lemmas of std and of grid_core, and words of this crate, as its code and proofs use them. Declares nothing.
pub use Rattle.std.proofs.Common.{Bool, Err, List, None, Ok, Option, Result, Some, [], add-one, ap, append_assoc, ap₂, arith, codes, cond, drop, eqb, false, if◌then◌else◌, length-set, set, true≢false, ◌==◌, ◌≢◌}
pub use Rattle.std.proofs.Common.{get_or, inl, inr, leb, length, length-append, ltb, map, min, refl, rules, slice_index, subst, suc, sym, take, true}
pub use Rattle.std.proofs.Common.{zero, ℕ, ◌%◌, ◌&&◌, ◌*◌, ◌++◌, ◌+◌, ◌-◌, ◌<◌, ◌^◌, ◌↔◌, ◌∙◌, ◌∷◌, ◌≡◌, ◌≤◌, ◌⊎◌}
pub use Rattle.std.proofs.Math.Nat.{mul-le-mul_left, mul-le-mul_right, suc-mul}
pub use Rattle.std.proofs.lemmas.Bool.Decides.{nat_tests}
pub use Rattle.std.proofs.lemmas.Bool.{and_parts, cases_eq, eq-eqb, false≢true, le-ltb, leb-true, lt-ltb, ltb-false, ltb-true, ne_eqb}
pub use Rattle.std.proofs.lemmas.Fmt.{decimal-digits_value, decimal_by_steps, decimal_digit, digits_decimal, digits_value-decimal, length-decimal-le}
pub use Rattle.std.proofs.lemmas.Grind.{common_steps}
pub use Rattle.std.proofs.lemmas.List.Elements.{recursion_from_All}
pub use Rattle.std.proofs.lemmas.List.Folds.{list_any-append}
pub use Rattle.std.proofs.lemmas.List.FromFn.{get_or-map-range_with_len, length-map-range_with_len, map-range_with_len_more}
pub use Rattle.std.proofs.lemmas.List.Quantifiers.{position-Some}
pub use Rattle.std.proofs.lemmas.List.{append-nil, drop_at, ext_get_or, get_or_default, get_or_past, length-replicate, map-append, take-append-drop, take_at}
pub use Rattle.std.proofs.lemmas.Nat.{mod-mul-add}
pub use Rattle.std.proofs.lemmas.Option.{slice_get-get_or}
pub use Rattle.std.proofs.lemmas.Slice.{between_to_end}
pub use Rattle.std.proofs.lemmas.Str.Parse.{IsNumeralModel, numerals_by_fold}
pub use Rattle.std.specs.Borrow.{Bor}
pub use Rattle.std.specs.Char.{is_ascii_digit}
pub use Rattle.std.specs.List.{AllByRecursion, concat, flat_map, join_with_byte, list_any, position_or_len, range_with_len}
pub use Rattle.std.specs.Prelude.{decimal, is_some, not, position, replicate, slice_get, string_bytes}
pub use Rattle.std.specs.Str.{all_ascii_digits}
pub use Rattle.grid_core.proofs.RegionLemmas.{length-line_numbers, line_numbers-column, line_numbers-row}
pub use Rattle.grid_core.proofs.PieceLemmas.{ends-close, ends-more, last-close, last-le, length-pieces, piece-at, piece-ends, pieces-close, pieces-more}
pub use Rattle.grid_core.specs.Extent.{Extent, IsExtent, max_side}
pub use Rattle.grid_core.specs.Grids.{IsGrid, column_cells, row_cells}
pub use Rattle.grid_core.specs.Lines.{line_cells, lines_of}
unfoldable pub use Rattle.grid_core.specs.Lines.{line_numbers}
pub use Rattle.grid_core.specs.Pieces.{AreEnds}
pub use Rattle.gameid_core.specs.GridTexts.{Adds}
pub use Rattle.gameid_core.specs.Lines.{run_of, runs}
unfoldable pub use Rattle.gameid_core.specs.Lines.{runs_after}
pub use Rattle.gameid_core.specs.Steps.{fill_end, fill_step, is_letter, letter}
pub use Rattle.gameid_core.specs.FirstFailed.{IsAnswerOfCheck, IsFirstFailed, NoneFails}
pub use Rattle.gameid_core.specs.Steps.{FirstFault, TellsFirst, stop}
pub use Rattle.gameid_core.specs.FirstTokens.{GivesRun, TakesNumber, TakesRun}
pub use Rattle.gameid_core.specs.GridTexts.{AgreeUpTo, FitUpTo, Follows, IsAsShown, IsPrinted, IsReadOf, hides_nothing}
unfoldable pub use Rattle.gameid_core.specs.GridTexts.{each_below}
pub use Rattle.gameid_core.specs.GridTexts.{grid_text, row_text}
pub use Rattle.gameid_core.specs.Head.{HeadRead, Sides, SizeRead, extent_of, has_hash, has_x, head_read, in_range, max_id, max_numbers, size_read, two_sides}
unfoldable pub use Rattle.gameid_core.specs.Head.{head_at, head_of, side_at, sides_at, size_of}
pub use Rattle.gameid_core.specs.HeadTests.{Comes, FailsHead, FailsSize, HasNumber, HasSize, Lacks, TellsFirstFailed, head_tests, size_tests}
pub use Rattle.gameid_core.specs.IdTexts.{id_text}
unfoldable pub use Rattle.gameid_core.specs.IdTexts.{puzzle_read}
pub use Rattle.gameid_core.specs.Lines.{AreColumnOnes, AreColumnRuns, AreRowOnes, AreRowRuns, lines_ones, lines_runs, ones}
pub use Rattle.gameid_core.specs.IdTexts.{HasOneReading, HasOneText}
pub use Rattle.gameid_core.specs.Puzzles.{AreClues, AreCounts, IsClue, IsLight, IsLightCell, IsPattern, IsSolo, IsTents, IsWide, Light, Pattern, Solo, Tents, pattern_puzzle, solo_n, solo_puzzle, tents_puzzle, used}
pub use Rattle.gameid_core.specs.IdTexts.{IsSizeText, IsSoloSizeText, size_text, solo_size_text}
pub use Rattle.gameid_core.specs.Steps.{Fails, Gives, ◌>>=◌}
unfoldable pub use Rattle.gameid_core.specs.Steps.{reading}
pub use Rattle.gameid_core.specs.Words.{Cuts, IsNumeral, IsPlain, after_digits, begins, bytes_of, digits_front, is_lead, joins, value, value_after}
unfoldable pub use Rattle.gameid_core.specs.Words.{words}
pub use Rattle.gameid_core.specs.declared.id.fault.IdFault.TheVariants.{BadByte, BadSize, NoColon, NumberRange, SeedId, SizeRange, TooFew, TooLong, TooMany, Variant}
pub use Rattle.gameid_core.specs.declared.id.fault.IdFault.{IdFault}
pub use Rattle.gameid_core.specs.declared.id.game.Game.{Game}
pub use Rattle.gameid_core.specs.declared.light_up.cell.LightCell.TheVariants.{Black, Numbered, White}
pub use Rattle.gameid_core.specs.declared.light_up.cell.LightCell.{LightCell}
