-- Pattern: what the text of a game ID spells, its first fault, the one written text, and printed grids.
use Rattle.std.specs.Prelude.{◌≡◌, ℕ, ◌+◌, ◌≤◌, ◌&&◌, List, [], ◌∷◌, ◌++◌, map, drop, length, Result, Ok, Err, nat_lt, ◌==◌, if◌then◌else◌, decimal, codes, slice_index}
use Rattle.std.specs.List.{AllByRecursion, join_with_byte}
use Rattle.std.specs.Char.{is_ascii_digit}
use Rattle.std.specs.Borrow.{Bor}
use Rattle.grid_core.specs.Extent.{Extent}
use Rattle.gameid_core.specs.declared.id.fault.IdFault.{IdFault}
use Rattle.gameid_core.specs.declared.id.fault.IdFault.TheVariants.{BadByte, NumberRange, LineTooFull, TooFew, TooMany}
use Rattle.gameid_core.specs.declared.id.game.Game.TheVariants as game
use Rattle.gameid_core.specs.Words.{IsNumeral, IsPlain, after_digits, begins, is_byte, words, value}
use Rattle.gameid_core.specs.Steps.{◌>>=◌, first_that_holds, reading}
use Rattle.gameid_core.specs.Head.{HeadRead, extent_of, max_id}
use Rattle.gameid_core.specs.IdTexts.{IsSizeText, puzzle_read, size_text}
use Rattle.grid_core.specs.Lines.{line_cells, lines_of}
use Rattle.gameid_core.specs.Puzzles.{Pattern, IsPattern, pattern_puzzle, used}

-- ---- What a text spells

-- clues joined by '/', each empty or numbers joined by '.'
abbrev pub clues_text : List (List (List ℕ)) → List ℕ
clues_text clues = join_with_byte 47 (map (join_with_byte 46) clues)

pub record SpellsPattern (text : List ℕ) (p : Pattern) : Type 0 where
  pub short : length text ≤ max_id
  pub puzzle : IsPattern p
  pub front : List ℕ
  pub numerals : List (List (List ℕ))
  pub parts : text ≡ front ++ 58 ∷ clues_text numerals
  pub size : IsSizeText front p.size.w p.size.h
  pub digits : AllByRecursion (AllByRecursion IsNumeral) numerals
  pub clues : map (map value) numerals ≡ p.clues

-- ---- Which text is written

-- the text spells the puzzle, with both numbers of the size and no leading zero
pub record IsWrittenPattern (text : List ℕ) (p : Pattern) : Type 0 where
  pub spells : SpellsPattern text p
  pub both : spells.front ≡ size_text p.size.w p.size.h
  pub plain : AllByRecursion (AllByRecursion IsPlain) spells.numerals

-- ---- The first fault

-- what was read so far: the clues before this one, and the numbers of this one
pub record SoFar : Type 0 where
  pub clues : List (List ℕ)
  pub clue : List ℕ

-- a number is read, in a line of so many cells, of which the clue's numbers before it use some
unfoldable pub clue_number : ℕ → ℕ → ℕ → ℕ → List ℕ → Result ℕ IdFault
clue_number cells line before at digits =
    first_that_holds (
    (value digits == 0, Err (NumberRange at))
    ∷ (nat_lt cells (before + value digits), Err (LineTooFull line))
    ∷ []) (Ok (value digits))

-- a token other than '/': at a clue's beginning a number, and after a number '.' and a number
unfoldable pub clue_token : ℕ → ℕ → List ℕ → ℕ → List ℕ → Result ℕ IdFault
clue_token cells line [] at word =
    if begins is_ascii_digit word then clue_number cells line 0 at word else Err (BadByte at)
clue_token cells line (n ∷ clue) at word =
    if begins (is_byte 46) word && begins is_ascii_digit (drop 1 word)
    then clue_number cells line (used (n ∷ clue)) (at + 1) (drop 1 word)
    else Err (BadByte at)

-- the same in a line of so many cells, after what was read so far
abbrev pub token_after : ℕ → SoFar → ℕ → List ℕ → Result ℕ IdFault
token_after cells s at word = clue_token cells (length s.clues) s.clue at word

-- what was read with the clue ended, and with more numbers in the clue
abbrev pub clue_ended : SoFar → SoFar
clue_ended s = record { clues = s.clues ++ s.clue ∷ []; clue = [] }

abbrev pub with_more : SoFar → List ℕ → SoFar
with_more s more = record { clues = s.clues; clue = s.clue ++ more }

-- '/' ends a clue, and is refused after the last one
abbrev pub pattern_step : Extent → ℕ → SoFar → List ℕ → Result SoFar IdFault
pattern_step size at s word =
    first_that_holds (
    (begins (is_byte 47) word && (length s.clues + 1 == lines_of size), Err TooMany)
    ∷ (begins (is_byte 47) word, Ok (clue_ended s))
    ∷ []) (token_after (line_cells size (length s.clues)) s at word >>= (λ n. Ok (with_more s (n ∷ []))))

-- the end ends the last clue
abbrev pub pattern_end : Extent → SoFar → Result (List (List ℕ)) IdFault
pattern_end size s =
    if length s.clues + 1 == lines_of size then Ok (s.clues ++ s.clue ∷ []) else Err TooFew

abbrev pub nothing_yet : SoFar
nothing_yet = record { clues = []; clue = [] }

-- the clues of a description that begins at that place
abbrev pub clues_at : Extent → ℕ → List ℕ → Result (List (List ℕ)) IdFault
clues_at size at description =
    reading (pattern_step size) (pattern_end size) at nothing_yet (words description)

-- the puzzle that the description spells behind a head, or its first fault
abbrev pub pattern_behind : HeadRead → List ℕ → Result Pattern IdFault
pattern_behind head description = do
  clues ← clues_at (extent_of head.size) head.description description
  Ok (pattern_puzzle (extent_of head.size) clues)

-- the puzzle that the text spells, or its first fault
abbrev pub pattern_of : List ℕ → Result Pattern IdFault
pattern_of text = puzzle_read game.Pattern pattern_behind text

-- ---- The written text

abbrev pub clue_text : List ℕ → List ℕ
clue_text clue = join_with_byte 46 (map decimal clue)

abbrev pub pattern_text : Pattern → List ℕ
pattern_text p = size_text p.size.w p.size.h ++ 58 ∷ join_with_byte 47 (map clue_text p.clues)

-- ---- Printed grids

-- Pattern: '#' black, '.' white
abbrev pub pattern_cell : Pattern → List ℕ → ℕ → List ℕ
pattern_cell p g place = if slice_index g place == 1 then codes "#" else codes "."

-- ---- Words of the reader's functions

-- the number, and the text after it; or the fault
abbrev pub GivesNumber : Result ℕ IdFault → List ℕ → Result (ℕ × Bor (List ℕ)) IdFault → Type 0
GivesNumber read after (Ok x) = (read ≡ Ok x.0) × (x.1.now ≡ after)
GivesNumber read after (Err e) = read ≡ Err e

-- the same of the digits in front of a text; where there are none, the fault is of their token
abbrev pub GivesDigits : Result ℕ IdFault → List ℕ → ℕ → Result (ℕ × Bor (List ℕ)) IdFault → Type 0
GivesDigits read digits token result =
    GivesNumber (if begins is_ascii_digit digits then read else Err (BadByte token)) (after_digits digits) result
