-- Solo: what the text of a game ID spells, its first fault, the one written text, and printed grids.
use Rattle.grid_core.specs.Extent.{Extent}
use Rattle.std.specs.Prelude.{◌≡◌, ◌<◌, String, string_bytes, ℕ, zero, suc, ◌+◌, ◌-◌, ◌*◌, ◌≤◌, Bool, true, false, ◌&&◌, List, [], ◌∷◌, ◌++◌, length, replicate, slice_index, Result, Ok, Err, nat_lt, ◌==◌, if◌then◌else◌, decimal, ◌%◌, codes}
use Rattle.std.specs.Char.{is_ascii_digit}
use Rattle.std.specs.List.{AllByRecursion, flat_map}
use Rattle.gameid_core.specs.declared.id.fault.IdFault.{IdFault}
use Rattle.gameid_core.specs.declared.id.fault.IdFault.TheVariants.{BadByte, NumberRange}
use Rattle.gameid_core.specs.declared.id.game.Game.TheVariants as game
use Rattle.gameid_core.specs.Words.{begins, is_byte, is_lead, words, value}
use Rattle.gameid_core.specs.Steps.{fill_end, fill_step, first_that_holds, is_letter, reading, ◌>>=◌}
use Rattle.gameid_core.specs.Head.{HeadRead, max_id}
use Rattle.gameid_core.specs.IdTexts.{IsSoloSizeText, puzzle_read, solo_size_text}
use Rattle.gameid_core.specs.Puzzles.{Solo, IsSolo, solo_n, solo_puzzle}

-- ---- What a text spells

pub data SoloToken : Type 0 where
  blanks : ℕ → SoloToken
  gap : SoloToken
  given : ℕ → SoloToken

-- a letter for 1 to 26 blank cells, '_', or a number without a leading zero
abbrev pub solo_token_text : SoloToken → List ℕ
solo_token_text (blanks k) = (96 + k) ∷ []
solo_token_text gap = 95 ∷ []
solo_token_text (given v) = decimal v

abbrev pub solo_token_cells : SoloToken → List ℕ
solo_token_cells (blanks k) = replicate k 0
solo_token_cells gap = []
solo_token_cells (given v) = v ∷ []

abbrev pub IsSoloToken : ℕ → SoloToken → Type 0
IsSoloToken n (blanks k) = (1 ≤ k) × (k ≤ 26)
IsSoloToken n gap = Unit {0}
IsSoloToken n (given v) = (1 ≤ v) × (v ≤ n)

-- no number stands directly after a number
abbrev pub AreApart : List SoloToken → Type 0
AreApart [] = Unit {0}
AreApart (given u ∷ given v ∷ tokens) = ⊥
AreApart (token ∷ tokens) = AreApart tokens

pub record SpellsSolo (text : List ℕ) (p : Solo) : Type 0 where
  pub short : length text ≤ max_id
  pub puzzle : IsSolo p
  pub front : List ℕ
  pub tokens : List SoloToken
  pub parts : text ≡ front ++ 58 ∷ flat_map solo_token_text tokens
  pub size : IsSoloSizeText front p.c p.r p.x
  pub each : AllByRecursion (IsSoloToken (solo_n p)) tokens
  pub apart : AreApart tokens
  pub cells : flat_map solo_token_cells tokens ≡ p.givens

-- ---- Which text is written

-- a letter directly before a letter is 'z'
abbrev pub AreFull : List SoloToken → Type 0
AreFull [] = Unit {0}
AreFull (blanks j ∷ blanks k ∷ tokens) = (j ≡ 26) × AreFull (blanks k ∷ tokens)
AreFull (token ∷ tokens) = AreFull tokens

abbrev pub BeginsWithGiven : List SoloToken → Type 0
BeginsWithGiven (given v ∷ tokens) = Unit {0}
BeginsWithGiven tokens = ⊥

-- '_' stands only directly behind a number and directly before one; `behind` is whether a number
-- stands before
abbrev pub AreNeeded : Bool → List SoloToken → Type 0
AreNeeded behind [] = Unit {0}
AreNeeded behind (blanks k ∷ tokens) = AreNeeded false tokens
AreNeeded behind (given v ∷ tokens) = AreNeeded true tokens
AreNeeded behind (gap ∷ tokens) = (behind ≡ true) × BeginsWithGiven tokens × AreNeeded false tokens

-- the text spells the puzzle, with both numbers of the size and with no letter and no '_' more than
-- is needed
pub record IsWrittenSolo (text : List ℕ) (p : Solo) : Type 0 where
  pub spells : SpellsSolo text p
  pub both : spells.front ≡ solo_size_text p.c p.r p.x
  pub full : AreFull spells.tokens
  pub needed : AreNeeded false spells.tokens

-- ---- The first fault

-- the cells of a token, or its fault, by its first byte
unfoldable pub solo_token : ℕ → ℕ → List ℕ → Result (List ℕ) IdFault
solo_token n at word =
    first_that_holds (
    (begins is_letter word, Ok (replicate (slice_index word 0 - 96) 0))
    ∷ (begins (is_byte 95) word, Ok [])
    ∷ (begins is_lead word && nat_lt n (value word), Err (NumberRange at))
    ∷ (begins is_lead word, Ok (value word ∷ []))
    ∷ []) (Err (BadByte at))

-- the cells of a token come after those before it, as many as the grid's at most, and as many at the end
abbrev pub solo_step : ℕ → ℕ → List ℕ → List ℕ → Result (List ℕ) IdFault
solo_step n = fill_step (solo_token n) (n * n)

abbrev pub solo_end : ℕ → List ℕ → Result (List ℕ) IdFault
solo_end n = fill_end (n * n)

abbrev pub solo_cells_at : ℕ → ℕ → List ℕ → Result (List ℕ) IdFault
solo_cells_at n at description =
    reading (solo_step n) (solo_end n) at [] (words description)

-- the puzzle that the description spells behind a head, or its first fault
abbrev pub solo_behind : HeadRead → List ℕ → Result Solo IdFault
solo_behind head description = do
  givens ← solo_cells_at (head.size.w * head.size.h) head.description description
  Ok (solo_puzzle head.size.w head.size.h head.size.x givens)

-- the puzzle that the text spells, or its first fault
abbrev pub solo_of : List ℕ → Result Solo IdFault
solo_of text = puzzle_read game.Solo solo_behind text

-- ---- The written text

-- a letter for so many blank cells before other tokens, and none for no cell
abbrev pub blanks_before : ℕ → List SoloToken → List SoloToken
blanks_before zero tokens = tokens
blanks_before (suc k) tokens = blanks (suc k) ∷ tokens

-- the same before a number, and '_' where a number stands there
abbrev pub gap_before : ℕ → Bool → List SoloToken → List SoloToken
gap_before zero true tokens = gap ∷ tokens
gap_before k touches tokens = blanks_before k tokens

-- the tokens of the cells, with k blanks before them, which have a number before them or not
unfoldable pub solo_tokens : ℕ → Bool → List ℕ → List SoloToken
solo_tokens k touches [] = blanks_before k []
solo_tokens k touches (zero ∷ cells) =
    if k == 26 then blanks 26 ∷ solo_tokens 1 false cells else solo_tokens (k + 1) touches cells
solo_tokens k touches (suc v ∷ cells) =
    gap_before k touches (given (suc v) ∷ solo_tokens 0 true cells)

abbrev pub cells_text : ℕ → Bool → List ℕ → List ℕ
cells_text k touches cells = flat_map solo_token_text (solo_tokens k touches cells)

abbrev pub solo_text : Solo → List ℕ
solo_text p = solo_size_text p.c p.r p.x ++ 58 ∷ cells_text 0 false p.givens

-- what stands before a number is added, whatever tokens follow
abbrev pub AddsGap : {Z : Type 0} → ℕ → Bool → String Z → String Z → Type 0
AddsGap k touches old new = (tokens : List SoloToken)
    → string_bytes new ++ flat_map solo_token_text tokens
    ≡ string_bytes old ++ flat_map solo_token_text (gap_before k touches tokens)

-- ---- Printed grids

-- where the text is a number below 100 with no digit after it: the number, and how many digits it has
abbrev pub ReadsNumber : List ℕ → ℕ × ℕ → Type 0
ReadsNumber text result = (n : ℕ) (after : List ℕ) → n < 100 → begins is_ascii_digit after ≡ false
    → text ≡ decimal n ++ after → result ≡ (n, length (decimal n))

-- Solo: the number, which is one more than the value, and a space before it but at the left
abbrev pub solo_cell : Solo → List ℕ → ℕ → List ℕ
solo_cell p g place =
    (if place % solo_n p == 0 then [] else codes " ") ++ decimal (slice_index g place + 1)

-- the columns and rows of a grid of Solo
abbrev pub solo_extent : Solo → Extent
solo_extent p = record { w = solo_n p; h = solo_n p }
