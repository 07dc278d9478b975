-- Light Up: what the text of a game ID spells, its first fault, the one written text, and printed grids.
use Rattle.std.specs.Prelude.{◌≡◌, zero, suc, ℕ, ◌+◌, ◌-◌, ◌*◌, ◌≤◌, ◌&&◌, List, [], ◌∷◌, ◌++◌, map, length, replicate, slice_index, Result, Ok, Err, nat_le, ◌==◌, if◌then◌else◌, codes, decimal, Option, Some, None, slice_get, ◌≢◌}
use Rattle.std.specs.List.{AllByRecursion, flat_map}
use Rattle.gameid_core.specs.declared.id.fault.IdFault.{IdFault}
use Rattle.gameid_core.specs.declared.id.fault.IdFault.TheVariants.{BadByte}
use Rattle.gameid_core.specs.declared.id.game.Game.TheVariants as game
use Rattle.gameid_core.specs.declared.light_up.cell.LightCell.{LightCell}
use Rattle.gameid_core.specs.declared.light_up.cell.LightCell.TheVariants.{White, Black, Numbered}
use Rattle.gameid_core.specs.Words.{begins, bytes_of, is_byte}
use Rattle.gameid_core.specs.Steps.{fill_end, fill_step, first_that_holds, is_letter, reading, ◌>>=◌}
use Rattle.gameid_core.specs.Head.{HeadRead, extent_of, max_id}
use Rattle.gameid_core.specs.IdTexts.{IsSizeText, puzzle_read, size_text}
use Rattle.gameid_core.specs.Puzzles.{Light, IsLight}

-- ---- What a text spells

pub data LightToken : Type 0 where
  whites : ℕ → LightToken
  black : LightToken
  numbered : ℕ → LightToken

-- a letter for 1 to 26 white cells, 'B', or a digit
abbrev pub light_token_byte : LightToken → ℕ
light_token_byte (whites k) = 96 + k
light_token_byte black = 66
light_token_byte (numbered n) = 48 + n

abbrev pub light_token_cells : LightToken → List LightCell
light_token_cells (whites k) = replicate k White
light_token_cells black = Black ∷ []
light_token_cells (numbered n) = Numbered n ∷ []

abbrev pub IsLightToken : LightToken → Type 0
IsLightToken (whites k) = (1 ≤ k) × (k ≤ 26)
IsLightToken black = Unit {0}
IsLightToken (numbered n) = n ≤ 4

pub record SpellsLight (text : List ℕ) (p : Light) : Type 0 where
  pub short : length text ≤ max_id
  pub puzzle : IsLight p
  pub front : List ℕ
  pub tokens : List LightToken
  pub parts : text ≡ front ++ 58 ∷ map light_token_byte tokens
  pub size : IsSizeText front p.size.w p.size.h
  pub each : AllByRecursion IsLightToken tokens
  pub cells : flat_map light_token_cells tokens ≡ p.cells

-- ---- Which text is written

-- a letter directly before a letter is 'z'
abbrev pub AreFullLights : List LightToken → Type 0
AreFullLights [] = Unit {0}
AreFullLights (whites j ∷ whites k ∷ tokens) = (j ≡ 26) × AreFullLights (whites k ∷ tokens)
AreFullLights (token ∷ tokens) = AreFullLights tokens

-- the text spells the puzzle, with both numbers of the size and with no letter more than is needed
pub record IsWrittenLight (text : List ℕ) (p : Light) : Type 0 where
  pub spells : SpellsLight text p
  pub both : spells.front ≡ size_text p.size.w p.size.h
  pub full : AreFullLights spells.tokens

-- ---- The first fault

-- the cells of a token, which is one byte, or its fault
unfoldable pub light_token : ℕ → List ℕ → Result (List LightCell) IdFault
light_token at word =
    first_that_holds (
    (begins is_letter word, Ok (replicate (slice_index word 0 - 96) White))
    ∷ (begins (is_byte 66) word, Ok (Black ∷ []))
    ∷ (begins (λ b. nat_le 48 b && nat_le b 52) word, Ok (Numbered (slice_index word 0 - 48) ∷ []))
    ∷ []) (Err (BadByte at))

abbrev pub light_cells_at : ℕ → ℕ → List ℕ → Result (List LightCell) IdFault
light_cells_at all at description =
    reading (fill_step light_token all) (fill_end all) at [] (bytes_of description)

-- the puzzle that the description spells behind a head, or its first fault
abbrev pub light_behind : HeadRead → List ℕ → Result Light IdFault
light_behind head description = do
  cells ← light_cells_at (head.size.w * head.size.h) head.description description
  Ok (record { size = extent_of head.size; cells = cells })

-- the puzzle that the text spells, or its first fault
abbrev pub light_of : List ℕ → Result Light IdFault
light_of text = puzzle_read game.LightUp light_behind text

-- ---- The written text

-- a letter for so many white cells before other tokens, and none for no cell
abbrev pub whites_before : ℕ → List LightToken → List LightToken
whites_before zero tokens = tokens
whites_before (suc k) tokens = whites (suc k) ∷ tokens

-- the tokens of the cells, with k white cells before them
unfoldable pub light_tokens : ℕ → List LightCell → List LightToken
light_tokens k [] = whites_before k []
light_tokens k (White ∷ cells) =
    if k == 26 then whites 26 ∷ light_tokens 1 cells else light_tokens (k + 1) cells
light_tokens k (Black ∷ cells) = whites_before k (black ∷ light_tokens 0 cells)
light_tokens k (Numbered n ∷ cells) = whites_before k (numbered n ∷ light_tokens 0 cells)

abbrev pub light_cells_text : ℕ → List LightCell → List ℕ
light_cells_text k cells = map light_token_byte (light_tokens k cells)

abbrev pub light_text : Light → List ℕ
light_text p = size_text p.size.w p.size.h ++ 58 ∷ light_cells_text 0 p.cells

-- ---- Printed grids

-- Light Up: 'O' a bulb, '.' a white cell without one, '#' a black cell without a number, its number
-- else
abbrev pub light_symbol : Option LightCell → ℕ → List ℕ
light_symbol None value = []
light_symbol (Some White) value = if value == 1 then codes "O" else codes "."
light_symbol (Some Black) value = codes "#"
light_symbol (Some (Numbered n)) value = decimal n

abbrev pub light_cell : Light → List ℕ → ℕ → List ℕ
light_cell p g place = light_symbol (slice_get p.cells place) (slice_index g place)

-- what is printed of a black cell shows nothing of the number
abbrev pub light_hides : Light → ℕ → Type 0
light_hides p place = slice_get p.cells place ≢ Some White

-- ---- Words of the writer's functions

-- the byte that a black cell is written with
abbrev pub IsBlackByte : ℕ → LightCell → Type 0
IsBlackByte b White = ⊥
IsBlackByte b Black = b ≡ 66
IsBlackByte b (Numbered n) = b ≡ 48 + n
