-- Tents: what the text of a game ID spells, its first fault, the one written text, and printed grids.
use Rattle.std.specs.Prelude.{String, string_bytes, ◌≡◌, ℕ, zero, suc, ◌+◌, ◌-◌, ◌*◌, ◌≤◌, Bool, true, false, ◌&&◌, List, [], ◌∷◌, ◌++◌, map, take, drop, length, replicate, slice_index, Result, Ok, Err, nat_lt, nat_le, ◌==◌, if◌then◌else◌, decimal, codes}
use Rattle.std.specs.List.{AllByRecursion, flat_map}
use Rattle.grid_core.specs.Extent.{Extent}
use Rattle.gameid_core.specs.declared.id.fault.IdFault.{IdFault}
use Rattle.gameid_core.specs.declared.id.fault.IdFault.TheVariants.{BadByte, NumberRange, TooFew, TooMany}
use Rattle.gameid_core.specs.declared.id.game.Game.TheVariants as game
use Rattle.gameid_core.specs.Words.{IsNumeral, IsPlain, begins, is_byte, words, value}
use Rattle.gameid_core.specs.Steps.{◌>>=◌, first_that_holds, reading}
use Rattle.gameid_core.specs.Head.{HeadRead, extent_of, max_id}
use Rattle.gameid_core.specs.IdTexts.{IsSizeText, puzzle_read, size_text}
use Rattle.grid_core.specs.Lines.{line_cells, lines_of}
use Rattle.gameid_core.specs.Puzzles.{Tents, IsTents, tents_puzzle}

-- ---- What a text spells

pub data TentsToken : Type 0 where
  blanks_and_tree : ℕ → TentsToken
  only_blanks : TentsToken

-- '_' for a tree, a letter to 'y' for 1 to 25 blanks and a tree, or 'z' for 25 blanks and no tree
abbrev pub tents_token_byte : TentsToken → ℕ
tents_token_byte (blanks_and_tree k) = if k == 0 then 95 else 96 + k
tents_token_byte only_blanks = 122

abbrev pub tents_token_cells : TentsToken → List ℕ
tents_token_cells (blanks_and_tree k) = replicate k 0 ++ 1 ∷ []
tents_token_cells only_blanks = replicate 25 0

abbrev pub IsTentsToken : TentsToken → Type 0
IsTentsToken (blanks_and_tree k) = k ≤ 25
IsTentsToken only_blanks = Unit {0}

-- the tokens stand for the cells and one tree after them; then each line's number comes behind a
-- ','
pub record SpellsTents (text : List ℕ) (p : Tents) : Type 0 where
  pub short : length text ≤ max_id
  pub puzzle : IsTents p
  pub front : List ℕ
  pub tokens : List TentsToken
  pub numerals : List (List ℕ)
  pub parts : text
      ≡ front ++ 58 ∷ (map tents_token_byte tokens ++ flat_map (λ numeral. 44 ∷ numeral) numerals)
  pub size : IsSizeText front p.size.w p.size.h
  pub each : AllByRecursion IsTentsToken tokens
  pub digits : AllByRecursion IsNumeral numerals
  pub cells : flat_map tents_token_cells tokens ≡ p.trees ++ 1 ∷ []
  pub counts : map value numerals ≡ p.counts

-- ---- Which text is written

-- no 'z' stands directly before '_'
abbrev pub AreTight : List TentsToken → Type 0
AreTight [] = Unit {0}
AreTight (only_blanks ∷ blanks_and_tree zero ∷ tokens) = ⊥
AreTight (token ∷ tokens) = AreTight tokens

-- the text spells the puzzle, with both numbers of the size, no 'z' before '_' and no leading zero
pub record IsWrittenTents (text : List ℕ) (p : Tents) : Type 0 where
  pub spells : SpellsTents text p
  pub both : spells.front ≡ size_text p.size.w p.size.h
  pub tight : AreTight spells.tokens
  pub plain : AllByRecursion IsPlain spells.numerals

-- ---- The first fault

-- what was read so far: the cells, with the tree after them where that is read, and the numbers
pub record TentsSoFar : Type 0 where
  pub cells : List ℕ
  pub counts : List ℕ

-- these cells and numbers
abbrev pub at_tents : List ℕ → List ℕ → TentsSoFar
at_tents cells counts = record { cells = cells; counts = counts }

abbrev pub cells_in : Extent → ℕ
cells_in size = size.w * size.h

-- the blanks that a byte of the trees stands for, and whether a tree follows them
unfoldable pub tents_run : ℕ → ℕ → Result (ℕ × Bool) IdFault
tents_run at b =
    first_that_holds (
    (b == 95, Ok (0, true))
    ∷ (nat_le 97 b && nat_le b 121, Ok (b - 96, true))
    ∷ (b == 122, Ok (25, false))
    ∷ []) (Err (BadByte at))

abbrev pub run_cells : ℕ → Bool → List ℕ
run_cells blanks tree = replicate blanks 0 ++ (if tree then 1 ∷ [] else [])

-- a token of the trees: one with a tree may pass the grid by one, the tree after it
unfoldable pub tents_tree : Extent → ℕ → TentsSoFar → ℕ → Result TentsSoFar IdFault
tents_tree size at s b = tents_run at b >>= (λ run.
    if nat_lt (cells_in size + (if run.1 then 1 else 0))
    (length s.cells + length (run_cells run.0 run.1)) then Err TooMany
    else Ok (record { cells = s.cells ++ run_cells run.0 run.1; counts = s.counts }))

-- a ',' and a line's number
unfoldable pub tents_count : Extent → ℕ → TentsSoFar → List ℕ → Result ℕ IdFault
tents_count size at s word =
    first_that_holds (
    (nat_lt (length s.cells) (cells_in size + 1), Err TooFew)
    ∷ (length s.counts == lines_of size, Err TooMany)
    ∷ (length word == 1, Err (BadByte at))
    ∷ (nat_lt (line_cells size (length s.counts)) (value (drop 1 word)), Err (NumberRange (at + 1)))
    ∷ []) (Ok (value (drop 1 word)))

-- ',' begins a number; any other token belongs to the trees, and is refused once a number stands
abbrev pub tents_step : Extent → ℕ → TentsSoFar → List ℕ → Result TentsSoFar IdFault
tents_step size at s word =
    first_that_holds ((
      begins (is_byte 44) word,
      tents_count size at s word
          >>= (λ n. Ok (record { cells = s.cells; counts = s.counts ++ n ∷ [] })),
    )
    ∷ (nat_lt 0 (length s.counts), Err (BadByte at))
    ∷ []) (tents_tree size at s (slice_index word 0))

abbrev pub tents_end : Extent → TentsSoFar → Result TentsSoFar IdFault
tents_end size s = if length s.counts == lines_of size then Ok s else Err TooFew

abbrev pub nothing_read : TentsSoFar
nothing_read = record { cells = []; counts = [] }

-- the cells and numbers of a description that begins at that place
abbrev pub tents_at : Extent → ℕ → List ℕ → Result TentsSoFar IdFault
tents_at size at description =
    reading (tents_step size) (tents_end size) at nothing_read (words description)

-- the puzzle that the description spells behind a head, or its first fault
abbrev pub tents_behind : HeadRead → List ℕ → Result Tents IdFault
tents_behind head description = do
  s ← tents_at (extent_of head.size) head.description description
  Ok (tents_puzzle (extent_of head.size) (take (head.size.w * head.size.h) s.cells) s.counts)

-- the puzzle that the text spells, or its first fault
abbrev pub tents_of : List ℕ → Result Tents IdFault
tents_of text = puzzle_read game.Tents tents_behind text

-- ---- The written text

-- the tokens of the cells, with k blanks before them, and of the tree after them
unfoldable pub tents_tokens : ℕ → List ℕ → List TentsToken
tents_tokens k [] = blanks_and_tree k ∷ []
tents_tokens k (zero ∷ cells) =
    if k == 25 then only_blanks ∷ tents_tokens 1 cells else tents_tokens (k + 1) cells
tents_tokens k (suc b ∷ cells) = blanks_and_tree k ∷ tents_tokens 0 cells

-- the text of the cells, with k blanks before them, and of the tree after them
abbrev pub trees_text : ℕ → List ℕ → List ℕ
trees_text k cells = map tents_token_byte (tents_tokens k cells)

abbrev pub tents_text : Tents → List ℕ
tents_text p =
    size_text p.size.w p.size.h
    ++ 58 ∷ (trees_text 0 p.trees ++ flat_map (λ n. 44 ∷ decimal n) p.counts)

-- the blanks before are counted to be so many with one more, whatever cells follow
abbrev pub AddsBlank : {Z : Type 0} → ℕ → ℕ → String Z → String Z → Type 0
AddsBlank blanks k old new = (cells : List ℕ)
    → string_bytes new ++ trees_text k cells ≡ string_bytes old ++ trees_text blanks (0 ∷ cells)

-- ---- Printed grids

-- Tents: 'T' a tree, '^' a tent, '.' any other cell
abbrev pub tents_cell : Tents → List ℕ → ℕ → List ℕ
tents_cell p g place =
    if slice_index p.trees place == 1 then codes "T"
    else (if slice_index g place == 1 then codes "^" else codes ".")

-- what is printed of a tree shows nothing of the number
abbrev pub tent_hides : Tents → ℕ → Type 0
tent_hides p place = slice_index p.trees place ≡ 1
