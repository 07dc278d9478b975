-- Light Up: its texts, and the written one.
use Rattle.gameid_core.specs.Common.{AllByRecursion, Black, Extent, Gives, HasOneReading, HasOneText, IdFault, IsExtent, IsLight, IsLightCell, IsWide, Light, LightCell, List, Numbered, Ok, Result, White, [], ap, arith, common_steps, concat, extent_of, false, fill_end, fill_step, flat_map, get_or, in_range, inl, length, map, max_id, max_side, nat_tests, reading, refl, replicate, size_text, suc, sym, true, zero, ℕ, ◌*◌, ◌++◌, ◌+◌, ◌-◌, ◌<◌, ◌∙◌, ◌∷◌, ◌≡◌, ◌≤◌}
use Rattle.gameid_core.specs.LightText.{AreFullLights, IsLightToken, IsWrittenLight, LightToken, SpellsLight, black, light_behind, light_cells_at, light_cells_text, light_of, light_text, light_token, light_token_byte, light_token_cells, light_tokens, numbered, whites}
use Rattle.gameid_core.proofs.Reading.{Token, cells_again, cells_spelled, concat_bytes, length_decimal, one_text, only_of, reading_of}
use Rattle.gameid_core.proofs.LineLaws.{AllByRecursion-flat_map, AllByRecursion-replicate, all_at}
use Rattle.gameid_core.specs.declared.id.game.Game.TheVariants as game
use Rattle.gameid_core.proofs.HeadLaws.{parts_of, plain_size, puzzle_again}

-- Light Up: reading byte by byte, and that a text is read exactly where it spells a puzzle.
abbrev pub lights : ℕ → ℕ → List LightCell → List ℕ → Result (List LightCell) IdFault
lights all at cells text = reading (fill_step light_token all) (fill_end all) at cells (map (λ b. b ∷ []) text)

pub cells_few : {size : Extent} → IsExtent size → size.w * size.h ≤ max_side * max_side
cells_few h = grind arith

abbrev pub sized : ℕ → ℕ → Extent
sized w h = record { w = w; h = h }

-- ---- a byte that was taken is a token

abbrev light_token_text : LightToken → List ℕ
light_token_text token = light_token_byte token ∷ []

abbrev IsByte : List ℕ → Type 0
IsByte word = length word ≡ 1

abbrev LightWord : List ℕ → List LightCell → Type 0
LightWord word more = Token light_token_text light_token_cells IsLightToken word more

letter_word : (b : ℕ) → 97 ≤ b → b ≤ 122 → LightWord (b ∷ []) (replicate (b - 96) White)
letter_word b low high = record { token = whites (b - 96); texts = grind arith; each = grind arith; stands = refl }

digit_word : (b : ℕ) → 48 ≤ b → b ≤ 52 → LightWord (b ∷ []) (Numbered (b - 48) ∷ [])
digit_word b low high = record { token = numbered (b - 48); texts = grind arith; each = grind arith; stands = refl }

token_byte : (at : ℕ) (word : List ℕ) (more : List LightCell) → IsByte word → light_token at word ≡ Ok more → LightWord word more
unfolding light_token
token_byte at word more one e = grind (arith, common_steps, letter_word (get_or word 0 0), digit_word)

-- ---- what is read is spelled

are_bytes : (text : List ℕ) → AllByRecursion IsByte (map (λ b. b ∷ []) text)
are_bytes [] = tt
are_bytes (b ∷ text) = (omega arith, are_bytes text)

texts_are : (tokens : List LightToken) → map (λ b. b ∷ []) (map light_token_byte tokens) ≡ map light_token_text tokens
texts_are [] = refl
texts_are (token ∷ tokens) = grind (arith, texts_are tokens)

record LightDescribed (all : ℕ) (description : List ℕ) (cells : List LightCell) : Type 0 where
  tokens : List LightToken
  parts : description ≡ map light_token_byte tokens
  each : AllByRecursion IsLightToken tokens
  filled : flat_map light_token_cells tokens ≡ cells
  count : length cells ≡ all

light_take : (all at : ℕ) (description : List ℕ) (cells : List LightCell) → light_cells_at all at description ≡ Ok cells → LightDescribed all description cells
light_take all at description cells e =
    let s =
    cells_spelled light_token_text light_token_cells IsLightToken light_token IsByte token_byte
    all at [] (map (λ b. b ∷ []) description) cells (are_bytes description) e in
    let r = s.0 in
    let parts : description ≡ map light_token_byte r.tokens =
    sym (concat_bytes description) ∙ ap concat (sym r.texts ∙ sym (texts_are r.tokens))
    ∙ concat_bytes (map light_token_byte r.tokens) in
    record { tokens = r.tokens; parts = parts; each = r.each; filled = r.filled; count = s.1 }

-- ---- what is read fits

token_fits : (token : LightToken) → IsLightToken token → AllByRecursion IsLightCell (light_token_cells token)
token_fits (whites k) h = AllByRecursion-replicate IsLightCell White k tt
token_fits black h = (tt, tt)
token_fits (numbered n) h = (h, tt)

light_lawful : {w h : ℕ} {cells : List LightCell} (at : ℕ) (description : List ℕ)
    → in_range game.LightUp w h ≡ true → light_cells_at (w * h) at description ≡ Ok cells
    → IsLight (record { size = record { w = w; h = h }; cells = cells })
light_lawful {w = w} {h = h} {cells = cells} at description range e =
    grind (arith, light_take (w * h) at description cells e, AllByRecursion-flat_map IsLightToken IsLightCell light_token_cells token_fits)

pub light_fits : {size : Extent} (w h all at : ℕ) (description : List ℕ) (cells : List LightCell)
    → size ≡ sized w h → all ≡ size.w * size.h → in_range game.LightUp w h ≡ true
    → light_cells_at all at description ≡ Ok cells → IsLight (record { size = size; cells = cells })
light_fits w h all at description cells is count range e = grind (arith, light_lawful {w = w} {h = h} {cells = cells} at description range)

-- ---- what is spelled is read

token_read : (at : ℕ) (token : LightToken) → IsLightToken token → light_token at (light_token_byte token ∷ []) ≡ Ok (light_token_cells token)
unfolding light_token
token_read at token h = grind arith

-- what tokens that fill the grid spell is read
light_again : (all at : ℕ) (tokens : List LightToken) → AllByRecursion IsLightToken tokens
    → length (flat_map light_token_cells tokens) ≡ all
    → light_cells_at all at (map light_token_byte tokens) ≡ Ok (flat_map light_token_cells tokens)
light_again all at tokens each full =
    ap (reading (fill_step light_token all) (fill_end all) at []) (texts_are tokens)
    ∙ cells_again light_token_text light_token_cells IsLightToken light_token token_read
    all at [] tokens each (omega arith)

pub light_takes : (text : List ℕ) (p : Light) → light_of text ≡ Ok p → SpellsLight text p
light_takes text p e =
    let r =
    parts_of game.LightUp text
    (λ head description. light_cells_at (head.size.w * head.size.h) head.description
    description) (λ head cells. record { size = extent_of head.size; cells = cells }) e in
    grind (arith, light_take _ _ _ _ r.read, light_lawful _ _ r.is_head.range r.read, plain_size)

pub light_text_again : (text : List ℕ) (p : Light) → SpellsLight text p → light_of text ≡ Ok p
light_text_again text p s =
    grind (arith, puzzle_again game.LightUp light_behind s.front (map light_token_byte s.tokens) p.size.w p.size.h false s.size, light_again (p.size.w * p.size.h) (length s.front + 1) s.tokens s.each)

pub light_reading : HasOneReading SpellsLight light_of
light_reading = reading_of _ _ light_text_again light_takes

pub ruleset fit = (cells_few, light_fits)

pub light_only : (text : List ℕ) (r : Result Light IdFault) (p : Light) → Gives (λ q. q) r (light_of text) → SpellsLight text p → Gives (λ q. q) r (Ok p)
light_only text r p gives s = only_of _ _ light_text_again text r gives p s

pub ruleset reads_exactly = (light_takes, light_only)

-- The written text of a puzzle of Light Up: its length, that it spells the puzzle, and that no other does.

-- ---- the cells of a puzzle

pub light_at : (cells : List LightCell) (i : ℕ) → AllByRecursion IsLightCell cells → i < length cells → IsLightCell (get_or cells i White)
light_at cells i each lt = grind (arith, common_steps, all_at)

pub ruleset turns = (common_steps, light_at)

-- ---- how long

-- a cell takes at most one byte
cells_short : (k : ℕ) (cells : List LightCell) → length (light_cells_text k cells) ≤ k + length cells
unfolding light_tokens
cells_short k [] = grind (arith, common_steps)
cells_short k (White ∷ cells) = grind (arith, nat_tests, common_steps, cells_short 1 cells, cells_short (k + 1) cells)
cells_short k (Black ∷ cells) = grind (arith, common_steps, cells_short 0 cells)
cells_short k (Numbered n ∷ cells) = grind (arith, common_steps, cells_short 0 cells)

pub light_short : (p : Light) → IsLight p → length (light_text p) ≤ max_id
light_short p h = grind (arith, common_steps, length_decimal, cells_short)

-- ---- what it spells

full_z : (tokens : List LightToken) → AreFullLights tokens → AreFullLights (whites 26 ∷ tokens)
full_z tokens h = grind arith

-- tokens of the written form that stand for those cells
record Form (cells : List LightCell) (tokens : List LightToken) : Type 0 where
  each : AllByRecursion IsLightToken tokens
  full : AreFullLights tokens
  filled : flat_map light_token_cells tokens ≡ cells

tokens_form : (k : ℕ) (cells : List LightCell) → k ≤ 26 → AllByRecursion IsLightCell cells → Form (replicate k White ++ cells) (light_tokens k cells)
unfolding light_tokens
tokens_form k [] few h = grind (arith, common_steps)
tokens_form k (White ∷ cells) few h =
    grind (arith, nat_tests, common_steps, full_z, tokens_form 1 cells, tokens_form (k + 1) cells)
tokens_form k (Black ∷ cells) few h = grind (arith, common_steps, tokens_form 0 cells)
tokens_form k (Numbered n ∷ cells) few h = grind (arith, common_steps, tokens_form 0 cells)

-- the written text has the form of a written text, and so it spells the puzzle
pub light_is_written : (p : Light) → IsLight p → IsWrittenLight (light_text p) p
light_is_written p h =
    let w = tokens_form 0 p.cells (omega arith) h.each in
    record {
      spells = record {
        short = light_short p h;
        puzzle = h;
        front = size_text p.size.w p.size.h;
        tokens = light_tokens 0 p.cells;
        parts = refl;
        size = inl refl;
        each = w.each;
        cells = w.filled;
      };
      both = refl;
      full = w.full;
    }

of_run : (k j : ℕ) (cells : List LightCell) → k + j ≤ 26 → light_tokens k (replicate j White ++ cells) ≡ light_tokens (k + j) cells
unfolding light_tokens
of_run k zero cells le = grind arith
of_run k (suc j) cells le = grind (arith, nat_tests, common_steps, of_run (k + 1) j cells)

-- tokens of the form are those of their cells
form_tokens : (tokens : List LightToken) → AllByRecursion IsLightToken tokens → AreFullLights tokens → light_tokens 0 (flat_map light_token_cells tokens) ≡ tokens
unfolding light_tokens
form_tokens [] each full = refl
form_tokens (whites k ∷ []) each full = grind (arith, common_steps, of_run)
form_tokens (whites k ∷ whites zero ∷ tokens) each full = absurd (omega arith)
form_tokens (whites k ∷ whites (suc j) ∷ tokens) each full =
    grind (arith, common_steps, of_run, form_tokens (whites (suc j) ∷ tokens))
form_tokens (whites k ∷ black ∷ tokens) each full = grind (arith, common_steps, of_run, form_tokens tokens)
form_tokens (whites k ∷ numbered n ∷ tokens) each full = grind (arith, common_steps, of_run, form_tokens tokens)
form_tokens (black ∷ tokens) each full = grind (arith, form_tokens tokens)
form_tokens (numbered n ∷ tokens) each full = grind (arith, form_tokens tokens)

pub light_form : (text : List ℕ) (p : Light) → IsWrittenLight text p → text ≡ light_text p
light_form text p w = grind (arith, form_tokens)

pub light_one_text : HasOneText IsLight IsWrittenLight light_text
light_one_text = record { some = light_is_written; one = one_text _ _ light_form }

pub ruleset laws = (common_steps, light_is_written, light_short)
