-- Game IDs of any game: a size, a description behind it, and one puzzle for a text.
use Rattle.std.specs.Prelude.{Bool, Err, List, Result, [], decimal, drop, false, true, ℕ, ◌++◌, ◌∷◌, ◌≡◌, ◌⊎◌}
use Rattle.gameid_core.specs.declared.id.fault.IdFault.{IdFault}
use Rattle.gameid_core.specs.declared.id.game.Game.{Game}
use Rattle.gameid_core.specs.Head.{HeadRead, SizeRead, head_of}
use Rattle.gameid_core.specs.Steps.{◌>>=◌}

-- The size before the colon, as a text.

-- 'CxR' or 'WxH'
abbrev pub size_text : ℕ → ℕ → List ℕ
size_text a b = decimal a ++ 120 ∷ decimal b

-- both numbers, or one number for two equal sides
abbrev pub IsSizeText : List ℕ → ℕ → ℕ → Type 0
IsSizeText text a b = (text ≡ size_text a b) ⊎ ((a ≡ b) × (text ≡ decimal a))

-- of Solo: 'CxR', or 'CxRx' where the diagonals, too, hold every number once
abbrev pub solo_size_text : ℕ → ℕ → Bool → List ℕ
solo_size_text c r false = size_text c r
solo_size_text c r true = size_text c r ++ 120 ∷ []

-- with the 'x' both numbers stand before it
abbrev pub IsSoloSizeText : List ℕ → ℕ → ℕ → Bool → Type 0
IsSoloSizeText text c r false = IsSizeText text c r
IsSoloSizeText text c r true = text ≡ solo_size_text c r true

-- Game IDs of any game: a head, and a description behind it.

-- the puzzle that the text spells, or its first fault: the head is read, and then the description
unfoldable pub puzzle_read : {P : Type 0} → Game → (HeadRead → List ℕ → Result P IdFault) → List ℕ
    → Result P IdFault
puzzle_read game behind text =
    head_of game text >>= (λ head. behind head (drop head.description text))

-- the written text of a size and a description
abbrev pub id_text : SizeRead → List ℕ → List ℕ
id_text size description = solo_size_text size.w size.h size.x ++ 58 ∷ description

-- One puzzle for a text, and one text for a puzzle.

-- each text spells exactly one puzzle or has exactly one fault, and never both
pub record HasOneReading {P : Type 0} (spells : List ℕ → P → Type 0)
    (read : List ℕ → Result P IdFault) : Type 0 where
  pub one : (text : List ℕ) (p q : P) → spells text p → spells text q → p ≡ q
  pub apart : (text : List ℕ) (p : P) (f : IdFault) → spells text p → read text ≡ Err f → ⊥
  pub either : (text : List ℕ)
      → ((p : P) × spells text p) ⊎ ((f : IdFault) × (read text ≡ Err f))

-- each lawful puzzle has its written text, and no puzzle has two
pub record HasOneText {P : Type 0} (lawful : P → Type 0) (written : List ℕ → P → Type 0)
    (write : P → List ℕ) : Type 0 where
  pub some : (p : P) → lawful p → written (write p) p
  pub one : (text other : List ℕ) (p : P) → written text p → written other p → text ≡ other
