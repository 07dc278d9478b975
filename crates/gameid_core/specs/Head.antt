-- The part of an ID before its colon.
use Rattle.std.specs.Prelude.{◌≡◌, ℕ, ◌+◌, ◌*◌, min, Bool, false, ◌&&◌, List, Option, Some, None, take, drop, length, position, Result, Ok, Err, nat_lt, nat_le, ◌==◌, if◌then◌else◌}
use Rattle.std.specs.Borrow.{Bor}
use Rattle.std.specs.List.{list_any}
use Rattle.grid_core.specs.Extent.{Extent, max_side}
use Rattle.gameid_core.specs.declared.id.fault.IdFault.{IdFault}
use Rattle.gameid_core.specs.declared.id.fault.IdFault.TheVariants.{TooLong, SeedId, NoColon, BadSize, Variant, SizeRange}
use Rattle.gameid_core.specs.declared.id.game.Game.{Game}
use Rattle.gameid_core.specs.declared.id.game.Game.TheVariants.{Solo, Pattern, LightUp, Tents}
use Rattle.gameid_core.specs.declared.id.head.Head.{Head}
use Rattle.gameid_core.specs.declared.id.head.SidesRead.{SidesRead}
pub use Rattle.gameid_core.specs.declared.id.head.SizeRead.{SizeRead}
use Rattle.gameid_core.specs.Steps.{◌>>=◌}
use Rattle.gameid_core.specs.Words.{begins, is_lead, digits_front, after_digits, value}

-- a number without a leading zero, and the text after it
unfoldable pub side_at : List ℕ → Result (ℕ × List ℕ) IdFault
side_at text =
    if begins is_lead text
    then Ok (value (digits_front text), after_digits text)
    else Err BadSize

-- a size by its sides, and by whether an 'x' stands after them, which is Solo X
abbrev pub size_read : ℕ → ℕ → Bool → SizeRead
size_read w h x = record { w = w; h = h; x = x }

-- the size, and the place where the description begins
pub record HeadRead : Type 0 where
  pub size : SizeRead
  pub description : ℕ

-- what a text that begins with a size holds of it, and the text after it
pub record Sides : Type 0 where
  pub w : ℕ
  pub h : ℕ
  pub x : Bool
  pub rest : List ℕ

-- after two numbers: in Solo an 'x' there is part of the size
abbrev pub has_x : Game → List ℕ → Bool
has_x Solo after = begins (λ b. b == 120) after
has_x game after = false

abbrev pub two_sides : Game → ℕ → ℕ → List ℕ → Sides
two_sides game w h after = record {
  w = w;
  h = h;
  x = has_x game after;
  rest = if has_x game after then drop 1 after else after;
}

-- a size is a number, or two with an 'x' between them, in Solo also with an 'x' after them
unfoldable pub sides_at : Game → List ℕ → Result Sides IdFault
sides_at game text = do
  first ← side_at text
  if begins (λ b. b == 120) first.1 then (do
    second ← side_at (drop 1 first.1)
    Ok (two_sides game first.0 second.0 second.1))
      else Ok (record { w = first.0; h = first.0; x = false; rest = first.1 })

-- the most bytes of an ID
abbrev pub max_id : ℕ
max_id = 65536

-- the most numbers of a game of Solo
abbrev pub max_numbers : ℕ
max_numbers = 31

-- the game's limits
abbrev pub in_range : Game → ℕ → ℕ → Bool
in_range Solo c r = nat_le 2 c && nat_le 2 r && nat_le (c * r) max_numbers
in_range Pattern w h = nat_le 1 w && nat_le 1 h && nat_le w max_side && nat_le h max_side
in_range LightUp w h = nat_le 2 w && nat_le 2 h && nat_le w max_side && nat_le h max_side
in_range Tents w h = nat_le 2 w && nat_le 2 h && nat_le w max_side && nat_le h max_side

-- the size that the whole text is, or the first test that it fails
unfoldable pub size_of : Game → List ℕ → Result SizeRead IdFault
size_of game text = do
  s ← sides_at game text
  if nat_lt 0 (length s.rest) then Err Variant
      else (if in_range game s.w s.h then Ok (record { w = s.w; h = s.h; x = s.x })
      else Err SizeRange)

-- the columns and rows of cells, in each game but Solo
abbrev pub extent_of : SizeRead → Extent
extent_of size = record { w = size.w; h = size.h }

-- a '#' stands in the text
abbrev pub has_hash : List ℕ → Bool
has_hash text = list_any (λ b. b == 35) text

-- the size before the colon at that place, and the place of the description
unfoldable pub head_at : Game → List ℕ → Option ℕ → Result HeadRead IdFault
head_at game text None = if has_hash text then Err SeedId else Err NoColon
head_at game text (Some colon) =
    if has_hash (take colon text) then Err SeedId
    else (size_of game (take colon text)
    >>= (λ size. Ok (record { size = size; description = colon + 1 })))

-- the first six tests in their order: the size, and the place of the description
unfoldable pub head_of : Game → List ℕ → Result HeadRead IdFault
head_of game text =
    if nat_lt max_id (length text) then Err TooLong
    else head_at game text (position (λ b. b == 58) text)

-- What the code's functions give: a number over 1000 as 1000.
abbrev pub head_read : Head → HeadRead
head_read head = record { size = head.size; description = head.description }

abbrev pub GivesSide : Result (ℕ × Bor (List ℕ)) IdFault → Result (ℕ × List ℕ) IdFault → Type 0
GivesSide (Ok x) read = (n : ℕ) × (read ≡ Ok (n, x.1.now)) × (x.0 ≡ min 1000 n)
GivesSide (Err e) read = read ≡ Err e

abbrev pub GivesSides : Result SidesRead IdFault → Result Sides IdFault → Type 0
GivesSides (Ok s) read =
    (m n : ℕ) × (read ≡ Ok (record { w = m; h = n; x = s.x; rest = s.rest.now }))
    × (s.w ≡ min 1000 m) × (s.h ≡ min 1000 n)
GivesSides (Err e) read = read ≡ Err e
