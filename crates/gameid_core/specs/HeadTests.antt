-- The tests of the part before the colon, each in its own words, and their order.
use Rattle.std.specs.Prelude.{◌≡◌, ◌≢◌, ◌⊎◌, ◌↔◌, Result, Err, ℕ, ◌<◌, Bool, true, false, List, [], ◌∷◌, ◌++◌, length, ◌==◌}
use Rattle.std.specs.List.{AllByRecursion}
use Rattle.std.specs.Char.{is_ascii_digit}
use Rattle.std.specs.Str.{all_ascii_digits}
use Rattle.gameid_core.specs.declared.id.fault.IdFault.{IdFault}
use Rattle.gameid_core.specs.declared.id.fault.IdFault.TheVariants.{TooLong, SeedId, NoColon, BadSize, Variant, SizeRange}
use Rattle.gameid_core.specs.declared.id.game.Game.{Game}
use Rattle.gameid_core.specs.declared.id.game.Game.TheVariants.{Solo}
use Rattle.gameid_core.specs.FirstFailed.{IsFirstFailed}
use Rattle.gameid_core.specs.Words.{begins, is_lead, value}
use Rattle.gameid_core.specs.Head.{Sides, in_range, max_id}

-- ---- Of a text

-- the byte stands nowhere in the text
abbrev pub Lacks : ℕ → List ℕ → Type 0
Lacks byte text = AllByRecursion (λ b. b ≢ byte) text

-- the byte stands in the text, with no ':' before it: what stands before it, and what after
pub record Comes (byte : ℕ) (text front rest : List ℕ) : Type 0 where
  pub parts : text ≡ front ++ byte ∷ rest
  pub first : Lacks 58 front

-- the text begins with a number, which is a digit 1 to 9 and all digits that follow
pub record HasNumber (text number rest : List ℕ) : Type 0 where
  pub parts : text ≡ number ++ rest
  pub digits : all_ascii_digits number ≡ true
  pub lead : begins is_lead number ≡ true
  pub all : begins is_ascii_digit rest ≡ false

-- the text begins with a number and no 'x' after it: both sides are that number
pub record HasOneSide (text : List ℕ) (size : Sides) : Type 0 where
  pub side : List ℕ
  pub number : HasNumber text side size.rest
  pub alone : begins (λ c. c == 120) size.rest ≡ false
  pub both : (value side ≡ size.w) × (value side ≡ size.h)
  pub plain : size.x ≡ false

-- what follows two numbers: in Solo an 'x' there is part of the size
abbrev pub HeadGoesOn : Game → List ℕ → Bool → List ℕ → Type 0
HeadGoesOn game after true rest = (game ≡ Solo) × (after ≡ 120 ∷ rest)
HeadGoesOn game after false rest = (game ≡ Solo → begins (λ c. c == 120) after ≡ false) × (after ≡ rest)

-- the text begins with a number, 'x' and a number
pub record HasTwoSides (game : Game) (text : List ℕ) (size : Sides) : Type 0 where
  pub w_digits : List ℕ
  pub h_digits : List ℕ
  pub behind : List ℕ
  pub after : List ℕ
  pub first : HasNumber text w_digits (120 ∷ behind)
  pub second : HasNumber behind h_digits after
  pub goes_on : HeadGoesOn game after size.x size.rest
  pub both : (value w_digits ≡ size.w) × (value h_digits ≡ size.h)

-- the text begins with that size
abbrev pub HasSize : Game → List ℕ → Sides → Type 0
HasSize game text size = HasOneSide text size ⊎ HasTwoSides game text size

-- ---- The tests

-- what fails a text that is to be a size alone: it begins with none, goes on behind it, or is
-- outside the limits
abbrev pub FailsSize : Game → List ℕ → IdFault → Type 0
FailsSize game text BadSize = (size : Sides) → HasSize game text size → ⊥
FailsSize game text Variant = (size : Sides) × HasSize game text size × (0 < length size.rest)
FailsSize game text SizeRange =
    (size : Sides) × HasSize game text size × (in_range game size.w size.h ≡ false)
FailsSize game text fault = ⊥

-- what fails an ID: too many bytes, a '#' with no ':' before it, no ':', or what stands before the
-- first ':'
abbrev pub FailsHead : Game → List ℕ → IdFault → Type 0
FailsHead game text TooLong = max_id < length text
FailsHead game text SeedId = (front rest : List ℕ) × Comes 35 text front rest
FailsHead game text NoColon = Lacks 58 text
FailsHead game text fault =
    (front rest : List ℕ) × Comes 58 text front rest × FailsSize game front fault

-- ---- Their order

abbrev pub size_tests : List IdFault
size_tests = BadSize ∷ Variant ∷ SizeRange ∷ []

abbrev pub head_tests : List IdFault
head_tests = TooLong ∷ SeedId ∷ NoColon ∷ size_tests

-- of each text, what is told is exactly the first of these tests that it fails
abbrev pub TellsFirstFailed : {P : Type 0} → (Game → List ℕ → Result P IdFault)
    → (Game → List ℕ → IdFault → Type 0) → List IdFault → Type 0
TellsFirstFailed told fails tests = (game : Game) (text : List ℕ) (f : IdFault)
    → (told game text ≡ Err f) ↔ IsFirstFailed (fails game text) tests f
