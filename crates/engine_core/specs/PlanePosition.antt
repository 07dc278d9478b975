-- Planes with their trail as a position. No public contract uses these words.
use Rattle.std.specs.Prelude.{◌≡◌, ℕ, ◌*◌, ◌⊎◌, Option, Some, None, length}
use Rattle.engine_core.specs.Below.{Extent, inl, inr}
use Rattle.grid_core.specs.Planes.{Layers, back_at, planes_have}
use Rattle.engine_core.specs.Needs.{needs_in}
use Rattle.engine_core.specs.PlaneNotes.{HasBoard}
use Rattle.engine_core.specs.Position.{Standing}
use Rattle.engine_core.specs.RuleSystem.{FitsIn, Needs, RuleSystem, needs_of}
use Rattle.engine_core.specs.declared.needs.Needs.{Needs as Counted}
use Rattle.engine_core.specs.declared.planes.lengths.EitherPlanes.{EitherPlanes}
use Rattle.engine_core.specs.declared.planes.lengths.EitherPlanes.TheVariants.{Short, Long}

abbrev pub layers_in : {S L : Type 0} → EitherPlanes S L → Layers
layers_in (Short noted) = noted.planes
layers_in (Long noted) = noted.planes

-- what is kept beside words of 64 places, or beside words of 128
abbrev pub notes_of : {S L : Type 0} → EitherPlanes S L → S ⊎ L
notes_of (Short noted) = inl noted.notes
notes_of (Long noted) = inr noted.notes

-- a word of either
abbrev pub of_either : {S L : Type 0} {T : Type 1} → (S → T) → (L → T) → S ⊎ L → T
of_either short long (inl notes) = short notes
of_either short long (inr notes) = long notes

-- how many places the words have
abbrev pub word_places : {S L : Type 0} → S ⊎ L → ℕ
word_places (inl notes) = 64
word_places (inr notes) = 128

-- where words of 64 places may be too short for rules of these sizes, there are planes of 128 to change for
abbrev pub AreLonger : {S L : Type 0} → (Needs → Type 0) → Needs → Option (EitherPlanes S L) → Type 0
AreLonger all_short made (Some (Long other)) = Unit {0}
AreLonger all_short made (Some (Short other)) = all_short made
AreLonger all_short made None = all_short made

abbrev pub AreEnough : {S L : Type 0} → (Needs → Type 0) → Needs → EitherPlanes S L → Option (EitherPlanes S L) → Type 0
AreEnough all_short made (Long noted) spare = Unit {0}
AreEnough all_short made (Short noted) spare = AreLonger all_short made spare

-- planes with room for each step of a board of so many cells and values
abbrev pub HasSteps : {S L : Type 0} → (S ⊎ L → Needs → Type 0) → Needs → EitherPlanes S L → Type 0
HasSteps fits made planes =
    (length (layers_in planes).takings ≡ made.cells * made.values) × fits (notes_of planes) made

-- planes to change for have the same room
abbrev pub IsSpare : {S L : Type 0} → (S ⊎ L → Needs → Type 0) → Needs → Option (EitherPlanes S L) → Type 0
IsSpare fits made None = Unit {0}
IsSpare fits made (Some planes) = HasSteps fits made planes

-- planes, and those to change for
pub record AreChosen {S L : Type 0} (short : S → Needs → Type 0) (long : L → Needs → Type 0)
    (all_short : Needs → Type 0) (made : Counted) (planes : EitherPlanes S L)
    (spare : Option (EitherPlanes S L)) : Type 0 where
  pub room : HasSteps (of_either short long) (needs_in made) planes
  pub spare_room : IsSpare (of_either short long) (needs_in made) spare
  pub enough : AreEnough all_short (needs_in made) planes spare

-- what the memory was taken for, the planes with their trail, and what is kept beside them
pub record PlacedPlanes (S L : Type 0) : Type 0 where
  pub made : Needs
  pub planes : Layers
  pub kept : S ⊎ L

-- what a walk sees of it
abbrev pub standing_on_planes : {S L : Type 0} → PlacedPlanes S L → Standing
standing_on_planes s = record { board = planes_have s.planes; len = s.planes.len; back = back_at s.planes }

-- a walk is under way, on planes of that size, and what is kept is of the rules
pub record AreUnderWay {S L : Type 0} (p : RuleSystem) (size : Extent) (is_own : S ⊎ L → Type 0)
    (s : PlacedPlanes S L) : Type 0 where
  pub fits : FitsIn (needs_of p) s.made
  pub own : is_own s.kept
  pub board : HasBoard p size (word_places s.kept) s.planes
