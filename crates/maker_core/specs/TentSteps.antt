-- What taking a cell leaves of a filling of Tents.
use Rattle.std.specs.Prelude.{◌≡◌, ℕ, List, true, slice_set, ◌⊎◌}
use Rattle.maker_core.specs.Below.{Extent, Stream, has_place}
use Rattle.maker_core.specs.declared.tents.filling.TentFilling.{TentFilling}
use Rattle.maker_core.specs.Draws.{IsDrawnBy}
use Rattle.maker_core.specs.TentMaking.{free_cells_beside, may_have_tent, take_cell, tents_of_order}

-- a tent in the cell and a tree in a free cell beside it
pub record IsTentPlaced (size : Extent) (old : TentFilling) (c : ℕ) (new : TentFilling) : Type 0 where
  pub may : may_have_tent size old c ≡ true
  pub tree : ℕ
  pub free : has_place (free_cells_beside size old c) tree ≡ true
  pub trees : new.trees ≡ slice_set old.trees tree 1
  pub tents : new.tents ≡ slice_set old.tents c 1

-- the cell is taken by what a generator's stream gives; and the cells of an order are, in turn
abbrev pub IsCellTaken : {G : Type 0}
    → Extent → ℕ → TentFilling → TentFilling → (G → Stream) → G → G → Type 0
IsCellTaken size c old new stream before after =
    IsDrawnBy (take_cell size old c) stream before after new

abbrev pub AreTaken : {G : Type 0}
    → Extent → List ℕ → TentFilling → (G → Stream) → G → G → Type 0
AreTaken size order new stream before after =
    IsDrawnBy (tents_of_order size order) stream before after new

-- the filling is as it was, or has a tent more
abbrev pub IsTentTaken : Extent → TentFilling → ℕ → TentFilling → Type 0
IsTentTaken size old c new = (new ≡ old) ⊎ IsTentPlaced size old c new
