-- How the grids of a puzzle are printed and read, by the ghost members of `Printed`.
use Rattle.std.specs.Prelude.{◌≡◌, ◌+◌, ◌*◌, ◌++◌, ℕ, List, Option, Some, MatchOption, length, slice_index}
use Rattle.std.specs.Borrow.{Bor}
use Rattle.gameid_core.specs.declared.grids.printed.Printed as printed
use Rattle.gameid_core.specs.Common.{AgreeUpTo, FitUpTo, Follows, IsAsShown, IsGrid, IsPrinted, IsReadOf, grid_text, row_text}

module _ {P : Type 0} (form : printed.Ghosts P) where
  -- a list of a value for each cell of the puzzle's grids
  abbrev pub IsGridIn : P → List ℕ → Type 0
  IsGridIn p g = IsGrid ((form.extent p).w * (form.extent p).h) (form.value_count p) g

  -- what is printed of a grid
  abbrev pub printed_grid : P → List ℕ → List ℕ
  printed_grid p g = grid_text (form.cell_text p g) (form.extent p)

-- where what is printed at some places, those that hide, shows nothing of the numbers there
module _ {P : Type 0} (form : printed.Ghosts P) (hides : P → ℕ → Type 0) (p : P) where
  -- a grid of the puzzle that holds 0 at these places
  abbrev pub IsShownIn : List ℕ → Type 0
  IsShownIn g = IsAsShown (hides p) (form.value_count p) (form.extent p) g

  -- of a text that begins with what is printed at the place, and goes on as it may: the number, and how many bytes that is
  abbrev pub IsCellRead : ℕ → List ℕ → Option (ℕ × ℕ) → Type 0
  IsCellRead place text result = (g : List ℕ) (after : List ℕ) → IsShownIn g
      → Follows (form.cell_text p g) (form.extent p) place after → text ≡ form.cell_text p g place ++ after
      → result ≡ Some (slice_index g place, length (form.cell_text p g place))

  -- where the rows before the y-th fit, that row fits too
  abbrev pub IsRowFit : ℕ → List ℕ → List ℕ → Type 0
  IsRowFit y old new = FitUpTo (hides p) (form.value_count p) old (y * (form.extent p).w)
      → FitUpTo (hides p) (form.value_count p) new ((y + 1) * (form.extent p).w)

  -- a text that begins with the row of a grid whose rows before it are read: the row is read, and what follows it is left
  abbrev pub IsRowRead : ℕ → List ℕ → List ℕ → List ℕ → Option (Bor (List ℕ)) → Type 0
  IsRowRead y text old new rest = (g : List ℕ) (more : List ℕ) → IsShownIn g
      → text ≡ row_text (form.cell_text p g) (form.extent p) y ++ more
      → AgreeUpTo old g (y * (form.extent p).w)
      → MatchOption rest ⊥ (λ rest. rest.now ≡ more) × AgreeUpTo new g ((y + 1) * (form.extent p).w)

  -- the grid, if the text begins with what is printed of one
  abbrev pub IsCandidate : List ℕ → Option (List ℕ) → Type 0
  IsCandidate text found = (g : List ℕ) (more : List ℕ) → IsShownIn g
      → text ≡ grid_text (form.cell_text p g) (form.extent p) ++ more → found ≡ Some g

  -- the one grid whose printed form the text is, with or without its last line end; or there is none
  abbrev pub IsGridRead : List ℕ → Option (List ℕ) → Type 0
  IsGridRead text found = IsReadOf (hides p) (form.value_count p) (form.extent p)
      (λ g. IsPrinted text (grid_text (form.cell_text p g) (form.extent p))) found
