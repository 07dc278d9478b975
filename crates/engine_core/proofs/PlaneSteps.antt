-- Planes as a position: what a step leaves.
use Rattle.engine_core.proofs.Common.{AreUnderWay, Candidates, IsAlive, IsInside, IsLawful, IsOnward, List, None, PlacedPlanes, RuleSystem, ap, arith, cases_eq, common_steps, count_below-pos, false_from_ne_true, grid_of, is_dead-each, is_dead-inside, is_dead-not, is_full, length, only, only-here, only-other, pick, word_places, refl, standing_on_planes, sym, true, true≢false, within_inside, ℕ, ◌*◌, ◌<◌, ◌∙◌, ◌≡◌, ◌≤◌, ◌⊎◌}
use Rattle.grid_core.specs.Extent.{Extent}
use Rattle.grid_core.specs.Planes.{IsBack, IsFurther, Layers, back_at, plane_cells, planes_have}
use Rattle.grid_core.proofs.PlaneSteps.{pick-few, pick-none}
use Rattle.engine_core.specs.PlaneNotes.{IsLiveBoard, IsSuited}
use Rattle.engine_core.specs.RuleSystem.{FitsIn, IsClosed, IsClosedGrid, needs_of}
use Rattle.engine_core.proofs.JudgeLemmas.{closed-grid, grid-long}

-- no cell of the first rows can be branched on
pub none-above : (n m : ℕ) (K : Candidates) → m ≤ n → pick n 2 K ≡ None → pick m 2 K ≡ None
none-above n m K le none = pick-none m K (λ c lt. pick-few n K none c (omega arith))

-- of a cell with that value no other is left
leave-alive : (p : RuleSystem) (K : Candidates) (cell v : ℕ) → IsAlive p K → v < p.values → K cell v ≡ true → IsAlive p (only K cell v)
leave-alive p K cell v alive lt on = is_dead-each p.cells p.values (only K cell v) (λ c ltc.
    let here = count_below-pos (only K cell v cell) p.values v lt (only-here K cell v on) in
    grind (arith, common_steps, cases_eq c cell, only-other K cell v c, is_dead-not p.cells p.values K c alive ltc))

-- values were taken
pub step-onward : {S L : Type 0} (s : PlacedPlanes S L) (p' : Layers) (kept : S ⊎ L) → IsFurther s.planes p'
    → IsOnward (standing_on_planes s) (standing_on_planes (record s { planes = p'; kept = kept }))
step-onward s p' kept further = record { inside = further.inside; grows = further.grows; back = further.back }

module _ {S L : Type 0} {p : RuleSystem} {size : Extent} {is_own : S ⊎ L → Type 0} (s : PlacedPlanes S L) where
  -- the planes have another board inside the start, and it has a value in each cell
  walks : (p' : Layers) (kept : S ⊎ L) → AreUnderWay p size is_own s → p'.size ≡ s.planes.size → word_places kept ≡ word_places s.kept → is_own kept
      → IsLiveBoard p (planes_have p') → AreUnderWay p size is_own (record s { planes = p'; kept = kept })
  walks p' kept under same words is board = grind (arith, common_steps, under.fits, under.board.suited, under.board.same_size, under.board.cells)

  -- values were taken
  pub step-walks : (p' : Layers) (kept : S ⊎ L) → AreUnderWay p size is_own s → IsFurther s.planes p' → IsAlive p (planes_have p')
      → word_places kept ≡ word_places s.kept → is_own kept → AreUnderWay p size is_own (record s { planes = p'; kept = kept })
  step-walks p' kept under further alive words is = walks p' kept under further.same_size words is (record {
    alive = alive;
    within = λ c v on. under.board.board.within c v (further.inside c v on);
    inside = λ c v on. under.board.board.inside c v (further.inside c v on);
  })

  pub leave-walks : (p' : Layers) (cell v : ℕ) → AreUnderWay p size is_own s → IsFurther s.planes p' → v < p.values
      → planes_have s.planes cell v ≡ true → planes_have p' ≡ only (planes_have s.planes) cell v → AreUnderWay p size is_own (record s { planes = p' })
  leave-walks p' cell v under further lt on left =
      step-walks p' s.kept under further (rw left (leave-alive p (planes_have s.planes) cell v under.board.board.alive lt on)) refl under.own

  -- the board was taken back, inside the start
  pub undo-walks : (p' : Layers) (m : ℕ) → IsLawful p → AreUnderWay p size is_own s → IsInside (back_at s.planes m) p.start → IsBack s.planes p' m
      → AreUnderWay p size is_own (record s { planes = p' })
  undo-walks p' m laws under start back = grind (arith, common_steps, walks, false_from_ne_true, true≢false, is_dead-inside, within_inside)

  -- a board to begin with
  pub start-walks : IsLawful p → IsAlive p p.start → FitsIn (needs_of p) s.made → s.planes.size ≡ size → size.w * size.h ≡ p.cells
      → IsSuited size (word_places s.kept) → is_own s.kept → planes_have s.planes ≡ p.start → AreUnderWay p size is_own s
  start-walks laws alive fits same few suited is start = record {
    fits = fits;
    own = is;
    board = record {
      suited = suited;
      same_size = same;
      cells = ap (λ (e : Extent). e.w * e.h) same ∙ few;
      board = rw start (record { alive = alive; within = laws.start_within; inside = λ c v on. on });
    };
  }

  -- the grid of a full board
  module _ {grid : List ℕ} (under : AreUnderWay p size is_own s) (two : p.values ≡ 2) (written : grid ≡ grid_of (plane_cells s.planes) 2 (planes_have s.planes)) where
    pub walks-closed : IsLawful p → IsClosed p (planes_have s.planes) → is_full p.cells p.values (planes_have s.planes) ≡ true → IsClosedGrid p grid
    walks-closed laws closed full =
        closed-grid laws under.board.board.within under.board.board.inside closed full under.board.cells (sym two) written

    pub walks-long : length grid ≡ p.cells
    walks-long = grid-long p (planes_have s.planes) grid (plane_cells s.planes) 2 under.board.cells written
