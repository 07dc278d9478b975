-- Laws of lists that are cut into pieces.
use Rattle.grid_core.proofs.Common.{List, [], ap, arith, between, common_steps, get_or, length, refl, suc, take-append-le, zero, ℕ, ◌++◌, ◌<◌, ◌∷◌, ◌≡◌, ◌≤◌}
use Rattle.std.proofs.lemmas.Slice.{between_is}
use Rattle.grid_core.specs.Pieces.{AreEnds, last_end, pieces}

pub last-le : (n from : ℕ) (ends : List ℕ) → AreEnds n from ends → (from ≤ last_end from ends) × (last_end from ends ≤ n)
last-le n from [] e = (omega arith, e)
last-le n from (end ∷ ends) (le, e) = let w = last-le n end ends e in let a = w.0 in (omega arith, w.1)

pub ends-more : (n m from : ℕ) (ends : List ℕ) → n ≤ m → AreEnds n from ends → AreEnds m from ends
ends-more n m from [] le e = omega arith
ends-more n m from (end ∷ ends) le (low, e) = (low, ends-more n m end ends le e)

pub ends-close : (n from : ℕ) (ends : List ℕ) → AreEnds n from ends → AreEnds n from (ends ++ n ∷ [])
ends-close n from [] e = (e, omega arith)
ends-close n from (end ∷ ends) (low, e) = (low, ends-close n end ends e)

pub last-close : (from end : ℕ) (ends : List ℕ) → last_end from (ends ++ end ∷ []) ≡ end
last-close from end [] = refl
last-close from end (e ∷ ends) = last-close e end ends

pub pieces-close : (xs : List ℕ) (from end : ℕ) (ends : List ℕ)
    → pieces xs from (ends ++ end ∷ []) ≡ pieces xs from ends ++ between (last_end from ends) end xs ∷ []
pieces-close xs from end [] = refl
pieces-close xs from end (e ∷ ends) = ap (λ ps. between from e xs ∷ ps) (pieces-close xs e end ends)

pub length-pieces : (xs : List ℕ) (from : ℕ) (ends : List ℕ) → length (pieces xs from ends) ≡ length ends
length-pieces xs from [] = refl
length-pieces xs from (e ∷ ends) = ap suc (length-pieces xs e ends)

pub pieces-more : (xs ys : List ℕ) (from : ℕ) (ends : List ℕ) → AreEnds (length xs) from ends → pieces (xs ++ ys) from ends ≡ pieces xs from ends
pieces-more xs ys from [] e = refl
pieces-more xs ys from (end ∷ ends) (low, e) = grind (arith, common_steps, between_is, last-le, take-append-le, pieces-more xs ys end ends)

pub piece-at : (xs : List ℕ) (from : ℕ) (ends : List ℕ) (k : ℕ) → k < length ends
    → get_or (pieces xs from ends) k [] ≡ between (get_or (from ∷ ends) k 0) (get_or ends k 0) xs
piece-at xs from [] k lt = absurd (omega arith)
piece-at xs from (end ∷ ends) zero lt = refl
piece-at xs from (end ∷ ends) (suc k) lt = piece-at xs end ends k (omega arith)

pub piece-ends : (n from : ℕ) (ends : List ℕ) (k : ℕ) → AreEnds n from ends → k < length ends
    → (get_or (from ∷ ends) k 0 ≤ get_or ends k 0) × (get_or ends k 0 ≤ n)
piece-ends n from [] k e lt = absurd (omega arith)
piece-ends n from (end ∷ ends) zero (low, e) lt = let w = last-le n end ends e in let a = w.0 in let b = w.1 in (low, omega arith)
piece-ends n from (end ∷ ends) (suc k) (low, e) lt = piece-ends n end ends k e (omega arith)
