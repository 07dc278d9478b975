-- Lists that are cut into pieces: where each piece ends stands in another list.
use Rattle.std.specs.Prelude.{ℕ, ◌≤◌, List, [], ◌∷◌}
use Rattle.std.specs.List.{between}

-- the pieces of a list, each from where the one before ends
abbrev pub pieces : List ℕ → ℕ → List ℕ → List (List ℕ)
pieces xs from [] = []
pieces xs from (end ∷ ends) = between from end xs ∷ pieces xs end ends

-- where the last piece ends
abbrev pub last_end : ℕ → List ℕ → ℕ
last_end from [] = from
last_end from (end ∷ ends) = last_end end ends

-- the ends ascend, up to n at most
abbrev pub AreEnds : ℕ → ℕ → List ℕ → Type 0
AreEnds n from [] = from ≤ n
AreEnds n from (end ∷ ends) = (from ≤ end) × AreEnds n end ends
