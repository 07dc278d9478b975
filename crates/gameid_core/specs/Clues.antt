-- Clues, one after another in one list. No public contract uses these words.
use Rattle.std.specs.Prelude.{ℕ, List, drop}
use Rattle.grid_core.specs.Pieces.{last_end, pieces}
use Rattle.gameid_core.specs.PatternText.{SoFar}

-- the clues that are whole, and what is there of the next
unfoldable pub cut_at : List ℕ → List ℕ → SoFar
cut_at ends numbers =
    record { clues = pieces numbers 0 ends; clue = drop (last_end 0 ends) numbers }
