use Rattle.pattern_core.proofs.Common.{List, Spells, drop, spelled, ℕ, ◌++◌, ◌≡◌, slots_of}
use Rattle.pattern_core.proofs.track.spell.Given as goal

abbrev pub invariant-loop-k : goal.invariant-loop-k
invariant-loop-k g l = (front : List ℕ) × (front ++ spelled (drop l.k l.clue) ≡ spelled l.clue) × Spells (slots_of g.P.Word.bits) front l.cells
