use Rattle.pattern_core.proofs.Common.{List, Spells, length, replicate, suc, ℕ, ◌++◌, ◌+◌, ◌<◌, slots_of}
use Rattle.pattern_core.proofs.track.push_run.Given as goal

abbrev pub invariant-loop-k : goal.invariant-loop-k
invariant-loop-k g l = (cells : List ℕ) → suc (length cells + l._k) < g.P.Word.room
    → Spells (slots_of g.P.Word.bits) cells l.fn.spelling → Spells (slots_of g.P.Word.bits) (cells ++ replicate l._k 1) l.longer
