use Rattle.pattern_core.proofs.Common.{along, any_below, drop, leads, line_numbers, ◌&&◌, ◌≡◌, slots_of}
use Rattle.pattern_core.proofs.meets.meets.Given as goal

abbrev pub invariant-loop-k : goal.invariant-loop-k
invariant-loop-k g l =
    let t = along (slots_of g.P.Word.bits) l.steps in let cells = line_numbers l.size l.grid l.line in
    any_below (λ p. slots_of g.P.Word.bits l.reached p && leads t p (drop l.k cells)) g.P.Word.room ≡ leads t 0 cells
