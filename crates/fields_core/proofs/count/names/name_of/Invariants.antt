use Rattle.fields_core.proofs.Common.{houses_of_kinds, length, ◌+◌, ◌≡◌}
use Rattle.fields_core.proofs.KindLemmas.{houses_before}
use Rattle.fields_core.proofs.count.names.name_of.Given as goal

abbrev pub invariant-loop-number : goal.invariant-loop-number
invariant-loop-number g l = let p = g.P.CountGame in
    l.house ≡ length (houses_of_kinds (p.told l.puzzle) (p.span_of l.puzzle) p.kind_of l.number) + l.left

abbrev pub invariant-loop-place : goal.invariant-loop-place
invariant-loop-place g l = let p = g.P.CountGame in
    l.house ≡ length (houses_before (p.told l.puzzle) (p.span_of l.puzzle) p.kind_of l.number l.place) + l.left
