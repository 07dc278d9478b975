use Rattle.fields_core.proofs.Common.{houses_of_kinds}
use Rattle.fields_core.proofs.KindLemmas.{AreListed, houses_before}
use Rattle.fields_core.proofs.count.names.names_of.Given as goal

abbrev pub invariant-loop-number : goal.invariant-loop-number
invariant-loop-number g l = let p = g.P.CountGame in
    AreListed (p.told l.puzzle) l.names.items (houses_of_kinds (p.told l.puzzle) (p.span_of l.puzzle) p.kind_of l.number)

abbrev pub invariant-loop-place : goal.invariant-loop-place
invariant-loop-place g l = let p = g.P.CountGame in
    AreListed (p.told l.puzzle) l.names.items (houses_before (p.told l.puzzle) (p.span_of l.puzzle) p.kind_of l.number l.place)
