use Rattle.maker_core.proofs.Common.{map, take, ◌*◌, ◌++◌, ◌+◌, ◌≡◌}
use Rattle.maker_core.proofs.solo.filling.push_group.Given as goal

abbrev pub invariant-loop-k : goal.invariant-loop-k
invariant-loop-k g l = l.lines.items ≡ l.fn.lines.items ++ map (λ line. l.group * l.size + line) (take l.k l.inside.items)
