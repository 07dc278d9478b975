use Rattle.solo_core.proofs.Common.{length, true, ◌-◌, ◌≡◌}
use Rattle.solo_core.proofs.OpenListLemmas.{AreLeft, set_below}
use Rattle.solo_core.proofs.SettledLemmas.{AreAllKept, AreStruck}
use Rattle.solo_core.proofs.visits.gather.strike_open.Given as goal

abbrev pub invariant-loop-cell : goal.invariant-loop-cell
invariant-loop-cell l =
    let list = set_below l.house.cells l.values in
    record {
      room : length l.rest ≡ length l.fn.rest;
      left : AreLeft list l.count l.left l.rest;
      struck : AreStruck l.values l.settled l.fn.sets l.sets list l.count l.counts.some l.counts.single l.counts.shared true;
      same : AreAllKept l.had l.house.values → l.sets ≡ l.fn.sets;
    }

abbrev pub decreases-loop-cell : goal.decreases-loop-cell
decreases-loop-cell l = length (set_below l.house.cells l.values) - l.count
