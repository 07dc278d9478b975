use Rattle.fields_core.proofs.Common.{length, take, tent, ◌≡◌, ◌≤◌}
use Rattle.fields_core.proofs.RunLemmas.{passing}
use Rattle.fields_core.proofs.tents.pairs.list_tents.Given as goal

abbrev pub invariant-loop-place : goal.invariant-loop-place
invariant-loop-place l = record {
  listed : take l.count l.tents ≡ passing (tent l.grid) l.place;
  few : l.count ≤ l.place;
  as_long : length l.tents ≡ length l.fn.tents;
}
