use Rattle.grid_core.proofs.Common.{arith}
use Rattle.grid_core.proofs.PairingLemmas.{room_for_left, AreLeftsReached-write, view-write}
use Rattle.grid_core.proofs.frontier.Frontier.push.Goals as goal

pub index_mut-requires-2 : goal.index_mut-requires-2
index_mut-requires-2 c =
    let room = room_for_left _ _ c.self.view_is c.self.invariant.3 (omega arith) (omega arith) c.requires.left_in c.requires.new in
    omega arith

pub index_mut-requires-3 : goal.index_mut-requires-3
index_mut-requires-3 c =
    let room = room_for_left _ _ c.self.view_is c.self.invariant.3 (omega arith) (omega arith) c.requires.left_in c.requires.new in
    omega arith

pub invariant_of-self : goal.invariant_of-self
invariant_of-self c =
    let old = c.self.invariant in
    let room = room_for_left _ _ c.self.view_is old.3 (omega arith) (omega arith) c.requires.left_in c.requires.new in (
      omega arith,
      old.1,
      old.2,
      AreLeftsReached-write _ _ c.self.view_is old.3 (omega arith) (omega arith) c.requires.left_in c.requires.new (omega arith),
    )

pub returns : goal.returns
returns c =
    let room = room_for_left _ _ c.self.view_is c.self.invariant.3 (omega arith) (omega arith) c.requires.left_in c.requires.new in
    view-write _ _ _ _ c.args.left c.args.parent c.self.view_is (omega arith) (omega arith)
