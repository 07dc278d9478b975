use Rattle.fields_core.proofs.Common.{ap₂, arith, kept-inside, striking-more, sym, ◌&&◌, ◌<◌}
use Rattle.grid_core.specs.Board.{has, cells_of}
use Rattle.fields_core.proofs.CountKept.{cell-in, idle-stays, partly-all, partly-more}
use Rattle.fields_core.proofs.RuleLemmas.{same-shape}
use Rattle.fields_core.proofs.count.rules.strike.Goals as goal
use Rattle.fields_core.proofs.count.rules.strike.Goals.{After-place-place}

-- the place is in the board
inside : (c : After-place-place) → c.place-place.result < cells_of c.loop-k.board
inside c =
    rw (sym c.loop-k.invariant.shape.same_cells) at (cell-in c.requires.lawful c.place-place.ensures (omega (arith, c.loop-k-test.true, c.len-k-end.ensures)))

pub has-requires-clause-place_in : goal.has-requires-clause-place_in
has-requires-clause-place_in c = inside (goal.at.has-requires-clause-place_in c).After-place-place

pub has-requires-in-loop-k-clause-place_in : goal.has-requires-in-loop-k-clause-place_in
has-requires-in-loop-k-clause-place_in c = inside (goal.at.has-requires-in-loop-k-clause-place_in c).After-place-place

pub retain-struck-requires : goal.retain-struck-requires
retain-struck-requires c = inside (goal.at.retain-struck-requires c).After-place-place

pub returns-then-kept-eq3-clause-left : goal.returns-then-kept-eq3-clause-left
returns-then-kept-eq3-clause-left c =
    idle-stays c.args.board.now c.requires.lawful c.requires.values c.of-tally.ensures c.kept.ensures c.if-kept-eq3.true

pub loop-k-preserved : goal.loop-k-preserved
loop-k-preserved c =
    let i = c.loop-k.invariant in let e = c.retain-struck.ensures in
    record {
      left = partly-more c.args.board.now c.requires.lawful c.requires.values c.of-tally.ensures c.kept-in-loop-k.result i.left (omega (arith, c.loop-k-test.true, c.len-k-end.ensures))
          c.place-place.ensures (ap₂ (λ a b. a && b) c.has.ensures c.has-in-loop-k.ensures) c.kept-in-loop-k.ensures e.left;
      striking = striking-more i.striking (kept-inside (has c.loop-k.board) (has c.retain-struck.new.self) _ _ e.left) e.same
          (λ on. let w = e.lost on in (_, w.0, w.1, w.2));
      shape = same-shape i.shape e.shape;
    }

pub returns-clause-left : goal.returns-clause-left
returns-clause-left c =
    partly-all c.args.board.now c.requires.lawful c.requires.values c.loop-k.invariant.left (omega (arith, c.loop-k-test.false, c.len-k-end.ensures))
