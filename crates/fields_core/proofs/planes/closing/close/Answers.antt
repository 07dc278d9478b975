use Rattle.fields_core.proofs.Common.{Dead, IsClosing, Open, [], arith, planes_have, max, refl, rules_of, swept_by, sym, true≢false, ◌+◌, ◌<◌, ◌∙◌}
use Rattle.engine_core.proofs.AroundLemmas.{closed-in, taken-dead, taken-open}
use Rattle.fields_core.proofs.PlaneSweeps.{alive-cells, cells-alive, closed-dead, closed-open, sweeps-few, sweeps-fewer, sweeps-none, sweeps-turn}
use Rattle.fields_core.proofs.planes.closing.close.Goals as goal
use Rattle.fields_core.proofs.planes.closing.close.Goals.{Else-len-before, Then-len-before, Then-not-sweep}

-- a sweep that leaves a cell without a value ends the closing
dead : (g : _) (c : Then-not-sweep g) → IsClosing (rules_of (g.P.CountGame.counts c.args.puzzle.now)) (planes_have c.args.planes.now)
    (swept_by (rules_of (g.P.CountGame.counts c.args.puzzle.now)) (planes_have c.closing.planes)) Dead [] (c.closing.sweeps + 1)
dead g c = closed-dead _ _ _ _ c.requires.counted c.requires.board.cells c.requires.board.board.within
    c.closing.invariant.sweeps c.sweep.ensures.swept c.if-not-sweep.true

-- and so does one that takes nothing
shut : (g : _) (c : Then-len-before g) → IsClosing (rules_of (g.P.CountGame.counts c.args.puzzle.now)) (planes_have c.args.planes.now)
    (planes_have c.sweep.new.planes) Open [] (max c.closing.sweeps 1)
shut g c = closed-open _ _ _ _ c.requires.counted c.requires.board.cells c.requires.board.board.within
    c.closing.invariant.sweeps c.sweep.ensures.swept c.if-not-sweep.false
    (sym c.len.ensures.len ∙ c.if-len-before.true ∙ c.len-before.ensures.len)

more : (g : _) (c : Else-len-before g) → c.closing.planes.len < c.sweep.new.planes.len
more g c = let grows = c.sweep.ensures.swept.further.grows in
    omega (arith, grows, c.if-len-before.false, c.len.ensures.len, c.len-before.ensures.len)

pub closing-init : goal.closing-init
closing-init g c =
    record {
      sweeps = sweeps-none _ _ _ _ c.requires.board.cells (cells-alive _ c.requires.board.cells c.requires.board.board.alive);
      ready = c.requires.ready;
      kept = record { serves = λ needs room. room; own = λ p own. own };
    }

pub overflow_add-result : goal.overflow_add-result
overflow_add-result g c = omega (arith, sweeps-few _ _ _ _ c.requires.counted c.requires.board.cells c.requires.board.board.within c.closing.invariant.sweeps c.sweep.ensures.swept)

pub overflow_add-sweeps : goal.overflow_add-sweeps
overflow_add-sweeps g c = omega (arith, sweeps-few _ _ _ _ c.requires.counted c.requires.board.cells c.requires.board.board.within c.closing.invariant.sweeps c.sweep.ensures.swept)

pub returns-then-not-sweep-clause-taken : goal.returns-then-not-sweep-clause-taken
returns-then-not-sweep-clause-taken g c = taken-dead
    (dead g (goal.at.returns-then-not-sweep-clause-taken g c).Then-not-sweep)

pub returns-then-not-sweep-clause-turns : goal.returns-then-not-sweep-clause-turns
returns-then-not-sweep-clause-turns g c = closed-in
    (dead g (goal.at.returns-then-not-sweep-clause-turns g c).Then-not-sweep)
    (λ e. absurd (true≢false (sym e))) (λ _. refl)

pub returns-then-not-sweep-clause-alive : goal.returns-then-not-sweep-clause-alive
returns-then-not-sweep-clause-alive g c =
    let same = c.sweep.ensures.swept.further.same_size ∙ c.closing.invariant.sweeps.further.same_size in
    alive-cells c.sweep.new.planes (rw same c.requires.board.cells) c.sweep.ensures.swept.alive

pub returns-then-len-before-clause-taken : goal.returns-then-len-before-clause-taken
returns-then-len-before-clause-taken g c = taken-open
    (shut g (goal.at.returns-then-len-before-clause-taken g c).Then-len-before)

pub returns-then-len-before-clause-turns : goal.returns-then-len-before-clause-turns
returns-then-len-before-clause-turns g c = closed-in
    (shut g (goal.at.returns-then-len-before-clause-turns g c).Then-len-before)
    (λ e. absurd (true≢false (sym e))) (λ _. sym c.max.ensures)

pub closing-smaller : goal.closing-smaller
closing-smaller g c =
    sweeps-fewer _ _ _ _ c.requires.counted c.requires.board.cells c.requires.board.board.within c.closing.invariant.sweeps c.sweep.ensures.swept c.if-not-sweep.false
    (more g (goal.at.closing-smaller g c).Else-len-before)

pub closing-preserved : goal.closing-preserved
closing-preserved g c =
    let before = c.closing.invariant.kept in let after = c.sweep.ensures.kept in
    record {
      sweeps = sweeps-turn _ _ _ _ c.requires.counted c.requires.board.cells c.requires.board.board.within c.closing.invariant.sweeps
          c.sweep.ensures.swept c.if-not-sweep.false (more g (goal.at.closing-preserved g c).Else-len-before);
      ready = c.sweep.ensures.ready c.if-not-sweep.false;
      kept = record {
        serves = λ needs room. after.serves needs (before.serves needs room);
        own = λ p own. after.own p (before.own p own);
      };
    }
