use Rattle.engine_core.proofs.Common.{IsClosing, [], after, arith, board_in, length-append, refl, sym, true≢false, ◌++◌, ◌<◌, ◌∙◌, ◌∷◌, ◌≡◌, true, is_waiting}
use Rattle.engine_core.proofs.AroundLemmas.{around-in, closed-in, taken-dead, taken-open}
use Rattle.engine_core.proofs.ListLemmas.{closing-dead, closing-open, room, running-alive, running-first, running-turn}
use Rattle.engine_core.proofs.QueueLemmas.{within_of}
use Rattle.engine_core.proofs.TrailLemmas.{on-none, on-more}
use Rattle.engine_core.specs.declared.mode.Closing.TheVariants.{Dead, Open}
use Rattle.engine_core.proofs.trail.position.TrailPosition.run.Goals as goal
use Rattle.engine_core.proofs.trail.position.TrailPosition.run.Goals.{In-Some, In_default, Then-step}

pub loop-house-init : goal.loop-house-init
loop-house-init g c =
    let set = c.args.rules.now.set in
    record {
      visits = [];
      counted = refl;
      running =
          running-first _ (g.met.S.RuleSet.lawful _ (g.met.S.RuleSet.knows set)) _ _ (g.met.S.RuleSet.by_queue (g.S.RuleSet.puzzle_of set))
          c.requires.alive c.requires.rested;
      along = c.requires.along;
      onward = on-none;
    }

-- the house that is visited waits
next : (g : _) (c : In-Some g) → (c.in-Some.house < (g.S.RuleSet.system (g.S.RuleSet.puzzle_of c.args.rules.now.set)).houses)
    × (is_waiting c.loop-house.self.waits c.in-Some.house ≡ true)
next g c = around-in (is_waiting c.loop-house.self.waits) (g.S.RuleSet.system (g.S.RuleSet.puzzle_of c.args.rules.now.set)).houses c.loop-house.from c.in-Some.house
    (rw (← c.self.view_is, ← c.houses.ensures, ← c.deref.ensures.value) c.in-Some.ensures)

-- and there is room for its visit
few : (g : _) (c : In-Some g) → c.loop-house.turns < (g.S.RuleSet.system (g.S.RuleSet.puzzle_of c.args.rules.now.set)).bound
few g c = let v = next g c in let i = c.loop-house.invariant in omega (arith, room i.running v.0 v.1, i.counted)

pub step-requires-clause-alive : goal.step-requires-clause-alive
step-requires-clause-alive g c = running-alive c.loop-house.invariant.running

pub overflow_add-turns : goal.overflow_add-turns
overflow_add-turns g c =
    omega (arith, few g (goal.at.overflow_add-turns g c).In-Some, (rw (← c.self.view_is) at c.loop-house.invariant.along.fits).bound_in, c.self.invariant.0.few_turns)

pub loop-house-smaller : goal.loop-house-smaller
loop-house-smaller g c = omega (arith, few g (goal.at.loop-house-smaller g c).In-Some)

pub loop-house-preserved : goal.loop-house-preserved
loop-house-preserved g c =
    let set = c.args.rules.now.set in
    let i = c.loop-house.invariant in
    let e = c.step.ensures in
    let s = rw c.if-step.false at e.step in
    let v = next g (goal.at.loop-house-preserved g c).In-Some in
    rw c.next_from-from.ensures.same (record {
      visits = i.visits ++ c.in-Some.house ∷ [];
      counted = omega (arith, length-append i.visits (c.in-Some.house ∷ []), i.counted);
      running =
          running-turn _ (g.met.S.RuleSet.lawful _ (g.met.S.RuleSet.knows set)) _ i.visits _ _ _ _ c.in-Some.house i.running v.0 v.1
          (within_of _ _ i.along.board_of) s.0 s.2 s.1;
      along = e.along;
      onward = on-more i.onward e.onward;
    })

-- a visit that would leave a cell without a value ends the closing
dead : (g : _) (c : Then-step g)
    → IsClosing (g.S.RuleSet.system (g.S.RuleSet.puzzle_of c.args.rules.now.set)) (board_in c.args.self.now)
    (after (g.S.RuleSet.system (g.S.RuleSet.puzzle_of c.args.rules.now.set)) c.in-Some.house (board_in c.loop-house.self)) Dead
    (c.loop-house.invariant.visits ++ c.in-Some.house ∷ []) 0
dead g c =
    let set = c.args.rules.now.set in
    let i = c.loop-house.invariant in
    let v = next g (goal.at.returns-then-step-clause-taken g c).In-Some in
    closing-dead _ (g.met.S.RuleSet.lawful _ (g.met.S.RuleSet.knows set)) _ i.visits _ _ _ _ (g.met.S.RuleSet.by_queue (g.S.RuleSet.puzzle_of set))
    (within_of _ _ c.requires.along.board_of) i.running v.0 v.1 refl (rw c.if-step.true at c.step.ensures.step)

pub returns-then-step-clause-taken : goal.returns-then-step-clause-taken
returns-then-step-clause-taken g c = taken-dead (dead g (goal.at.returns-then-step-clause-taken g c).Then-step)

pub returns-then-step-clause-turns : goal.returns-then-step-clause-turns
returns-then-step-clause-turns g c =
    let i = c.loop-house.invariant in
    closed-in (dead g (goal.at.returns-then-step-clause-turns g c).Then-step)
    (λ _. omega (arith, length-append i.visits (c.in-Some.house ∷ []), i.counted))
    (λ e. absurd (true≢false (sym (g.met.S.RuleSet.by_queue (g.S.RuleSet.puzzle_of c.args.rules.now.set)) ∙ e)))

-- and so it ends where no house waits
shut : (g : _) (c : In_default g)
    → IsClosing (g.S.RuleSet.system (g.S.RuleSet.puzzle_of c.args.rules.now.set)) (board_in c.args.self.now) (board_in c.loop-house.self) Open
    c.loop-house.invariant.visits 0
shut g c =
    let set = c.args.rules.now.set in
    let i = c.loop-house.invariant in
    closing-open _ (g.met.S.RuleSet.lawful _ (g.met.S.RuleSet.knows set)) _ i.visits _ _ (g.met.S.RuleSet.by_queue (g.S.RuleSet.puzzle_of set))
    (within_of _ _ c.requires.along.board_of) i.running
    (λ h lt. rw (← c.self.view_is) ((rw (c.in_default.is, c.houses.ensures, c.deref.ensures.value) at c.next_around.ensures) h lt))

pub returns-clause-taken : goal.returns-clause-taken
returns-clause-taken g c = taken-open (shut g (goal.at.returns-clause-taken g c).In_default)

pub returns-clause-turns : goal.returns-clause-turns
returns-clause-turns g c =
    closed-in (shut g (goal.at.returns-clause-turns g c).In_default) (λ _. c.loop-house.invariant.counted)
    (λ e. absurd (true≢false (sym (g.met.S.RuleSet.by_queue (g.S.RuleSet.puzzle_of c.args.rules.now.set)) ∙ e)))
