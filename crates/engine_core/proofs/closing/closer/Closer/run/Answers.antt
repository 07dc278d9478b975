use Rattle.engine_core.proofs.Common.{IsQueuedAround, Some, [], and_parts, ap, arith, cases_Bool, false, from_bool, has, inl, inr, is_waiting, lt-ltb, ltb, not, refl, sym, true, true≢false, ℕ, ◌&&◌, ◌+◌, ◌<◌, ◌||◌, ◌∙◌, ◌≡◌, ◌≤◌}
use Rattle.engine_core.proofs.AroundLemmas.{IsSweepStriking, amid-few, amid-first, around-in, exact-end, queued-turn, rest-around, steps-fall, still-alive, striking-next, striking-turn}
use Rattle.engine_core.proofs.ListLemmas.{room, room-more, room-same, running-first}
use Rattle.engine_core.proofs.QueueLemmas.{IsBoardOf-same, within_of}
use Rattle.engine_core.proofs.closing.closer.Closer.run.Goals as goal
use Rattle.engine_core.proofs.closing.closer.Closer.run.Goals.{In-Some}

pub loop-house-init : goal.loop-house-init
loop-house-init g c =
    let p = g.R.Rules.system c.args.rules.now in
    let laws = g.met.R.Rules.lawful c.args.rules.now in
    let turns = rw (c.by_queue-by_queue.ensures ∙ sym (g.met.R.Rules.mode_is c.args.rules.now)) at c.from-turns.ensures in
    record {
      past = omega arith;
      dead = c.requires.alive;
      queued = λ queue. (
          let none : c.from-turns.result ≡ 0 = rw queue at turns in
          record {
            visits = [];
            many = sym none;
            written = λ _. refl;
            queued = record {
              running = λ _. running-first p laws (has c.args.self.now.board) _ queue c.requires.alive c.requires.rested;
              ended = λ e. absurd (true≢false (sym e));
            };
          });
      striking = λ sweeps. (
          let one : c.from-turns.result ≡ 1 = rw sweeps at turns in
          rw one (record {
            first = has c.args.self.now.board;
            amid = amid-first p (has c.args.self.now.board) _ c.requires.alive c.requires.rested;
            lost = λ e. absurd (true≢false (sym e));
            same = λ _. refl;
          }));
      room = room-same;
    }

-- the next house that waits
around : (g : _) (c : In-Some g)
    → IsQueuedAround (is_waiting c.loop-house.self.waits) (g.R.Rules.system c.args.rules.now).houses c.loop-house.from (Some c.in-Some.house)
around g c = rw (← c.self.view_is, ← c.houses.ensures, ← c.deref.ensures.value) c.in-Some.ensures

-- where the closing goes on, there is room for the visit of a queue
alive : (g : _) (c : In-Some g)
    → (c.loop-house.dead && (c.by_queue-by_queue.result || ltb c.in-Some.house c.loop-house.from)) ≡ false
    → (g.R.Rules.system c.args.rules.now).by_queue ≡ true → c.loop-house.dead ≡ false
alive g c on queue =
    still-alive c.loop-house.dead (rw (c.by_queue-by_queue.ensures ∙ sym (g.met.R.Rules.mode_is c.args.rules.now), queue) at on)

more : (g : _) (c : In-Some g) → (g.R.Rules.system c.args.rules.now).by_queue ≡ true → c.loop-house.dead ≡ false
    → c.loop-house.turns < (g.R.Rules.system c.args.rules.now).bound
more g c queue off =
    let q = c.loop-house.invariant.queued queue in
    let w = around-in _ _ _ _ (around g c) in
    omega (arith, room (q.queued.running off) w.0 w.1, q.many)

-- the sweep in which the next house is visited
here : (g : _) (c : In-Some g) {more : ℕ}
    → (c.loop-house.dead && (c.by_queue-by_queue.result || ltb c.in-Some.house c.loop-house.from)) ≡ false
    → more ≡ from_bool (c.by_queue-by_queue.result || ltb c.in-Some.house c.loop-house.from)
    → (g.R.Rules.system c.args.rules.now).by_queue ≡ false
    → IsSweepStriking (g.R.Rules.system c.args.rules.now) (has c.args.self.now.board) (c.loop-house.turns + more) c.in-Some.house
    (has c.loop-house.self.board) (is_waiting c.loop-house.self.waits)
    (c.loop-house.struck && not (ltb c.in-Some.house c.loop-house.from))
here g c {more} on counts sweeps =
    let i = c.loop-house.invariant in
    let mode = c.by_queue-by_queue.ensures ∙ sym (g.met.R.Rules.mode_is c.args.rules.now) ∙ sweeps in
    striking-next _ (g.met.R.Rules.lawful c.args.rules.now) _ (within_of _ _ c.requires.board_of) (i.striking sweeps) i.past more
    (λ lt. i.dead ∙ still-alive c.loop-house.dead (rw (mode, lt-ltb _ _ lt) at on)) (around g c) (rw mode at counts)

-- the turns are within the bound
few : (g : _) (c : In-Some g) {next : ℕ}
    → (c.loop-house.dead && (c.by_queue-by_queue.result || ltb c.in-Some.house c.loop-house.from)) ≡ false
    → next ≡ from_bool (c.by_queue-by_queue.result || ltb c.in-Some.house c.loop-house.from)
    → c.loop-house.turns + next ≤ (g.R.Rules.system c.args.rules.now).bound
few g c {next} on counts =
    let p = g.R.Rules.system c.args.rules.now in
    elim (cases_Bool p.by_queue) [
      | inl queue ↦ (
          let one : next ≡ 1 = rw (c.by_queue-by_queue.ensures ∙ sym (g.met.R.Rules.mode_is c.args.rules.now), queue) at counts in
          omega (arith, more g c queue (alive g c on queue), one))
      | inr sweeps ↦ amid-few p (g.met.R.Rules.lawful c.args.rules.now) _ (within_of _ _ c.requires.board_of) (here g c on counts sweeps).amid sweeps
    ]

pub overflow_add-turns : goal.overflow_add-turns
overflow_add-turns g c =
    let fits = few g (goal.at.overflow_add-turns g c).In-Some c.if-dead-begins.false c.from-turns-in-Some.ensures in
    let same = ap (λ m. m.bound) (rw (← c.self.view_is) at c.loop-house.invariant.room.made) in
    omega (arith, fits, c.requires.fits.bound_in, c.self.invariant.0.few_turns, same)

pub loop-house-smaller : goal.loop-house-smaller
loop-house-smaller g c =
    let at = (goal.at.loop-house-smaller g c).In-Some in
    let counts = c.from-turns-in-Some.ensures in
    steps-fall _ _ _ _ (few g at c.if-dead-begins.false counts) c.loop-house.invariant.past (around-in _ _ _ _ (around g at)).0 (λ _. refl) counts

pub loop-house-preserved : goal.loop-house-preserved
loop-house-preserved g c =
    let p = g.R.Rules.system c.args.rules.now in
    let laws = g.met.R.Rules.lawful c.args.rules.now in
    let i = c.loop-house.invariant in
    let at = (goal.at.loop-house-preserved g c).In-Some in
    let on = c.if-dead-begins.false in
    let w = around-in _ _ _ _ (around g at) in
    let n = c.note.ensures in
    let e = c.step-effect.ensures in
    let within = within_of p _ (IsBoardOf-same c.requires.board_of i.room.shape) in
    let left = rw n.board at e.visited.left in
    let dead = (rw n.board at e.visited.dead) ∙ ap (λ b. b || c.step-effect.result.dead) i.dead in
    let mode = c.by_queue-by_queue.ensures ∙ sym (g.met.R.Rules.mode_is c.args.rules.now) in
    record {
      past = omega (arith, w.0);
      dead = dead;
      queued = λ queue. (
          let one : c.from-turns-in-Some.result ≡ 1 = rw (mode, queue) at c.from-turns-in-Some.ensures in
          rw (one, e.trace ∙ n.noted) (queued-turn p laws _ (within_of _ _ c.requires.board_of) (i.queued queue) (alive g at on queue) _ _ queue within w.0 w.1
          left (rw (n.board, n.waits) at (e.visited.woken queue)) dead));
      striking = λ sweeps. rw (mode ∙ sweeps) (striking-turn p laws _ (within_of _ _ c.requires.board_of) (here g at on c.from-turns-in-Some.ensures sweeps) w.0 left
          (rw n.waits at (e.visited.rewoken sweeps))
          (rw n.board at e.visited.idle) (rw n.board at e.visited.struck));
      room = room-more i.room (room-more n.room e.room);
    }

pub returns-then-dead-begins-clause-closing : goal.returns-then-dead-begins-clause-closing
returns-then-dead-begins-clause-closing g c =
    let i = c.loop-house.invariant in
    let at = (goal.at.returns-then-dead-begins-clause-closing g c).In-Some in
    let mode = c.by_queue-by_queue.ensures ∙ sym (g.met.R.Rules.mode_is c.args.rules.now) in
    let parts = and_parts _ _ c.if-dead-begins.true in
    exact-end _ (g.met.R.Rules.lawful c.args.rules.now) _ (within_of _ _ c.requires.board_of) _ c.loop-house.struck c.loop-house.dead c.loop-house.self _
    (g.met.R.Rules.mode_is c.args.rules.now) i.queued i.striking i.past i.dead
    (λ _ sweeps. rest-around (around g at) (rw (mode, sweeps) at parts.1))
    (λ off. absurd (true≢false (sym parts.0 ∙ off))) c.report.ensures.closing c.report.ensures.turns

pub returns-clause-closing : goal.returns-clause-closing
returns-clause-closing g c =
    let i = c.loop-house.invariant in
    let none = rw (c.in_default.is, c.houses.ensures, c.deref.ensures.value) at c.next_around.ensures in
    exact-end _ (g.met.R.Rules.lawful c.args.rules.now) _ (within_of _ _ c.requires.board_of) _ c.loop-house.struck c.loop-house.dead c.loop-house.self _
    (g.met.R.Rules.mode_is c.args.rules.now) i.queued i.striking i.past i.dead
    (λ _ _ h _ lt. rw (← c.self.view_is) (none h lt))
    (λ _ h lt. rw (← c.self.view_is) (none h lt)) c.report-2.ensures.closing c.report-2.ensures.turns
