use Rattle.engine_core.proofs.Common.{IsInside, ap, arith, drop, has, is_dead, is_waiting, length, sym, true≢false, ◌∙◌}
use Rattle.engine_core.proofs.QueueLemmas.{emptied-dead, unwoken, woken-unstruck}
use Rattle.engine_core.proofs.ClosingLemmas.{after_inside}
use Rattle.engine_core.proofs.JudgeLemmas.{scope_le-longest}
use Rattle.engine_core.proofs.MarkLemmas.{written-back}
use Rattle.engine_core.proofs.closing.closer.Closer.step.Goals as goal

pub read_head-requires-clause-room : goal.read_head-requires-clause-room
read_head-requires-clause-room g c =
    let p = g.R.Rules.system c.args.rules.now in
    let fits = rw (← c.self.view_is) at c.requires.fits in
    omega (arith, scope_le-longest p.scope p.houses c.args.house c.requires.house_in, fits.scope_in, c.self.invariant.0.sets_long, c.deref_mut-2.ensures.len, c.self.inside.sets.ok.0)

pub mark_after-requires-clause-long : goal.mark_after-requires-clause-long
mark_after-requires-clause-long g c =
    let p = g.R.Rules.system c.args.rules.now in
    let fits = rw (← c.self.view_is) at c.requires.fits in
    omega (arith, scope_le-longest p.scope p.houses c.args.house c.requires.house_in, fits.scope_in, c.self.invariant.0.sets_long, c.deref_mut-2.ensures.len, c.self.inside.sets.ok.0, c.read_head.auto.sets, c.deref.ensures.len)

pub returns-then-not-visit-clause-visited : goal.returns-then-not-visit-clause-visited
returns-then-not-visit-clause-visited g c =
    let p = g.R.Rules.system c.args.rules.now in
    let same = c.visit.ensures.unchanged c.if-not-visit.true in
    let v = c.self.inside.waits in
    let back = written-back v.len c.dequeue.new.waits (drop (length c.dequeue.new.waits) v.items) (omega (arith, v.ok.0, c.deref_mut.ensures.len, c.dequeue.auto.waits)) in
    let cleared = rw c.deref_mut.ensures.value at c.dequeue.ensures in
    rw (← c.self.view_is) (record {
      left = c.visit.ensures.left;
      idle = λ _. same;
      struck = λ e. absurd (true≢false (sym e));
      dead = ap (is_dead p.cells p.values) same ∙ unwoken;
      woken = λ _. rw back (woken-unstruck same cleared);
      rewoken = λ _ j _. rw back (cleared j);
    })

pub returns-clause-visited : goal.returns-clause-visited
returns-clause-visited g c =
    let p = g.R.Rules.system c.args.rules.now in
    let laws = g.met.R.Rules.lawful c.args.rules.now in
    let K = has c.self.inside.board in
    let K' = has c.visit.new.board in
    let v = c.self.inside.waits in
    let s = c.self.inside.sets in
    let mode = g.met.R.Rules.mode_is c.args.rules.now in
    let cleared =
    written-back v.len c.dequeue.new.waits (drop (length c.dequeue.new.waits) v.items)
    (omega (arith, v.ok.0, c.deref_mut.ensures.len, c.dequeue.auto.waits)) in
    let sets =
    written-back s.len c.read_head.new.sets (drop (length c.read_head.new.sets) s.items)
    (omega (arith, s.ok.0, c.deref_mut-2.ensures.len, c.read_head.auto.sets)) in
    let inside : IsInside K' K = rw c.visit.ensures.left (after_inside p c.args.house K) in
    rw (← c.self.view_is) (record {
      left = c.visit.ensures.left;
      idle = λ e. absurd (true≢false e);
      struck = λ _. c.visit.ensures.changed c.if-not-visit.false;
      dead = rw c.is_house_dead.ensures (emptied-dead p laws K K' c.requires.house_in c.visit.ensures.left);
      woken = λ queue.
          rw (written-back v.len c.mark_after.new.waits _ (omega (arith, v.ok.0, c.deref_mut-3.ensures.len, c.mark_after.auto.waits)))
          (c.mark_after.ensures.queue (sym mode ∙ queue) K (is_waiting v.items)
          (rw (c.deref.ensures.value, sets) (c.read_head.ensures (sym mode ∙ queue))) inside
          (rw (c.deref_mut-3.ensures.value, cleared, ← c.deref_mut.ensures.value) c.dequeue.ensures));
      rewoken = λ sweeps.
          rw (written-back v.len c.mark_after.new.waits _ (omega (arith, v.ok.0, c.deref_mut-3.ensures.len, c.mark_after.auto.waits)))
          (c.mark_after.ensures.sweeps (sym mode ∙ sweeps));
    })
