-- Closings that go around over the houses that wait, and what they came to.
use Rattle.engine_core.proofs.Common.{AreWritten, BoardAndMarks, Bool, Candidates, Dead, HasStruck, IsAlive, IsClosedBy, IsClosedIn, IsClosing, IsDead, IsLawful, IsQueuedAround, IsRested, IsTaken, IsWithin, IsWoken, List, Open, RuleSystem, Some, [], after, ap, arith, but, cases_Bool, cases_lt, common_steps, false, from_bool, has, if◌then◌else◌, inl, inr, is_dead, le-ltb, length, length-append, length-set, lt-ltb, ltb, max, not, refl, set, sweeps_in, sym, take, true, true≢false, visits_in, within_inside, ℕ, ◌&&◌, ◌*◌, ◌++◌, ◌+◌, ◌-◌, ◌<◌, ◌||◌, ◌∙◌, ◌∷◌, ◌≡◌, ◌≤◌, ◌⊎◌, and-true, and-false}
use Rattle.engine_core.specs.declared.mode.Closing.{Closing}
use Rattle.engine_core.specs.declared.mode.Taken.{Taken}
use Rattle.engine_core.proofs.ClosingLemmas.{replay_inside}
use Rattle.engine_core.proofs.QueueLemmas.{closed_from_rested, pushed}
use Rattle.engine_core.proofs.ListLemmas.{IsRunning, closing-dead, closing-none, closing-open, running-turn}
use Rattle.engine_core.proofs.SweepLemmas.{IsMarked, IsSweeping, IsSwept, all-marked, few_sweeps, struck-more, struck-none, sweep-idle, sweeping-first, sweeping-inside, sweeping-passed, sweeping-turn, swept-alive, swept-dead, swept-first, swept-idle, swept-shut, swept-turn}

-- What a closing came to, for a walk that goes on from it.

-- where the closure is dead, any board may be left
pub taken-dead : {p : RuleSystem} {K own E : Candidates} {trace : List ℕ} {sweeps : ℕ} → IsClosing p K own Dead trace sweeps → IsTaken p K E Dead
taken-dead c = grind (arith, common_steps)

pub taken-open : {p : RuleSystem} {K E : Candidates} {trace : List ℕ} {sweeps : ℕ} → IsClosing p K E Open trace sweeps → IsTaken p K E Open
taken-open c = grind (arith, common_steps)

-- its turns are counted
pub closed-in : {p : RuleSystem} {K E : Candidates} {answer : Closing} {trace : List ℕ} {sweeps m : ℕ} → IsClosing p K E answer trace sweeps
    → (p.by_queue ≡ true → length trace ≡ m) → (p.by_queue ≡ false → sweeps ≡ m) → IsClosedIn p K m
closed-in c visits turns = grind (arith, common_steps)

-- Closings that go around over the houses that wait.

-- the board K was left in the n-th sweep of K0, which began with the board `first`, before the house `from`; each sweep
-- before struck something
pub record IsAmid (p : RuleSystem) (K0 : Candidates) (n from : ℕ) (first K : Candidates) (waits : ℕ → Bool) : Type 0 where
  pub whole : ℕ
  pub told : n ≡ whole + 1
  pub swept : IsSwept p K0 whole first
  pub sweeping : IsSweeping p first from K waits

pub amid-first : (p : RuleSystem) (K : Candidates) (waits : ℕ → Bool) → IsAlive p K → IsRested p K waits → IsAmid p K 1 0 K K waits
amid-first p K waits alive rested =
    record { whole = 0; told = refl; swept = swept-first p K alive; sweeping = sweeping-first p K waits rested }

pub around-in : (waits : ℕ → Bool) (n from h : ℕ) → IsQueuedAround waits n from (Some h) → (h < n) × (waits h ≡ true)
around-in waits n from h around = grind (arith, common_steps)

-- where the next house that waits stands before, none waits from here on
pub rest-around : {waits : ℕ → Bool} {n from h : ℕ} → IsQueuedAround waits n from (Some h) → ltb h from ≡ true → (j : ℕ) → from ≤ j → j < n → waits j ≡ false
rest-around {waits} {n} {from} {h} around lt = elim around [
  | inl next ↦ absurd (true≢false (sym lt ∙ le-ltb h from next.0))
  | inr none ↦ none.0
]

-- a step makes a turn, or goes on to a later house
not-before : (queue : Bool) (h from : ℕ) → (queue || ltb h from) ≡ false → from ≤ h
not-before true h from off = absurd (true≢false off)
not-before false h from off = grind (arith, common_steps, cases_lt h from, lt-ltb h from, true≢false)

no-queue : (queue more : Bool) → (queue || more) ≡ false → queue ≡ false
no-queue true more off = off
no-queue false more off = refl

pub steps-fall : {bound houses from h : ℕ} (turns more next : ℕ) (queue : Bool) → turns + more ≤ bound → from ≤ houses → h < houses
    → (queue ≡ false → next ≡ h + 1) → more ≡ from_bool (queue || ltb h from)
    → (bound - (turns + more)) * (houses + 1) + (houses - next) < (bound - turns) * (houses + 1) + (houses - from)
steps-fall {bound = bound} {houses = houses} {from = from} {h = h} turns more next queue le past lt order counts =
    grind (arith, common_steps, cases_Bool, ltb, no-queue, not-before)

-- ---- exact closings
-- a queue made these visits, and ends where they leave a dead board
pub record IsQueued (p : RuleSystem) (K0 : Candidates) (t : List ℕ) (K : Candidates) (waits : ℕ → Bool) (dead : Bool) : Type 0 where
  pub running : dead ≡ false → IsRunning p K0 t K waits
  pub ended : dead ≡ true → IsClosing p K0 K Dead t 0

-- these are its visits so far, written down if there is room for them
pub record IsQueuedBy (p : RuleSystem) (K0 : Candidates) (turns : ℕ) (trace : List ℕ) (K : Candidates) (waits : ℕ → Bool) (dead : Bool) : Type 0 where
  pub visits : List ℕ
  pub many : length visits ≡ turns
  pub written : AreWritten visits trace
  pub queued : IsQueued p K0 visits K waits dead

written-more : (t trace : List ℕ) (h : ℕ) → AreWritten t trace → AreWritten (t ++ h ∷ []) (set trace (length t) h)
written-more t trace h written fits =
    let many = length-append t (h ∷ []) in
    let lt : length t < length trace = omega (arith, fits, many, length-set trace (length t) h) in
    rw (many, pushed trace h lt, written (omega (arith, lt))) refl

-- and whether the sweep struck anything so far
pub record IsSweepStriking (p : RuleSystem) (K0 : Candidates) (n from : ℕ) (K : Candidates) (waits : ℕ → Bool) (struck : Bool) : Type 0 where
  pub first : Candidates
  pub amid : IsAmid p K0 n from first K waits
  pub lost : struck ≡ true → HasStruck first K
  pub same : struck ≡ false → K ≡ first

pub still-alive : (dead : Bool) → (dead && true) ≡ false → dead ≡ false
still-alive dead e = sym (and-true dead) ∙ e

module _ (p : RuleSystem) (laws : IsLawful p) (K0 : Candidates) (within : IsWithin p.cells p.values K0) where
  -- the houses from here on do not wait
  amid-whole : {n from : ℕ} {first K : Candidates} {waits : ℕ → Bool} → IsAmid p K0 n from first K waits → from ≤ p.houses
      → ((h : ℕ) → from ≤ h → h < p.houses → waits h ≡ false) → IsSweeping p first p.houses K waits
  amid-whole s past none = sweeping-passed s.sweeping past (omega arith) none

  -- the next house that waits is in this sweep, or in a new one
  amid-next : {n from h : ℕ} {first K : Candidates} {waits : ℕ → Bool} → IsAmid p K0 n from first K waits → from ≤ p.houses
      → (more : ℕ) → (h < from → IsAlive p K) → IsQueuedAround waits p.houses from (Some h) → more ≡ from_bool (ltb h from)
      → (from ≤ h) × IsAmid p K0 (n + more) h first K waits ⊎ (h < from) × IsAmid p K0 (n + more) h K K waits
  amid-next {n} {from} {h} {first} {K} {waits} s past more alive around counts = elim around [
    | inl next ↦ (
        let none : more ≡ 0 = rw (le-ltb h from next.0) at counts in
        inl (
          next.0,
          record {
            whole = s.whole;
            told = omega (arith, s.told);
            swept = s.swept;
            sweeping = sweeping-passed s.sweeping next.0 (omega (arith, next.1)) next.3;
          },
        ))
    | inr none ↦ (
        let next = none.1 in
        let lt : h < from = grind (arith, common_steps, none.0 h) in
        let one : more ≡ 1 = rw (lt-ltb h from lt) at counts in
        let all = amid-whole s past none.0 in
        inr (
          lt,
          record {
            whole = n;
            told = omega arith;
            swept = rw s.told (swept-turn p K0 s.whole first K s.swept (within_inside _ _ _ _ within (rw s.swept.left (replay_inside p K0 _)))
                all.left (all.struck h next.1 next.2) (alive lt));
            sweeping = sweeping-passed (sweeping-first p K waits all.rested) (omega arith) (omega (arith, next.1)) next.3;
          },
        ))
  ]

  amid-turn : {n h : ℕ} {first K K' : Candidates} {waits waits' : ℕ → Bool} → IsAmid p K0 n h first K waits → h < p.houses
      → K' ≡ after p h K → IsMarked p h K K' waits waits' → IsAmid p K0 n (h + 1) first K' waits'
  amid-turn {h} {first} {K} s lt e m = record {
    whole = s.whole;
    told = s.told;
    swept = s.swept;
    sweeping = sweeping-turn p first h K _ _ _ s.sweeping lt e m;
  }

  pub amid-few : {n from : ℕ} {first K : Candidates} {waits : ℕ → Bool} → IsAmid p K0 n from first K waits → p.by_queue ≡ false → n ≤ p.bound
  amid-few {first} s sweeps = omega (arith, s.told, few_sweeps p laws first sweeps s.swept)

  -- no house waits
  amid-open : {n from : ℕ} {first K : Candidates} {waits : ℕ → Bool} → IsAmid p K0 n from first K waits → from ≤ p.houses → p.by_queue ≡ false
      → IsAlive p K → ((h : ℕ) → h < p.houses → waits h ≡ false) → IsClosing p K0 K Open [] n
  amid-open {first} {K} {waits} s past sweeps alive none =
      let all = amid-whole s past (λ h le lt. none h lt) in
      rw s.told (swept-shut p laws s.whole first K sweeps within s.swept all.left alive (closed_from_rested p K waits none all.rested))

  pub queued-turn : {turns : ℕ} {trace : List ℕ} {K : Candidates} {waits : ℕ → Bool} {off : Bool} → IsQueuedBy p K0 turns trace K waits off
      → off ≡ false → {h : ℕ} (K' : Candidates) {waits' : ℕ → Bool}
      (dead : Bool) → p.by_queue ≡ true → IsWithin p.cells p.values K → h < p.houses → waits h ≡ true → K' ≡ after p h K
      → IsWoken p h K K' waits waits' → is_dead p.cells p.values K' ≡ dead → IsQueuedBy p K0 (turns + 1) (set trace turns h) K' waits' dead
  queued-turn {trace = trace} {K = K} {waits = waits} q alive {h} K' {waits'} dead queue fits lt waiting e woke is =
      let t = q.visits in
      let r = q.queued.running alive in
      record {
        visits = t ++ h ∷ [];
        many = length-append t (h ∷ []) ∙ ap (λ n. n + 1) q.many;
        written = rw q.many at (written-more t trace h q.written);
        queued = record {
          running = λ off. running-turn p laws K0 t K K' waits waits' h r lt waiting fits e woke (is ∙ off);
          ended = λ on. closing-dead p laws K0 t K K' waits h queue within r lt waiting e (is ∙ on);
        };
      }

  pub striking-next : {n from h : ℕ} {K : Candidates} {waits : ℕ → Bool} {struck : Bool} → IsSweepStriking p K0 n from K waits struck → from ≤ p.houses
      → (more : ℕ) → (h < from → IsAlive p K) → IsQueuedAround waits p.houses from (Some h) → more ≡ from_bool (ltb h from)
      → IsSweepStriking p K0 (n + more) h K waits (struck && not (ltb h from))
  striking-next {from} {h} {K} {struck} s past more alive around counts = elim (amid-next s.amid past more alive around counts) [
    | inl here ↦ rw (le-ltb h from here.0, and-true struck) (record { first = s.first; amid = here.1; lost = s.lost; same = s.same })
    | inr new ↦ rw (lt-ltb h from new.0, and-false struck) (record { first = K; amid = new.1; lost = λ e. absurd (true≢false (sym e)); same = λ _. refl })
  ]

  pub striking-turn : {n h : ℕ} {K K' : Candidates} {waits waits' : ℕ → Bool} {struck now : Bool} → IsSweepStriking p K0 n h K waits struck
      → h < p.houses → K' ≡ after p h K → ((j : ℕ) → j < p.houses → waits' j ≡ (now || but waits h j)) → (now ≡ false → K' ≡ K)
      → (now ≡ true → HasStruck K K') → IsSweepStriking p K0 n (h + 1) K' waits' (struck || now)
  striking-turn {h} {now = now} s lt e marks idle lost = record {
    first = s.first;
    amid = amid-turn s.amid lt e (all-marked p now e idle lost marks);
    lost = struck-more p h (sweeping-inside s.amid.sweeping) e s.lost lost;
    same = struck-none s.same idle;
  }

  -- the sweep is at its end: where it struck nothing it counts only as the first
  striking-end : {n from : ℕ} {K : Candidates} {waits : ℕ → Bool} (struck dead : Bool) → IsSweepStriking p K0 n from K waits struck → from ≤ p.houses
      → p.by_queue ≡ false → is_dead p.cells p.values K ≡ dead → (dead ≡ true → (h : ℕ) → from ≤ h → h < p.houses → waits h ≡ false)
      → (dead ≡ false → (h : ℕ) → h < p.houses → waits h ≡ false)
      → IsClosing p K0 K (if dead then Dead else Open) [] (max (n - from_bool (not struck)) 1)
  striking-end {n} struck true s past sweeps dead rest none = (
      let all = amid-whole s.amid past (rest refl) in
      let alive = swept-alive s.amid.swept in
      let on : struck ≡ true = grind (arith, common_steps, cases_Bool struck, s.same, true≢false) in
      let e : max (n - from_bool (not struck)) 1 ≡ n = rw (on, s.amid.told) (grind (arith, common_steps)) in
      rw (e, s.amid.told, all.left) (swept-dead p laws K0 s.amid.whole s.first sweeps within s.amid.swept (rw all.left at dead)))
  striking-end {n} true false s past sweeps dead rest none =
      let e : max (n - 0) 1 ≡ n = rw s.amid.told (grind (arith, common_steps)) in
      rw e (amid-open s.amid past sweeps dead (none refl))
  striking-end {n} false false s past sweeps dead rest none =
      let all = amid-whole s.amid past (λ h le lt. none refl h lt) in
      let e : n - 1 ≡ s.amid.whole = omega (arith, s.amid.told) in
      rw e (swept-idle laws s.amid.whole sweeps within s.amid.swept all.left (s.same refl) (sweep-idle all (s.same refl)))

  -- the answer of a closing whose turns are visits of a queue, or else sweeps
  pub exact-end : {turns from : ℕ} {waits : ℕ → Bool} (queue struck dead : Bool) (closer : BoardAndMarks) (taken : Taken) → p.by_queue ≡ queue
      → (p.by_queue ≡ true → IsQueuedBy p K0 turns closer.trace (has closer.board) waits dead)
      → (p.by_queue ≡ false → IsSweepStriking p K0 turns from (has closer.board) waits struck)
      → from ≤ p.houses → is_dead p.cells p.values (has closer.board) ≡ dead
      → (dead ≡ true → p.by_queue ≡ false → (h : ℕ) → from ≤ h → h < p.houses → waits h ≡ false)
      → (dead ≡ false → (h : ℕ) → h < p.houses → waits h ≡ false)
      → taken.closing ≡ (if dead then Dead else Open)
      → taken.turns ≡ (if queue then turns else max (turns - from_bool (not struck)) 1)
      → IsClosedBy p queue K0 taken closer
  exact-end true struck true closer taken e queued striking past is rest none answer told =
      let q = queued e in
      record { visits = q.visits; closing = rw answer (q.queued.ended refl); many = q.many ∙ sym told; written = q.written }
  exact-end {waits = waits} true struck false closer taken e queued striking past is rest none answer told =
      let q = queued e in
      record {
        visits = q.visits;
        closing = rw answer (closing-open p laws K0 _ (has closer.board) waits e within (q.queued.running refl) (none refl));
        many = q.many ∙ sym told;
        written = q.written;
      }
  exact-end false struck dead closer taken e queued striking past is rest none answer told = record {
    visits = [];
    closing = rw (answer, told) (striking-end struck dead (striking e) past e is (λ on. rest on e) none);
    many = refl;
    written = λ _. refl;
  }

-- a board that is dead already
pub closed-none : {p : RuleSystem} (laws : IsLawful p) (queue : Bool) (closer : BoardAndMarks) → IsWithin p.cells p.values (has closer.board)
    → IsDead p (has closer.board) → IsClosedBy p queue (has closer.board) (record { closing = Dead; turns = 0 }) closer
closed-none {p} laws true closer within dead =
    record { visits = []; closing = closing-none p laws (has closer.board) within dead; many = refl; written = λ _. refl }
closed-none {p} laws false closer within dead =
    record { visits = []; closing = closing-none p laws (has closer.board) within dead; many = refl; written = λ _. refl }

-- so many turns are those of some closing
pub turns-told : {p : RuleSystem} {K : Candidates} {taken : Taken} (queue : Bool) (closer : BoardAndMarks) → p.by_queue ≡ queue
    → IsClosedBy p queue K taken closer → IsClosedIn p K taken.turns
turns-told {taken} true closer e c =
    closed-in c.closing (λ _. c.many) (λ off. absurd (true≢false (sym e ∙ off)))
turns-told false closer e c = closed-in c.closing (λ on. absurd (true≢false (sym on ∙ e))) (λ _. refl)

-- where there is room for all visits of a closing, they are written down
pub closing-written : {p : RuleSystem} {K : Candidates} {taken : Taken} (queue : Bool) (closer : BoardAndMarks) → p.by_queue ≡ queue
    → (queue ≡ true → p.bound ≤ length closer.trace) → IsClosedBy p queue K taken closer
    → (visits_in queue taken.turns ≤ length closer.trace)
    × IsClosing p K (has closer.board) taken.closing (take (visits_in queue taken.turns) closer.trace) (sweeps_in queue taken.turns)
closing-written true closer e room c =
    let fits : length c.visits ≤ length closer.trace = omega (arith, (c.closing.by_visits e).1.few, room refl) in
    (omega (arith, fits, c.many), rw (← c.many, c.written fits) c.closing)
closing-written false closer e room c = (omega arith, rw (c.closing.by_sweeps e).2 at c.closing)
