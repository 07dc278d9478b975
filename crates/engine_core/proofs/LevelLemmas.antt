-- The levels of a search: their frames, and the room for them.
use Rattle.engine_core.proofs.Common.{Candidates, Frame, IsAlive, IsFewest, IsFull, IsInside, IsNext, IsOnward, IsOpen, IsReady, IsReturned, IsTrial, IsWithin, Level, Levels, List, Mark.Trial, None, RuleSystem, Some, Standing, add-one, ap, arith, cases_eq, closure, common_steps, count_below, count_below-bound, count_below-few, count_below-le, count_below-lt, count_below-pos, eq-eqb, eqb, eqb-true, false, frame_at, get_or-set_other, get_or-set_same, inl, inr, is_dead, is_dead-not, length, length-set, level_at, levels_of, marks_at, ne_eqb, only, only-at, only-here, only-inside, only-other, pending, pending_in, pick, refl, retried_at, set, singles, subst, suc, sym, true, walk, zero, ℕ, ◌++◌, ◌+◌, ◌-◌, ◌<◌, ◌∙◌, ◌∷◌, ◌≡◌, ◌≢◌, ◌≤◌}
use Rattle.engine_core.proofs.JudgeLemmas.{pick-before, pick-fewest, pick-inside, picked_not_full}
use Rattle.engine_core.proofs.ClosingLemmas.{closure_closed}
use Rattle.engine_core.proofs.QueueLemmas.{closed-but_only}
use Rattle.engine_core.proofs.SearchLemmas.{pending-pop, pending-trial, reached, reached-dead, reached-full, reached-split, walk-reached}

-- Room for the frames: each open level has one more cell with a single value.
pub singles-only : (p : RuleSystem) (K : Candidates) (cell v : ℕ) → cell < p.cells → v < p.values
    → K cell v ≡ true → 2 ≤ count_below (K cell) p.values → singles p K < singles p (only K cell v)
unfolding singles
singles-only p K cell v ltc ltv on two =
    let few = count_below-few (only K cell v cell) p.values (λ k j _ _ onk onj. only-at K cell v k onk ∙ sym (only-at K cell v j onj)) in
    let some = count_below-pos (only K cell v cell) p.values v ltv (only-here K cell v on) in
    count_below-lt _ (λ c. eqb (count_below (only K cell v c) p.values) 1) p.cells cell
    (λ c _ one. grind (arith, common_steps, cases_eq c cell, eqb-true, only-other K cell v c))
    ltc (ne_eqb _ 1 (λ one. omega arith)) (eq-eqb _ 1 (omega arith))

pub singles-inside : (p : RuleSystem) (J K : Candidates) → IsInside J K → is_dead p.cells p.values J ≡ false → singles p K ≤ singles p J
unfolding singles
singles-inside p J K inside alive = grind (arith, common_steps, count_below-le, eq-eqb, eqb-true, is_dead-not)

pub singles-room : (p : RuleSystem) (K : Candidates) {cell : ℕ} → cell < p.cells → 2 ≤ count_below (K cell) p.values → singles p K < p.cells
unfolding singles
singles-room p K {cell} lt two =
    omega (arith, count_below-bound (λ c. true) p.cells, count_below-lt (λ c. eqb (count_below (K c) p.values) 1) (λ c. true) p.cells cell (λ c _ _. refl) lt (ne_eqb _ 1 (λ one. omega arith)) refl)

pub split-room : {p : RuleSystem} {K K' : Candidates} {n cell : ℕ} → IsInside K' K → n ≤ singles p K
    → is_dead p.cells p.values K' ≡ false → pick p.cells p.values K' ≡ Some cell
    → IsWithin p.cells p.values K → K' ≡ closure p K → IsInside K' p.start → IsOpen p (record { board = K'; cell = cell; next = 0 }) n
split-room inside single alive picked within reached start = grind (arith, common_steps, closure_closed, singles-inside)

-- its cell is one with fewest values
pub open-cell : {p : RuleSystem} {level : Level} {n : ℕ} → IsOpen p level n → IsFewest p.cells p.values level.board level.cell
open-cell {p} {level} o = pick-fewest p.cells p.values level.board o.picked

pub open-room : {p : RuleSystem} {level : Level} {n : ℕ} → IsOpen p level n → n < p.cells
open-room {p} {level} o = let best = open-cell o in omega (arith, singles-room p level.board best.within best.two)

-- The levels of a search: what its frames and its marks say of the boards that are open.

-- ---- the levels of frames
frame_at-here : (frames : List Frame) (n : ℕ) (f : Frame) → n < length frames → frame_at (set frames n f) n ≡ f
frame_at-here frames n f lt = get_or-set_same frames n f (record { cell = 0; next = 0; mark = 0 }) lt

frame_at-other : (frames : List Frame) (n k : ℕ) (f : Frame) → k ≢ n → frame_at (set frames n f) k ≡ frame_at frames k
frame_at-other frames n k f ne = get_or-set_other frames n k f (record { cell = 0; next = 0; mark = 0 }) ne

levels-same : (s s' : Standing) (frames frames' : List Frame) (n : ℕ)
    → ((k : ℕ) → k < n → level_at s (frame_at frames k) ≡ level_at s' (frame_at frames' k))
    → levels_of s frames n ≡ levels_of s' frames' n
unfolding levels_of
levels-same s s' frames frames' zero same = refl
levels-same s s' frames frames' (suc n) same = rw (same n (omega arith), levels-same s s' frames frames' n (λ k lt. same k (omega arith)))

pub length-levels : (s : Standing) (frames : List Frame) (n : ℕ) → length (levels_of s frames n) ≡ n
unfolding levels_of
length-levels s frames zero = refl
length-levels s frames (suc n) = ap suc (length-levels s frames n)

-- a level whose mark gives back that board
level-with : (s : Standing) (f : Frame) {K : Candidates} → s.back f.mark ≡ K → level_at s f ≡ record { board = K; cell = f.cell; next = f.next }
level-with s f e = λ i. record { board = e i; cell = f.cell; next = f.next }

-- where the marks give back the same, the levels are the same
levels-back : (s s' : Standing) (frames : List Frame) (n : ℕ)
    → ((k : ℕ) → k < n → s'.back (frame_at frames k).mark ≡ s.back (frame_at frames k).mark) → levels_of s' frames n ≡ levels_of s frames n
levels-back s s' frames n back = levels-same s' s frames frames n (λ k lt. level-with s' (frame_at frames k) (back k lt))

-- ---- values are struck
pub levels-onward : {p : RuleSystem} (s s' : Standing) {frames : List Frame} (n : ℕ)
    → IsReady p s frames n → IsOnward s s' → levels_of s' frames n ≡ levels_of s frames n
levels-onward s s' {frames} n ready onward = levels-back s s' frames n (λ k lt. onward.back (frame_at frames k).mark (ready.marked k lt))

pub ready-onward : {p : RuleSystem} {s s' : Standing} {frames : List Frame} {n : ℕ} → IsReady p s frames n → IsOnward s s' → IsReady p s' frames n
ready-onward {p} {s} {s'} {frames} {n} ready onward =
    grind (arith, common_steps, level-with, ready.room, ready.marked, onward.grows, ready.ascend, onward.back, ready.open_levels)

-- ---- a frame is pushed, which marks the board as it is: it is the innermost level, and the others stay
abbrev pub frame_of : ℕ → ℕ → Frame
frame_of cell mark = record { cell = cell; next = 0; mark = mark }

pushed-before : (frames : List Frame) (n k : ℕ) (f : Frame) → k < n → frame_at (set frames n f) k ≡ frame_at frames k
pushed-before frames n k f less = frame_at-other frames n k f (λ e. absurd (omega arith))

pub levels-push : (s : Standing) (frames : List Frame) {n : ℕ} (cell : ℕ) → n < length frames → s.back s.len ≡ s.board
    → levels_of s (set frames n (frame_of cell s.len)) (n + 1) ≡ record { board = s.board; cell = cell; next = 0 } ∷ levels_of s frames n
unfolding levels_of
levels-push s frames cell lt here = grind (arith, common_steps, add-one, frame_at-here, pushed-before, level-with, levels-same)

pub ready-push : {p : RuleSystem} {s : Standing} (frames : List Frame) {n : ℕ} (cell : ℕ) → n < length frames → s.back s.len ≡ s.board
    → IsReady p s frames n → IsOpen p (record { board = s.board; cell = cell; next = 0 }) n → IsReady p s (set frames n (frame_of cell s.len)) (n + 1)
ready-push {p} {s} frames {n} cell lt here ready opened = record {
  room = omega (arith, ready.room, length-set frames n last);
  marked = λ k less. elim (cases_eq k n) [
    | inl e ↦ rw (e, last_is) (omega arith)
    | inr ne ↦ rw (before k (omega arith)) (ready.marked k (omega arith))
  ];
  ascend = λ j k le less. elim (cases_eq k n) [
    | inl e ↦ elim (cases_eq j n) [
      | inl f ↦ rw (e, f) (omega arith)
      | inr ne ↦ rw (e, last_is, before j (omega arith)) (ready.marked j (omega arith))
    ]
    | inr ne ↦ rw (before j (omega arith), before k (omega arith)) (ready.ascend j k le (omega arith))
  ];
  open_levels = λ k less. elim (cases_eq k n) [
    | inl e ↦ rw (e, last_is) (subst (λ l. IsOpen p l n) (sym (level-with s last here)) opened)
    | inr ne ↦ rw (before k (omega arith)) (ready.open_levels k (omega arith))
  ];
}
  where
    last : Frame
    last = frame_of cell s.len

    last_is : frame_at (set frames n last) n ≡ last
    last_is = frame_at-here frames n last lt

    before : (k : ℕ) → k < n → frame_at (set frames n last) k ≡ frame_at frames k
    before k less = pushed-before frames n k last less

-- ---- the innermost frame
levels-top : (s : Standing) (frames : List Frame) {n : ℕ} → 0 < n
    → levels_of s frames n ≡ level_at s (frame_at frames (n - 1)) ∷ levels_of s frames
    (n - 1)
unfolding levels_of
levels-top s frames lt = grind (arith, common_steps)

-- its next value is another
levels-retried : (s : Standing) (frames : List Frame) (n next : ℕ) → 0 < n → n - 1 < length frames → s.back (frame_at frames (n - 1)).mark ≡ s.board
    → levels_of s (retried_at frames n next) n
    ≡ record { board = s.board; cell = (frame_at frames (n - 1)).cell; next = next } ∷ levels_of s frames (n - 1)
levels-retried s frames n next pos lt e = grind (arith, common_steps, frame_at-here, frame_at-other, level-with, levels-same, levels-top)

mark-retried : (frames : List Frame) (n next k : ℕ) → n - 1 < length frames → (frame_at (retried_at frames n next) k).mark ≡ (frame_at frames k).mark
mark-retried frames n next k lt = grind (arith, common_steps, cases_eq k (n - 1), frame_at-here, frame_at-other)

-- the innermost level is open
pub top-open : {p : RuleSystem} {s : Standing} {frames : List Frame} {n : ℕ} → IsReady p s frames n
    → 0 < n → ((frame_at frames (n - 1)).cell < p.cells) × (n - 1 < p.cells)
top-open {p = p} {n = n} ready pos = let o = ready.open_levels (n - 1) (omega arith) in ((open-cell o).within, open-room o)

pub ready-retried : {p : RuleSystem} {s : Standing} {frames : List Frame} {n : ℕ} → IsReady p s frames n → 0 < n
    → (next : ℕ) → IsReady p s (retried_at frames n next) n
ready-retried {p} {s} {frames} {n} ready pos next = record {
  room = omega (arith, ready.room, length-set frames (n - 1) again);
  marked = λ k lt. rw (mark-retried frames n next k room) (ready.marked k lt);
  ascend = λ j k le lt. rw (mark-retried frames n next j room, mark-retried frames n next k room) (ready.ascend j k le lt);
  open_levels = λ k lt. elim (cases_eq k (n - 1)) [
    | inl e ↦ rw (e, frame_at-here frames (n - 1) again room) moved_on
    | inr ne ↦ rw (frame_at-other frames (n - 1) k again ne) (ready.open_levels k lt)
  ];
}
  where
    again : Frame
    again = record { cell = (frame_at frames (n - 1)).cell; next = next; mark = (frame_at frames (n - 1)).mark }

    room : n - 1 < length frames
    room = let few = (top-open ready pos).1 in omega (arith, few, ready.room)

    moved_on : IsOpen p (level_at s again) (n - 1)
    moved_on = let o = ready.open_levels (n - 1) (omega arith) in record { single = o.single; picked = o.picked; closed = o.closed; alive = o.alive; inside = o.inside }

-- ---- one turn of the search: the position s was taken back to s1
module _ {p : RuleSystem} {s s1 : Standing} {frames : List Frame} {n : ℕ} (ready : IsReady p s frames n) (pos : 0 < n)
    (back : IsReturned s s1 (frame_at frames (n - 1)).mark) where
  -- the innermost frame, and the levels outside it
  abbrev top : Frame
  top = frame_at frames (n - 1)

  abbrev outside : List Level
  outside = levels_of s1 frames (n - 1)

  -- its mark gives back the board
  here : s1.back top.mark ≡ s1.board
  here = back.back top.mark (omega arith) ∙ sym back.here

  -- each level gives back the same
  same_back : (k : ℕ) → k < n → s1.back (frame_at frames k).mark ≡ s.back (frame_at frames k).mark
  same_back k lt = back.back (frame_at frames k).mark (ready.ascend k (n - 1) (omega arith) (omega arith))

  pub ready-back : IsReady p s1 frames n
  ready-back = record {
    room = ready.room;
    marked = λ k lt. rw back.len (ready.ascend k (n - 1) (omega arith) (omega arith));
    ascend = ready.ascend;
    open_levels = λ k lt. subst (λ l. IsOpen p l k) (sym (level-with s1 (frame_at frames k) (same_back k lt))) (ready.open_levels k lt);
  }

  -- the innermost level is open
  pub open-back : IsOpen p (record { board = s1.board; cell = top.cell; next = top.next }) (n - 1)
  open-back = subst (λ l. IsOpen p l (n - 1)) (level-with s1 top here) (ready-back.open_levels (n - 1) (omega arith))

  -- what it still has to give
  pending-back : pending_in p s frames n ≡ pending p (record { board = s1.board; cell = top.cell; next = top.next } ∷ outside)
  pending-back =
      let same = levels-back s s1 frames n same_back in
      ap (pending p) (sym same ∙ levels-top s1 frames pos ∙ ap (λ (l : Level). l ∷ outside) (level-with s1 top here))

  -- where its cell has no value left, it is done
  pub turn-done : IsNext (s1.board top.cell) p.values top.next None → pending_in p s frames n ≡ pending_in p s1 frames (n - 1)
  turn-done none = pending-back ∙ pending-pop p _ outside none

  -- else one value is left in the cell
  module _ {s2 : Standing} (v : ℕ) (next : IsNext (s1.board top.cell) p.values top.next (Some v))
      (left : s2.board ≡ only s1.board top.cell v) (onward : IsOnward s1 s2) where
    -- with its next value moved on
    abbrev moved : List Frame
    moved = retried_at frames n (v + 1)

    room : n - 1 < length frames
    room = omega (arith, open-room open-back, ready.room)

    retried : IsReady p s1 moved n
    retried = ready-retried ready-back pos (v + 1)

    pub turn-ready : {now : List Frame} → now ≡ moved → IsReady p s2 now n
    turn-ready e = rw e (ready-onward retried onward)

    marks : pending_in p s frames n ≡ Trial n s2.board ∷ (walk p n s2.board ++ pending_in p s2 moved n)
    marks =
        let long : suc (length outside) ≡ n = omega (arith, length-levels s1 frames (n - 1)) in
        let again = levels-retried s1 frames n (v + 1) pos room here in
        let last = levels-onward s1 s2 n retried onward in
        let trial = pending-trial p (record { board = s1.board; cell = top.cell; next = top.next }) outside v next.0 next.1 next.2 next.3 in
        pending-back ∙ cc

    pub turn-trial : IsWithin p.cells p.values s1.board → {now : Levels} → now.frames.items ≡ moved → now.depth ≡ n → IsTrial p (pending_in p s frames n) s2 now top.cell
    turn-trial within f d = record {
      marks_are = let m = marks in cc;
      closed_but = rw left (closed-but_only p s1.board top.cell v next.2 within open-back.closed open-back.alive);
      none_before =
          λ two. rw left (pick-inside top.cell p.values _ s1.board (only-inside s1.board top.cell v)
          (pick-before p.cells p.values s1.board two open-back.picked));
      single = rw left (let s = open-back.single in omega (arith, singles-only p s1.board top.cell v best.within next.1 next.2 best.two));
      deep = omega (arith, open-room open-back);
    }
      where
        best : IsFewest p.cells p.values s1.board top.cell
        best = open-cell open-back

-- under no frame nothing else is pending
pub walk-alone : (p : RuleSystem) (K : Candidates) (s : Standing) (frames : List Frame) → walk p 0 K ++ pending_in p s frames 0 ≡ walk p 0 K
unfolding levels_of pending
walk-alone p K s frames = grind (arith, common_steps)

-- A board is closed and judged: the marks that are to come then.

-- ---- a closing and its judgement, as equations of the marks that are to come
-- the board of s under these frames, and the board of s' that its closing left
pub record IsDescent (p : RuleSystem) (s s' : Standing) (frames : List Frame) (n : ℕ) : Type 0 where
  pub ready : IsReady p s frames n
  pub onward : IsOnward s s'
  pub within : IsWithin p.cells p.values s.board

to_reached : (p : RuleSystem) (s s' : Standing) {frames : List Frame} (n : ℕ)
    → IsDescent p s s' frames n → walk p n s.board ++ pending_in p s frames n ≡ reached p
    (closure p s.board) (levels_of s' frames n)
to_reached p s s' {frames} n d =
    let levels : List Level = levels_of s' frames n in
    rw (← levels-onward s s' n d.ready d.onward)
    (ap (λ (m : ℕ). walk p m s.board ++ pending p levels) (sym (length-levels s' frames n)) ∙ walk-reached p levels d.within)

-- the same where the closure is left
to_open : {p : RuleSystem} {s s' : Standing} {frames : List Frame} {n : ℕ} → IsDescent p s s' frames n → s'.board ≡ closure p s.board
    → walk p n s.board ++ pending_in p s frames n ≡ reached p s'.board (levels_of s' frames n)
to_open {p} {s} {s'} {frames} {n} d left = to_reached p s s' n d ∙ ap (λ (E : Candidates). reached p E (levels_of s' frames n)) (sym left)

pub descend-dead : {p : RuleSystem} {s s' : Standing} {frames : List Frame} {n : ℕ}
    → IsDescent p s s' frames n → is_dead p.cells p.values (closure p s.board) ≡ true
    → walk p n s.board ++ pending_in p s frames n ≡ pending_in p s' frames n
descend-dead {p} {s} {s'} {frames} {n} d dead = to_reached p s s' n d ∙ reached-dead p _ (levels_of s' frames n) dead

module _ {p : RuleSystem} {s s' : Standing} {frames : List Frame} {n : ℕ} (d : IsDescent p s s' frames n)
    (left : s'.board ≡ closure p s.board) (alive : IsAlive p s'.board) where
  pub descend-full : IsFull p s'.board → walk p n s.board ++ pending_in p s frames n ≡ marks_at p s'.board ++ pending_in p s' frames n
  descend-full full = to_open d left ∙ reached-full p s'.board (levels_of s' frames n) alive full

  pub descend-split : (cell : ℕ) → pick p.cells p.values s'.board ≡ Some cell → n < length frames → s'.back s'.len ≡ s'.board
      → walk p n s.board ++ pending_in p s frames n ≡ pending_in p s' (set frames n (frame_of cell s'.len)) (n + 1)
  descend-split cell picked lt here =
      to_open d left ∙ (reached-split p s'.board (levels_of s' frames n) alive (picked_not_full p.cells p.values s'.board cell picked) picked
      ∙ ap (pending p) (sym (levels-push s' frames cell lt here)))
