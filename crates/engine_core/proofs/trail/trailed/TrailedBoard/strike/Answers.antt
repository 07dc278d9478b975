use Rattle.engine_core.proofs.Common.{IsBitsOf, after, ap, arith, bit_and, cases_eq, has, inl, inr, length, refl, slice_index, sym, take, ◌+◌, ◌<◌, ◌∙◌, ◌≡◌, ◌≤◌}
use Rattle.std.proofs.lemmas.List.{get_or-take, length-take-le}
use Rattle.engine_core.proofs.SetLemmas.{bits-are}
use Rattle.engine_core.proofs.TrailLemmas.{IsStruckUpto, IsUpto, further-more, further-none, kept-left-one, left-alive, lost-differ, lost-more, struck-alive, struck-dead, struck-some, struck-to, upto-all, upto-cell, upto-left, upto-next, upto-same, lost-same}
use Rattle.engine_core.proofs.QueueLemmas.{IsBoardOf-same, scope-in, within_of}
use Rattle.engine_core.proofs.trail.trailed.TrailedBoard.strike.Goals as goal
use Rattle.engine_core.proofs.trail.trailed.TrailedBoard.strike.Goals.{After-bits-had, After-number-k, then-left-had+else-left-eq0, else-left-had}

-- the cell of this turn is a listed one
numbered : (g : _) (c : After-number-k g) → (c.loop-i.i < length (take c.args.count (g.N.Notes.numbers c.args.notes.now))) × (c.number-k.result ≡ slice_index (take c.args.count (g.N.Notes.numbers c.args.notes.now)) c.loop-i.i)
numbered g c = (omega (arith, length-take-le c.args.count (g.N.Notes.numbers c.args.notes.now) c.requires.marked.few), c.number-k.ensures ∙ sym (get_or-take c.args.count (g.N.Notes.numbers c.args.notes.now) c.loop-i.i 0 (omega arith)))

listed : (g : _) (c : After-bits-had g) → (c.loop-i.i < length (take c.args.count (g.N.Notes.numbers c.args.notes.now))) × (c.number-k.result ≡ slice_index (take c.args.count (g.N.Notes.numbers c.args.notes.now)) c.loop-i.i)
listed g c = (omega (arith, length-take-le c.args.count (g.N.Notes.numbers c.args.notes.now) c.requires.marked.few), c.number-k.ensures ∙ sym (get_or-take c.args.count (g.N.Notes.numbers c.args.notes.now) c.loop-i.i 0 (omega arith)))

-- and so one of the house
in_scope : (g : _) (c : After-number-k g) → c.number-k.result < length ((g.S.RuleSet.system (g.S.RuleSet.puzzle_of c.args.rules.now.set)).scope c.args.house)
in_scope g c = let n = numbered g c in omega (arith, n.1, c.requires.marked.strike.rising.within c.loop-i.i n.0)

within : (g : _) (c : After-bits-had g) → c.number-k.result < length ((g.S.RuleSet.system (g.S.RuleSet.puzzle_of c.args.rules.now.set)).scope c.args.house)
within g c = let n = listed g c in omega (arith, n.1, c.requires.marked.strike.rising.within c.loop-i.i n.0)

-- all before it are done
here : (g : _) (c : After-bits-had g) → IsStruckUpto (g.S.RuleSet.system (g.S.RuleSet.puzzle_of c.args.rules.now.set)) c.args.house c.number-k.result c.args.self.now c.loop-i.self
here g c =
    let i = c.loop-i.invariant in
    let n = listed g c in
    struck-to (g.met.S.RuleSet.lawful _ (g.met.S.RuleSet.knows c.args.rules.now.set)) c.args.self.now c.loop-i.self (take c.args.count (g.N.Notes.numbers c.args.notes.now)) c.loop-i.i c.number-k.result c.requires.house_in
    c.requires.alive c.requires.marked.strike.rising c.requires.marked.strike.others (omega (arith, n.1, i.ahead c.loop-i.i (omega arith) n.0))
    (omega (arith, within g c)) i.before
    (λ t le lt. elim (cases_eq t c.loop-i.i) [
      | inl e ↦ omega (arith, n.1, ap (slice_index (take c.args.count (g.N.Notes.numbers c.args.notes.now))) e)
      | inr ne ↦ omega (arith, n.1, c.requires.marked.strike.rising.rising c.loop-i.i t (omega arith) lt)
    ]) i.upto

-- its set is the one that it had at first
was : (g : _) (c : After-bits-had g) → IsBitsOf (has c.args.self.now.board (slice_index ((g.S.RuleSet.system (g.S.RuleSet.puzzle_of c.args.rules.now.set)).scope c.args.house) c.number-k.result))
    (g.S.RuleSet.system (g.S.RuleSet.puzzle_of c.args.rules.now.set)).values c.bits-had.result
was g c =
    let of = rw (← c.self.view_is) at (IsBoardOf-same c.requires.board_of c.loop-i.invariant.further.shape) in
    let next = upto-next (g.met.S.RuleSet.lawful _ (g.met.S.RuleSet.knows c.args.rules.now.set)) c.requires.house_in (within g c) (here g c).upto in
    rw (← next, ← c.places-places.ensures, ← c.self.view_is, ← of.same_values) (bits-are c.self.inside.board _ c.bits-had.ensures.small c.bits-had.ensures.same)

left : (g : _) (c : After-bits-had g) → IsBitsOf (after (g.S.RuleSet.system (g.S.RuleSet.puzzle_of c.args.rules.now.set)) c.args.house (has c.args.self.now.board) (slice_index ((g.S.RuleSet.system (g.S.RuleSet.puzzle_of c.args.rules.now.set)).scope c.args.house) c.number-k.result))
    (g.S.RuleSet.system (g.S.RuleSet.puzzle_of c.args.rules.now.set)).values (bit_and c.bits-had.result (slice_index c.kept-kept.result.now c.number-k.result))
left g c =
    let n = listed g c in
    kept-left-one (g.S.RuleSet.system (g.S.RuleSet.puzzle_of c.args.rules.now.set)) c.args.house (has c.args.self.now.board) c.kept-kept.result.now c.number-k.result
    (rw (n.1, c.kept-kept.ensures) (c.requires.marked.strike.kept c.loop-i.i n.0)) (was g c)

pub loop-i-init : goal.loop-i-init
loop-i-init g c = record {
  done = 0;
  within = omega arith;
  before = λ t lt low. absurd (omega arith);
  ahead = λ t le lt. omega arith;
  upto = record {
    upto = record { done = λ j v lt. absurd (omega arith); rest = λ c v none. refl };
    some = λ j lt. absurd (omega arith);
    lost = record { only = λ m a b. absurd (omega arith); all = λ j lt. absurd (omega arith) };
  };
  alive = c.requires.alive;
  further = further-none;
}

pub bits-had-requires : goal.bits-had-requires
bits-had-requires g c =
    let k = (goal.at.bits-had-requires g c).After-number-k in
    let of = rw (← c.self.view_is) at (IsBoardOf-same c.requires.board_of c.loop-i.invariant.further.shape) in
    rw (c.places-places.ensures, of.same_cells) (scope-in (g.met.S.RuleSet.lawful _ (g.met.S.RuleSet.knows c.args.rules.now.set)) c.number-k.result c.requires.house_in (in_scope g k))

pub leave-requires-clause-place_in : goal.leave-requires-clause-place_in
leave-requires-clause-place_in g c =
    let k = (goal.at.leave-requires-clause-place_in g c).After-number-k in
    rw c.places-places.ensures (scope-in (g.met.S.RuleSet.lawful _ (g.met.S.RuleSet.knows c.args.rules.now.set)) c.number-k.result c.requires.house_in (in_scope g k))

pub leave-requires-clause-left : goal.leave-requires-clause-left
leave-requires-clause-left g c =
    let b = (goal.at.leave-requires-clause-left g c).After-bits-had in
    let left = left g b in
    rw (
      c.places-places.ensures,
      upto-cell (g.met.S.RuleSet.lawful _ (g.met.S.RuleSet.knows c.args.rules.now.set)) c.requires.house_in (within g b) (within_of _ _ c.requires.board_of) (here g b).upto left,
    ) left

pub returns-then-left-eq0-clause-dead : goal.returns-then-left-eq0-clause-dead
returns-then-left-eq0-clause-dead g c = λ _.
    let b = (goal.at.returns-then-left-eq0-clause-dead g c).After-bits-had in
    struck-dead (g.met.S.RuleSet.lawful _ (g.met.S.RuleSet.knows c.args.rules.now.set)) _ c.requires.house_in (within g b) (rw c.if-left-eq0.true at (left g b))

pub loop-i-preserved : goal.loop-i-preserved
loop-i-preserved g c =
    let i = c.loop-i.invariant in
    let laws = g.met.S.RuleSet.lawful _ (g.met.S.RuleSet.knows c.args.rules.now.set) in
    let b = (goal.at.loop-i-preserved g c).After-bits-had in
    let k = c.number-k.result in
    let n = listed g b in
    let s = here g b in
    let was = was g b in
    let left = left g b in
    let lt = within g b in
    let inside = within_of _ _ c.requires.board_of in
    let some = struck-some laws (has c.args.self.now.board) c.requires.house_in lt c.requires.alive was left in
    let before : (t : _) → t < c.loop-i.i + 1 → t < length (take c.args.count (g.N.Notes.numbers c.args.notes.now)) → slice_index (take c.args.count (g.N.Notes.numbers c.args.notes.now)) t < k + 1 =
    λ t low lr. elim (cases_eq t c.loop-i.i) [
      | inl e ↦ omega (arith, n.1, ap (slice_index (take c.args.count (g.N.Notes.numbers c.args.notes.now))) e)
      | inr ne ↦ omega (arith, n.1, c.requires.marked.strike.rising.rising t c.loop-i.i (omega arith) (omega arith))
    ] in
    let ahead : (t : _) → c.loop-i.i + 1 ≤ t → t < length (take c.args.count (g.N.Notes.numbers c.args.notes.now)) → k + 1 ≤ slice_index (take c.args.count (g.N.Notes.numbers c.args.notes.now)) t =
    λ t le lr. omega (arith, n.1, c.requires.marked.strike.rising.rising c.loop-i.i t (omega arith) lr) in
    elim c.if-left-had.branch [
      | then-left-had+else-left-eq0 w ↦
          let e = w.leave.ensures in
          let upto : IsUpto (g.S.RuleSet.system (g.S.RuleSet.puzzle_of c.args.rules.now.set)) c.args.house (k + 1) (has c.args.self.now.board) (has w.leave.new.self.board) =
          rw (e.left, c.places-places.ensures) (upto-left laws c.requires.house_in lt inside s.upto left) in
          rw w.self-is (record {
            done = k + 1;
            within = omega (arith, lt);
            before = before;
            ahead = ahead;
            upto = record {
              upto = upto;
              some = λ j less. elim (cases_eq j k) [
                | inl same ↦ rw same (some (inr w.if-left-eq0.false))
                | inr ne ↦ s.some j (omega arith)
              ];
              lost = lost-more laws _ c.requires.house_in lt i.further.grows e.longer (rw c.places-places.ensures at e.noted) e.earlier (rw c.places-places.ensures at e.left)
                  (lost-differ _ upto was left w.if-left-had.true) s.lost;
            };
            alive = rw e.left (left-alive (g.S.RuleSet.system (g.S.RuleSet.puzzle_of c.args.rules.now.set)) (has c.loop-i.self.board) _ _ i.alive
                (rw (c.places-places.ensures, upto-cell laws c.requires.house_in lt inside s.upto left) left) w.if-left-eq0.false);
            further = further-more i.further e.further;
          })
      | else-left-had w ↦ rw w.self-is (record {
        done = k + 1;
        within = omega (arith, lt);
        before = before;
        ahead = ahead;
        upto = record {
          upto = upto-same laws c.requires.house_in lt inside s.upto was (rw w.if-left-had.false at left);
          some = λ j less. elim (cases_eq j k) [
            | inl same ↦ rw same (some (inl w.if-left-had.false))
            | inr ne ↦ s.some j (omega arith)
          ];
          lost = lost-same laws c.requires.house_in lt s.upto s.lost;
        };
        alive = i.alive;
        further = i.further;
      })
    ]

pub returns-clause-struck : goal.returns-clause-struck
returns-clause-struck g c = λ _.
    let i = c.loop-i.invariant in
    let laws = g.met.S.RuleSet.lawful _ (g.met.S.RuleSet.knows c.args.rules.now.set) in
    let p = g.S.RuleSet.system (g.S.RuleSet.puzzle_of c.args.rules.now.set) in
    let s = struck-to laws c.args.self.now c.loop-i.self (take c.args.count (g.N.Notes.numbers c.args.notes.now)) c.loop-i.i (length (p.scope c.args.house)) c.requires.house_in
    c.requires.alive c.requires.marked.strike.rising c.requires.marked.strike.others i.within (omega arith) i.before (λ t le lt. absurd (omega (arith, length-take-le c.args.count (g.N.Notes.numbers c.args.notes.now) c.requires.marked.few))) i.upto in
    let left = upto-all laws c.requires.house_in s.upto in
    record {
      left = left;
      alive = rw left (struck-alive laws (has c.args.self.now.board) c.requires.house_in c.requires.alive s.some);
      lost = s.lost;
    }
