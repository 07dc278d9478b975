use Rattle.engine_core.proofs.Common.{arith, change_at, has_place, ◌<◌, ◌≡◌, ◌≤◌}
use Rattle.engine_core.proofs.QueueLemmas.{woken-by_none}
use Rattle.engine_core.proofs.TrailLemmas.{since-woken, since-first}
use Rattle.engine_core.proofs.trail.noting.wake_since.Goals as goal
use Rattle.engine_core.proofs.trail.noting.wake_since.Goals.{After-changed-place, else-count-eq1, then-count-eq1+else-last_first, then-count-eq1+then-last_first}

pub loop-number-init : goal.loop-number-init
loop-number-init g c =
    let p = g.S.RuleSet.system (g.S.RuleSet.puzzle_of c.args.rules.now.set) in
    let t = c.args.trailed.now in
    record {
      woken = woken-by_none (λ j lt. since-first (λ m. has_place (p.scope j) (change_at t.changes m).0) c.args.from);
      noted = c.requires.noted;
      keeps = λ needs made. made;
    }

-- the changed cell is one of the board
place_in : (g : _) (c : After-changed-place g) → c.changed-place.result < (g.S.RuleSet.system (g.S.RuleSet.puzzle_of c.args.rules.now.set)).cells
place_in g c = rw (← c.requires.board_of.same_cells) c.changed-place.ensures.within

pub join_place-requires-clause-marks : goal.join_place-requires-clause-marks
join_place-requires-clause-marks g c = c.marks-words.ensures.fit _ (place_in g (goal.at.join_place-requires-clause-marks g c).After-changed-place)

pub join_place-requires-clause-waits : goal.join_place-requires-clause-waits
join_place-requires-clause-waits g c = omega (arith, c.marks-words.ensures.as_many, c.requires.room)

pub loop-number-preserved : goal.loop-number-preserved
loop-number-preserved g c =
    let p = g.S.RuleSet.system (g.S.RuleSet.puzzle_of c.args.rules.now.set) in
    let t = c.args.trailed.now in
    let i = c.loop-number.invariant in
    let le : c.args.from ≤ c.loop-number.number = omega arith in
    let woken = since-woken p t le i.woken (rw c.changed-place.ensures.place at (c.marks-words.ensures.wake c.changed-place.result _ _ (place_in g (goal.at.loop-number-preserved g c).After-changed-place) c.join_place.ensures)) in
    elim c.if-count-eq1.branch [
      | then-count-eq1+then-last_first w ↦ rw w.notes-is (record {
        woken = woken;
        noted = rw c.board-board.ensures at w.single.ensures.noted;
        keeps = λ needs made. w.single.ensures.keeps needs (i.keeps needs made);
      })
      | then-count-eq1+else-last_first w ↦ rw w.notes-is (record {
        woken = woken;
        noted = rw c.board-board.ensures at w.single.ensures.noted;
        keeps = λ needs made. w.single.ensures.keeps needs (i.keeps needs made);
      })
      | else-count-eq1 w ↦ rw w.notes-is (record { woken = woken; noted = i.noted; keeps = i.keeps })
    ]

pub returns-clause-woken : goal.returns-clause-woken
returns-clause-woken g c = let all : c.loop-number.number ≡ c.args.trailed.now.len = omega arith in rw all at c.loop-number.invariant.woken
