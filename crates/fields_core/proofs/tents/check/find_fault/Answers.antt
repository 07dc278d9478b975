use Rattle.fields_core.proofs.Common.{FailsTents, [], arith, column_right, common_steps, first_in, none_right, not, row_right, sym, touch_right, tree_right, ◌∙◌, ◌∷◌}
use Rattle.fields_core.proofs.RuleLemmas.{IsFirstWrong, all-right, first-wrong}
use Rattle.fields_core.proofs.TentRuleLemmas.{columns, kinds, match, rows, tents-made, tents-sound, touch, trees}
use Rattle.fields_core.proofs.tents.check.find_fault.Goals as goal
use Rattle.fields_core.proofs.tents.check.find_fault.Goals.{After-next_passing, After-next_passing-2, After-next_passing-3, After-next_passing-4}

found-trees : (c : After-next_passing) → IsFirstWrong (trees c.args.puzzle.now c.args.grid.now) c.next_passing.result
unfolding tree_right
found-trees c = rw (c.cells-end.ensures.value, c.size-size.ensures.value) at (c.next_passing.ensures (λ k. not (tree_right c.args.puzzle.now c.args.grid.now k)) (λ d answer lt met. grind (arith, common_steps)))

found-touch : (c : After-next_passing-2) → IsFirstWrong (touch c.args.puzzle.now c.args.grid.now) c.next_passing-2.result
unfolding touch_right
found-touch c = rw (c.cells-end.ensures.value, c.size-size.ensures.value) at (c.next_passing-2.ensures (λ k. not (touch_right c.args.puzzle.now c.args.grid.now k)) (λ d answer lt met. grind (arith, common_steps)))

found-columns : (c : After-next_passing-3) → IsFirstWrong (columns c.args.puzzle.now c.args.grid.now) c.next_passing-3.result
unfolding column_right
found-columns c = rw (c.from.ensures, c.w.ensures.value, c.size-size.ensures.value) at (c.next_passing-3.ensures (λ k. not (column_right c.args.puzzle.now c.args.grid.now k)) (λ d answer lt met. grind (arith, common_steps)))

found-rows : (c : After-next_passing-4) → IsFirstWrong (rows c.args.puzzle.now c.args.grid.now) c.next_passing-4.result
unfolding row_right
found-rows c = rw (c.from-2.ensures, c.h.ensures.value, c.size-size.ensures.value) at (c.next_passing-4.ensures (λ k. not (row_right c.args.puzzle.now c.args.grid.now k)) (λ d answer lt met. grind (arith, common_steps)))

pub returns-in-Some-clause-fault : goal.returns-in-Some-clause-fault
returns-in-Some-clause-fault c =
    let p = c.args.puzzle.now in let g = c.args.grid.now in
    first-wrong (FailsTents p g) [] (trees p g) (touch p g ∷ columns p g ∷ rows p g ∷ match p g ∷ []) (tents-made p g c.requires.fits)
    tt
    (rw c.in-Some.is at (found-trees (goal.at.returns-in-Some-clause-fault c).After-next_passing))

pub returns-in-Some-next_passing-clause-fault : goal.returns-in-Some-next_passing-clause-fault
returns-in-Some-next_passing-clause-fault c =
    let p = c.args.puzzle.now in let g = c.args.grid.now in let q = goal.at.returns-in-Some-next_passing-clause-fault c in
    first-wrong (FailsTents p g) (trees p g ∷ []) (touch p g) (columns p g ∷ rows p g ∷ match p g ∷ []) (tents-made p g c.requires.fits)
    (rw c.in_default.is at (found-trees q.After-next_passing), tt)
    (rw c.in-Some-next_passing.is at (found-touch q.After-next_passing-2))

pub returns-in-Some-next_passing-2-clause-fault : goal.returns-in-Some-next_passing-2-clause-fault
returns-in-Some-next_passing-2-clause-fault c =
    let p = c.args.puzzle.now in let g = c.args.grid.now in let q = goal.at.returns-in-Some-next_passing-2-clause-fault c in
    first-wrong (FailsTents p g) (trees p g ∷ touch p g ∷ []) (columns p g) (rows p g ∷ match p g ∷ []) (tents-made p g c.requires.fits)
    (rw c.in_default.is at (found-trees q.After-next_passing), (rw c.in_default-next_passing.is at (found-touch q.After-next_passing-2), tt))
    (rw c.in-Some-next_passing-2.is at (found-columns q.After-next_passing-3))

pub returns-in-Some-next_passing-3-clause-fault : goal.returns-in-Some-next_passing-3-clause-fault
returns-in-Some-next_passing-3-clause-fault c =
    let p = c.args.puzzle.now in let g = c.args.grid.now in let q = goal.at.returns-in-Some-next_passing-3-clause-fault c in
    first-wrong (FailsTents p g) (trees p g ∷ touch p g ∷ columns p g ∷ []) (rows p g) (match p g ∷ []) (tents-made p g c.requires.fits)
    (rw c.in_default.is at (found-trees q.After-next_passing), (rw c.in_default-next_passing.is at (found-touch q.After-next_passing-2), (rw c.in_default-next_passing-2.is at (found-columns q.After-next_passing-3), tt)))
    (rw c.in-Some-next_passing-3.is at (found-rows q.After-next_passing-4))

pub returns-clause-fault : goal.returns-clause-fault
returns-clause-fault c =
    let p = c.args.puzzle.now in let g = c.args.grid.now in let q = goal.at.returns-clause-fault c in
    first_in (FailsTents p g) (trees p g ∷ touch p g ∷ columns p g ∷ rows p g ∷ []) (match p g) [] (tents-made p g c.requires.fits)
    (all-right (FailsTents p g) (trees p g ∷ touch p g ∷ columns p g ∷ rows p g ∷ [])
    (rw c.in_default.is at (found-trees q.After-next_passing), (rw c.in_default-next_passing.is at (found-touch q.After-next_passing-2), (rw c.in_default-next_passing-2.is at (found-columns q.After-next_passing-3), (rw c.in_default-next_passing-3.is at (found-rows q.After-next_passing-4), tt)))))
    0 (omega arith) (sym c.are_paired.ensures.paired ∙ c.if-are_paired.false) (λ d low. absurd (omega arith))

pub returns-then-are_paired-clause-fault : goal.returns-then-are_paired-clause-fault
returns-then-are_paired-clause-fault c =
    let p = c.args.puzzle.now in let g = c.args.grid.now in let q = goal.at.returns-then-are_paired-clause-fault c in
    let r = all-right (FailsTents p g) (trees p g ∷ touch p g ∷ columns p g ∷ rows p g ∷ [])
    (rw c.in_default.is at (found-trees q.After-next_passing), (rw c.in_default-next_passing.is at (found-touch q.After-next_passing-2), (rw c.in_default-next_passing-2.is at (found-columns q.After-next_passing-3), (rw c.in_default-next_passing-3.is at (found-rows q.After-next_passing-4), tt)))) in
    tents-sound p g c.requires.fits (none_right (FailsTents p g) (kinds p g) (tents-made p g c.requires.fits)
    (r.0, (r.1.0, (r.1.1.0, (r.1.1.1.0, ((λ k lt. sym c.are_paired.ensures.paired ∙ c.if-are_paired.true), tt))))))
