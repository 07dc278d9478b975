use Rattle.fields_core.proofs.Common.{[], refl}
use Rattle.fields_core.proofs.TentWaits.{houses-swept}
use Rattle.fields_core.proofs.TentTouching.{last-visited}
use Rattle.fields_core.proofs.VisitLemmas.{visited-more}
use Rattle.fields_core.proofs.planes.tents.tent_notes.TentNotesSweepNotesTentsPuzzle.sweep.Goals as goal

pub returns-then-not-sweep_kind-clause-swept : goal.returns-then-not-sweep_kind-clause-swept
returns-then-not-sweep_kind-clause-swept g c = houses-swept c.args.puzzle.now c.requires.field.size (c.sweep_kind.ensures.visited.dies c.if-not-sweep_kind.true [])

pub returns-then-not-sweep_kind-2-clause-swept : goal.returns-then-not-sweep_kind-2-clause-swept
returns-then-not-sweep_kind-2-clause-swept g c =
    houses-swept c.args.puzzle.now c.requires.field.size (visited-more (c.sweep_kind.ensures.visited.left c.if-not-sweep_kind.false) refl
    (c.sweep_kind-2.ensures.visited.dies c.if-not-sweep_kind-2.true []))

pub returns-then-sweep_kind-clause-swept : goal.returns-then-sweep_kind-clause-swept
returns-then-sweep_kind-clause-swept g c =
    houses-swept c.args.puzzle.now c.requires.field.size (visited-more (c.sweep_kind.ensures.visited.left c.if-not-sweep_kind.false) refl
    (visited-more (c.sweep_kind-2.ensures.visited.left c.if-not-sweep_kind-2.false) refl
    (visited-more (c.sweep_kind-3.ensures.visited.left c.if-sweep_kind.true) refl (last-visited c.args.puzzle.now c.sweep_kind-then-sweep_kind.ensures.visited))))

pub returns-else-sweep_kind-clause-swept : goal.returns-else-sweep_kind-clause-swept
returns-else-sweep_kind-clause-swept g c =
    houses-swept c.args.puzzle.now c.requires.field.size (visited-more (c.sweep_kind.ensures.visited.left c.if-not-sweep_kind.false) refl
    (visited-more (c.sweep_kind-2.ensures.visited.left c.if-not-sweep_kind-2.false) refl
    (rw c.if-sweep_kind.false (c.sweep_kind-3.ensures.visited.dies c.if-sweep_kind.false []))))
