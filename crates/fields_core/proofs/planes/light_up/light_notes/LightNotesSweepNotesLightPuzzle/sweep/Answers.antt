use Rattle.fields_core.proofs.Common.{white_houses}
use Rattle.fields_core.proofs.LightSweeps.{lights-swept}
use Rattle.fields_core.proofs.VisitLemmas.{visited-dead, visited-more}
use Rattle.fields_core.proofs.planes.light_up.light_notes.LightNotesSweepNotesLightPuzzle.sweep.Goals as goal

pub returns-then-sweep_numbers-clause-swept : goal.returns-then-sweep_numbers-clause-swept
returns-then-sweep_numbers-clause-swept g c = lights-swept c.args.puzzle.now c.requires.planes_of.size
    (visited-more c.sweep_numbers.ensures.visited c.if-sweep_numbers.true c.sweep_white.ensures.visited)

pub returns-else-sweep_numbers-clause-swept : goal.returns-else-sweep_numbers-clause-swept
returns-else-sweep_numbers-clause-swept g c = lights-swept c.args.puzzle.now c.requires.planes_of.size
    (visited-dead (white_houses c.args.puzzle.now) c.sweep_numbers.ensures.visited c.if-sweep_numbers.false)
