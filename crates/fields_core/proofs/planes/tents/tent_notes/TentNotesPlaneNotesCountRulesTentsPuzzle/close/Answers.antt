use Rattle.fields_core.proofs.TentWaits.{field-of}
use Rattle.fields_core.proofs.planes.tents.tent_notes.TentNotesPlaneNotesCountRulesTentsPuzzle.close.Goals as goal

pub close-requires-clause-ready : goal.close-requires-clause-ready
close-requires-clause-ready g c = record { field = field-of c.requires.written c.requires.board; rested = c.new-self.ensures }
