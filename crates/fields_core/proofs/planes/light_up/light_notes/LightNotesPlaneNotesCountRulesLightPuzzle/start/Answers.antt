use Rattle.fields_core.proofs.planes.light_up.light_notes.LightNotesPlaneNotesCountRulesLightPuzzle.start.Goals as goal

pub returns-clause-keeps : goal.returns-clause-keeps
returns-clause-keeps g c = λ needs room. c.write_columns.ensures.room needs.cells _ (c.start_rows.ensures.room needs.cells _ room)
