use Rattle.fields_core.proofs.LightSweeps.{planes-of}
use Rattle.fields_core.proofs.planes.light_up.light_notes.LightNotesPlaneNotesCountRulesLightPuzzle.close.Goals as goal

pub begin-self-requires-clause-planes : goal.begin-self-requires-clause-planes
begin-self-requires-clause-planes g c = planes-of c.requires.written.lawful c.requires.board

pub close-requires-clause-ready : goal.close-requires-clause-ready
close-requires-clause-ready g c = record {
  planes_of = planes-of c.requires.written.lawful c.requires.board;
  tables = c.requires.written.tables;
  rested = c.begin-self.ensures;
}

pub returns-clause-kept : goal.returns-clause-kept
returns-clause-kept g c =
    let kept = c.close.ensures.kept in
    record {
      serves = λ needs room. kept.serves needs room;
      own = λ rules own. kept.own rules.puzzle (record { lawful = own.lawful; tables = own.tables });
    }
