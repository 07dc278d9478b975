-- Tents, as the commands know it.
use Rattle.std.specs.Prelude.{[], ◌++◌, ◌&&◌, Result, Ok, Err, codes, decimal, if◌then◌else◌, nat_le}
use Rattle.fields_core.specs.declared.tents.fault.TentFault.{TentFault}
use Rattle.fields_core.specs.declared.tents.fault.TentFault.TheVariants as tent
use Rattle.gameid_core.specs.Steps.{◌>>=◌}
use Rattle.gameid_core.specs.TentsText.{SpellsTents, tents_of, tents_text}
use Rattle.gameid_core.specs.declared.id.fault.IdFault.TheVariants.{SizeRange}
use Rattle.gameid_core.specs.declared.id.game.Game.TheVariants as game
use Rattle.maker_core.specs.TentMaking.{IsTentsMade, tent_filling, tents_pass}
use Rattle.maker_core.specs.Draws.{NonePasses}
use Rattle.commands.specs.Common.{IdFault, IsTentFault, IsTentSolution, SizeRead, Tents, extent_of, size_of, tent_hides, tent_rules, tents_cell}
use Rattle.commands.specs.Answers.{Text}
use Rattle.commands.specs.CheckAnswers.{SaysFault, place_text}
use Rattle.commands.specs.Grades.{only_set}
use Rattle.commands.specs.PuzzleFacts.{PuzzleFacts}
use Rattle.commands.specs.declared.grade.grades.GradedRules.TheVariants.{Local}

abbrev pub tent_fault : Tents → TentFault → Text
tent_fault p (tent.Tree place) = codes "tree " ++ place_text p.size.w place
tent_fault p (tent.Touch place) = codes "touch " ++ place_text p.size.w place
tent_fault p (tent.Column x) = codes "column " ++ decimal x
tent_fault p (tent.Row y) = codes "row " ++ decimal y
tent_fault p tent.Match = codes "match"

-- the size that the whole text is, within the limits of what is made: a side is at least 4
abbrev pub tents_sizes : Text → Result SizeRead IdFault
tents_sizes text = size_of game.Tents text >>= (λ size.
    if nat_le 4 size.w && nat_le 4 size.h then Ok size else Err SizeRange)

abbrev pub tents_facts : PuzzleFacts Tents
tents_facts = record {
  extent = λ p. p.size;
  value_count = λ p. 2;
  cell_text = tents_cell;
  hides = tent_hides;
  game = record {
    reading = tents_of;
    spells = SpellsTents;
    written = tents_text;
    solves = IsTentSolution;
    rules = tent_rules;
    checks = λ p g. SaysFault (IsTentFault p g) (tent_fault p);
    sets = λ p. only_set Local (tent_rules p);
    visit_name = λ p h. [];
    sizes = tents_sizes;
    makes = λ size w m. IsTentsMade (extent_of size) w.budget w.tries w.stream
        m.puzzle m.solution m.kept;
    makes_none = λ size w. NonePasses (tent_filling (extent_of size))
        (tents_pass (extent_of size) w.budget) w.stream w.tries;
  };
}
