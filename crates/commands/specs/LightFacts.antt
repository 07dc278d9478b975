-- Light Up, as the commands know it.
use Rattle.std.specs.Prelude.{[], ◌++◌, codes}
use Rattle.fields_core.specs.declared.light_up.fault.LightFault.{LightFault}
use Rattle.fields_core.specs.declared.light_up.fault.LightFault.TheVariants as light
use Rattle.gameid_core.specs.LightText.{SpellsLight, light_of, light_text}
use Rattle.gameid_core.specs.declared.id.game.Game.TheVariants as game
use Rattle.maker_core.specs.LightMaking.{IsLightMade, light_filling, light_passes}
use Rattle.maker_core.specs.Draws.{NonePasses}
use Rattle.commands.specs.Common.{IsLightFault, IsLightSolution, Light, extent_of, light_cell, light_hides, light_rules, size_of}
use Rattle.commands.specs.Answers.{Text}
use Rattle.commands.specs.CheckAnswers.{SaysFault, place_text}
use Rattle.commands.specs.Grades.{only_set}
use Rattle.commands.specs.PuzzleFacts.{PuzzleFacts}
use Rattle.commands.specs.declared.grade.grades.GradedRules.TheVariants.{Local}

abbrev pub light_fault : Light → LightFault → Text
light_fault p (light.Black place) = codes "black " ++ place_text p.size.w place
light_fault p (light.Number place) = codes "number " ++ place_text p.size.w place
light_fault p (light.Seen place) = codes "seen " ++ place_text p.size.w place
light_fault p (light.Dark place) = codes "dark " ++ place_text p.size.w place

abbrev pub light_facts : PuzzleFacts Light
light_facts = record {
  extent = λ p. p.size;
  value_count = λ p. 2;
  cell_text = light_cell;
  hides = light_hides;
  game = record {
    reading = light_of;
    spells = SpellsLight;
    written = light_text;
    solves = IsLightSolution;
    rules = light_rules;
    checks = λ p g. SaysFault (IsLightFault p g) (light_fault p);
    sets = λ p. only_set Local (light_rules p);
    visit_name = λ p h. [];
    sizes = size_of game.LightUp;
    makes = λ size w m. IsLightMade (extent_of size) w.black w.budget w.tries w.stream
        m.puzzle m.solution m.kept;
    makes_none = λ size w. NonePasses (light_filling (extent_of size) w.black)
        (light_passes (extent_of size) w.budget) w.stream w.tries;
  };
}
