-- Solo, as the commands know it.
use Rattle.std.specs.Prelude.{◌++◌, ◌∷◌, ℕ, List, codes, decimal, slice_index_or}
use Rattle.gameid_core.specs.SoloText.{SpellsSolo, solo_of, solo_text}
use Rattle.gameid_core.specs.declared.id.game.Game.TheVariants as game
use Rattle.solo_core.specs.declared.fault.SoloFault.{SoloFault}
use Rattle.solo_core.specs.declared.fault.SoloFault.TheVariants as solo
use Rattle.solo_core.specs.declared.houses.house.NamedHouse.{NamedHouse}
use Rattle.solo_core.specs.declared.houses.house.NamedHouse.TheVariants.{Row, Column, Block, Diagonal}
use Rattle.solo_core.specs.declared.houses.visit.VisitName.{VisitName}
use Rattle.solo_core.specs.declared.houses.visit.VisitName.TheVariants.{House, Crossing}
use Rattle.commands.specs.Common.{IsSoloFault, IsSoloMade, IsSoloSolution, Solo, crossings_rules, hides_nothing, houses_rules, scopes_of, singles_rules, size_of, solo_cell, solo_extent, solo_n}
use Rattle.commands.specs.Answers.{Text}
use Rattle.commands.specs.CheckAnswers.{SaysFault, place_text}
use Rattle.commands.specs.Grades.{NamedRules, only_set}
use Rattle.commands.specs.Makings.{IsUnfilled}
use Rattle.commands.specs.PuzzleFacts.{PuzzleFacts}
use Rattle.commands.specs.declared.grade.grades.GradedRules.TheVariants.{Crossings, Houses, Singles}

abbrev pub solo_fault : Solo → SoloFault → Text
solo_fault p (solo.Given place) = codes "given " ++ place_text (solo_n p) place
solo_fault p (solo.Row y) = codes "row " ++ decimal y
solo_fault p (solo.Column x) = codes "column " ++ decimal x
solo_fault p (solo.Block b) = codes "block " ++ decimal b
solo_fault p (solo.Diagonal d) = codes "diagonal " ++ decimal d

-- what a closing visits, by name
abbrev pub house_text : NamedHouse → Text
house_text (Row y) = codes "row " ++ decimal y
house_text (Column x) = codes "column " ++ decimal x
house_text (Block b) = codes "block " ++ decimal b
house_text (Diagonal d) = codes "diagonal " ++ decimal d

abbrev pub scope_text : VisitName → Text
scope_text (House house) = house_text house
scope_text (Crossing block line) = house_text (Block block) ++ codes " " ++ house_text line

-- the rule sets that are tried, in order
abbrev pub sets_after_houses : Solo → List NamedRules
sets_after_houses p = only_set Crossings (crossings_rules p)

abbrev pub sets_after_singles : Solo → List NamedRules
sets_after_singles p = record { set = Houses; rules = houses_rules p } ∷ sets_after_houses p

abbrev pub solo_sets : Solo → List NamedRules
solo_sets p = record { set = Singles; rules = singles_rules p } ∷ sets_after_singles p

-- what a rule set of Solo visits under the number
abbrev pub solo_name : Solo → ℕ → Text
solo_name p h = scope_text (slice_index_or (scopes_of p) h (House (Row 0)))

abbrev pub solo_facts : PuzzleFacts Solo
solo_facts = record {
  extent = solo_extent;
  value_count = solo_n;
  cell_text = solo_cell;
  hides = λ p. hides_nothing;
  game = record {
    reading = solo_of;
    spells = SpellsSolo;
    written = solo_text;
    solves = IsSoloSolution;
    rules = houses_rules;
    checks = λ p g. SaysFault (IsSoloFault p g) (solo_fault p);
    sets = solo_sets;
    visit_name = solo_name;
    sizes = size_of game.Solo;
    makes = λ size w m. IsSoloMade size.w size.h size.x w.budget w.tries w.stream
        m.puzzle m.solution m.kept;
    makes_none = IsUnfilled;
  };
}
