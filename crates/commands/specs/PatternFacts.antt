-- Pattern, as the commands know it.
use Rattle.std.specs.Prelude.{◌++◌, ◌-◌, ℕ, codes, decimal, if◌then◌else◌, nat_lt}
use Rattle.gameid_core.specs.PatternText.{SpellsPattern, pattern_of, pattern_text}
use Rattle.gameid_core.specs.declared.id.game.Game.TheVariants as game
use Rattle.maker_core.specs.PatternMaking.{IsPatternMade, pattern_filling, pattern_passes}
use Rattle.pattern_core.specs.declared.fault.PatternFault.{PatternFault}
use Rattle.pattern_core.specs.declared.fault.PatternFault.TheVariants as pattern
use Rattle.maker_core.specs.Draws.{NonePasses}
use Rattle.commands.specs.Common.{IsPatternFault, IsPatternSolution, Pattern, extent_of, hides_nothing, line_rules, pattern_cell, size_of}
use Rattle.commands.specs.Answers.{Text}
use Rattle.commands.specs.CheckAnswers.{SaysFault}
use Rattle.commands.specs.Grades.{only_set}
use Rattle.commands.specs.PuzzleFacts.{PuzzleFacts}
use Rattle.commands.specs.declared.grade.grades.GradedRules.TheVariants.{Lines}

abbrev pub pattern_fault : PatternFault → Text
pattern_fault (pattern.Column x) = codes "column " ++ decimal x
pattern_fault (pattern.Row y) = codes "row " ++ decimal y

-- the houses of Pattern: the columns, then the rows
abbrev pub pattern_name : Pattern → ℕ → Text
pattern_name p h = if nat_lt h p.size.w then codes "column " ++ decimal h
    else codes "row " ++ decimal (h - p.size.w)

abbrev pub pattern_facts : PuzzleFacts Pattern
pattern_facts = record {
  extent = λ p. p.size;
  value_count = λ p. 2;
  cell_text = pattern_cell;
  hides = λ p. hides_nothing;
  game = record {
    reading = pattern_of;
    spells = SpellsPattern;
    written = pattern_text;
    solves = IsPatternSolution;
    rules = line_rules;
    checks = λ p g. SaysFault (IsPatternFault p g) pattern_fault;
    sets = λ p. only_set Lines (line_rules p);
    visit_name = pattern_name;
    sizes = size_of game.Pattern;
    makes = λ size w m. IsPatternMade (extent_of size) w.black w.budget w.tries w.stream
        m.puzzle m.solution m.kept;
    makes_none = λ size w. NonePasses (pattern_filling (extent_of size) w.black)
        (pattern_passes (extent_of size) w.budget) w.stream w.tries;
  };
}
