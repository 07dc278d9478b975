-- What the rules of Pattern mean to a search: each line is a house.
use Rattle.std.specs.Prelude.{ℕ, ◌+◌, ◌*◌, Bool, true, List, map}
use Rattle.pattern_core.specs.Below.{Extent, IsExtent, Pattern, RuleSystem, all_below, all_of, line_numbers, line_places, lines_of, strikes_at, strikes_by_fillings}
use Rattle.pattern_core.specs.Lines.{clue_of, has_runs}
use Rattle.pattern_core.specs.declared.line_clue.LineClue.{LineClue}
use Rattle.pattern_core.specs.declared.line_clue.LineClue.TheVariants.{Long, Short}

-- whether each line's runs are its clue
unfoldable pub is_pattern_solution : Pattern → List ℕ → Bool
is_pattern_solution p g =
    all_below (λ line. has_runs (clue_of p line) (line_numbers p.size g line)) (lines_of p.size)

-- the cells' values are 0 for white and 1 for black; a search starts from full sets; a line strikes what no filling
-- with its clue's runs has
abbrev pub line_rules : Pattern → RuleSystem
line_rules p = record {
  cells = p.size.w * p.size.h;
  values = 2;
  houses = lines_of p.size;
  bound = lines_of p.size + p.size.w * p.size.h;
  visits_settle = true;
  by_queue = true;
  scope = line_places p.size;
  start = all_of (p.size.w * p.size.h) 2;
  strikes = λ h. strikes_at 2 (line_places p.size h) (strikes_by_fillings (has_runs (clue_of p h)));
  is_solution = is_pattern_solution p;
}

-- a puzzle whose sides are in their range
pub record LawfulPattern : Type 0 where
  pub pattern : Pattern
  pub extent : IsExtent pattern.size

-- The clue of a line, whatever words it is spelled in.

-- the clue's numbers
abbrev pub numbers_in : LineClue → List ℕ
numbers_in (Short clue) = clue
numbers_in (Long clue) = clue

-- the puzzle of a size with these clues
abbrev pub pattern_with : Extent → List LineClue → Pattern
pattern_with size clues = record { size = size; clues = map numbers_in clues }
