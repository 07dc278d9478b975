-- The command line: what the words may be, by the parser's own definitions of a simple command.
use Rattle.std.specs.Prelude.{◌≡◌, false, [], ◌∷◌, List, Option, Some, None, codes, true}
use Rattle.clap.specs.Kinds.{Kinds}
use Rattle.clap.specs.Walk.{Row, Rule, Text}
use Rattle.clap.specs.Simple.{App, app_of, new_app, new_rule, on_top, subcommand_of, with_rule, with_subcommand}
use Rattle.clap.specs.Faults.{fault_of}
use Rattle.clap.specs.declared.builder.command.Command.{Command}
use Rattle.clap.specs.declared.builder.command.Command.TheViews.{out-Command as fields_of}
use Rattle.clap.specs.declared.builder.action.ArgAction.TheVariants.{SetTrue}

-- the command is that one, with no option that its subcommands have too
abbrev pub IsApp : App → Command → Type 0
IsApp app command = (app_of command ≡ app) × ((fields_of command).has_globals ≡ false)

-- a word that must be there, and one that may be
abbrev pub required_word : Text → Rule
required_word id = record (new_rule id) { required = true }

abbrev pub optional_word : Text → Rule
optional_word id = new_rule id

-- `--name VALUE`, and the same where it must be there
abbrev pub text_option : Text → Rule
text_option name = record (new_rule name) { long = Some name }

abbrev pub required_option : Text → Rule
required_option name = record (text_option name) { required = true }

-- `--name`
abbrev pub flag : Text → Rule
flag name = record (text_option name) { action = Some SetTrue }

-- a command whose first word names a game
abbrev pub game_app : Text → App
game_app name = with_rule (new_app name) (required_word (codes "game"))

-- `solve GAME [ID] [--budget B]`
abbrev pub solve_app : App
solve_app = with_rule (with_rule (game_app (codes "solve"))
    (optional_word (codes "id")))
    (text_option (codes "budget"))

-- `check GAME ID`
abbrev pub check_app : App
check_app = with_rule (game_app (codes "check"))
    (required_word (codes "id"))

-- `grade GAME ID [--budget B] [--trace]`
abbrev pub grade_app : App
grade_app = with_rule (with_rule (with_rule (game_app (codes "grade"))
    (required_word (codes "id")))
    (text_option (codes "budget")))
    (flag (codes "trace"))

-- `generate GAME SIZE --seed S [--budget B] [--tries T] [--black P]`
abbrev pub generate_app : App
generate_app = with_rule (with_rule (with_rule (with_rule (with_rule (game_app (codes "generate"))
    (required_word (codes "size")))
    (required_option (codes "seed")))
    (text_option (codes "budget")))
    (text_option (codes "tries")))
    (text_option (codes "black"))

-- no name of a program first, no help and no version, and a command has to stand there
abbrev pub bare_app : App
bare_app = on_top (λ s. record s {
  no_binary_name = true;
  disable_help_flag = true;
  disable_help_subcommand = true;
  disable_version_flag = true;
  subcommand_required = true;
}) (new_app (codes "puzzles"))

abbrev pub puzzles_app : App
puzzles_app = with_subcommand (with_subcommand (with_subcommand (with_subcommand bare_app
    solve_app.top) check_app.top) grade_app.top) generate_app.top

-- nothing where a fault was found
abbrev pub unless_fault : {X : Type 0} → Kinds → Option X → Option X
unless_fault [] found = found
unless_fault (k ∷ ks) found = None

-- the command that the words name, and what they give for its arguments; None where they are
-- refused
unfoldable pub parsed : List Text → Option (Text × List Row)
parsed words = unless_fault (fault_of puzzles_app words) (subcommand_of puzzles_app words)
