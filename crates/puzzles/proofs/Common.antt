-- Words and lemmas of std and of the crates below, and words of this crate, as its proofs use them.
pub use Rattle.std.proofs.Common.{Bool, Bor, Global, List, None, Option, Some, Vec, [], ap, ap₂, arith, codes, false, if◌then◌else◌, inl, inr, length, lt-ltb}
pub use Rattle.std.proofs.Common.{ltb-true, map, nat_le, nat_lt, option_map, refl, rules, slice_index, string_bytes, subst, sym, true, ℕ}
pub use Rattle.std.proofs.Common.{◌&&◌, ◌++◌, ◌<◌, ◌^◌, ◌∙◌, ◌∷◌, ◌≡◌, ◌≤◌, ◌⊎◌}
pub use Rattle.std.proofs.lemmas.Result.{IfOk-weaker}
pub use Rattle.clap.specs.Simple.{App, HasMatchesOf, app_of, is_simple, new_app, subcommand_of, subcommand_rows_of, with_rule, with_subcommand}
pub use Rattle.clap.specs.Walk.{Rule, Text, rule_of}
pub use Rattle.commands.proofs.RunLemmas.{input_known, is_late, ran_by_put, ran_by_telling, ran_unwritten}
pub use Rattle.commands.specs.Allowed.{Allows}
pub use Rattle.puzzles.specs.CommandLine.{IsApp, bare_app, puzzles_app, unless_fault}
unfoldable pub use Rattle.puzzles.specs.CommandLine.{parsed}
pub use Rattle.puzzles.specs.Requests.{asked_by_rows, asked_in, is_number}
unfoldable pub use Rattle.puzzles.specs.Requests.{asked_of, number_in}
