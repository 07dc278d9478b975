-- Commands, and what words mean.
use Rattle.puzzles.proofs.Common.{App, Bool, Bor, HasMatchesOf, IsApp, List, None, Option, Rule, Some, Text, [], ap, app_of, ap₂, arith, false, if◌then◌else◌, inl, inr, is_number, is_simple, length, lt-ltb, ltb-true, nat_le, nat_lt, number_in, parsed, puzzles_app, refl, rule_of, slice_index, subcommand_of, subcommand_rows_of, subst, sym, true, unless_fault, with_rule, with_subcommand, ℕ, ◌&&◌, ◌<◌, ◌^◌, ◌∙◌, ◌∷◌, ◌≡◌, ◌≤◌, ◌⊎◌}
use Rattle.clap.specs.Built.{AddsArg, AddsSubcommand}
use Rattle.clap.specs.declared.builder.arg.Arg.{Arg}
use Rattle.clap.specs.declared.builder.command.Command.{Command}
use Rattle.std.proofs.lemmas.Grind.{common_steps}
use Rattle.std.specs.List.{list_all}
use Rattle.std.specs.Char.{digit_value}
use Rattle.std.specs.Str.Parse.{AllDigits, IsNumeral, digits_value, without_leading_plus}
use Rattle.std.proofs.lemmas.Bool.{le-leb, leb-true, ne_eqb}
use Rattle.std.proofs.lemmas.Bool.Decides.{leb_tells}
use Rattle.clap.specs.Faults.{fault_of, is_simple_and_free}
use Rattle.clap.specs.Kinds.{HasKind, IsAmong, Kinds}
use Rattle.clap.specs.Values.{kind_of}
use Rattle.clap.specs.declared.error.Error.{Error}
use Rattle.clap.specs.declared.error.kind.ErrorKind.{ErrorKind}
use Rattle.clap.specs.declared.error.kind.ErrorKind.TheVariants.{OutOfMemory}
use Rattle.clap.specs.declared.parser.matches.ArgMatches.{ArgMatches}
use Rattle.clap.proofs.WalkLemmas.{both, first_value-rows}

-- Commands with one more argument, and with one more command.

pub with_arg : {app : App} {old new : Command} {a : Arg} {rule : Rule} → IsApp app old → AddsArg old a new
    → rule_of a ≡ rule → a.global ≡ false → IsApp (with_rule app rule) new
with_arg is adds rule local = (
  adds.shape local ∙ ap₂ with_rule is.0 rule,
  rw (local, is.1) at adds.globals,
)

pub with_command : {app sub : App} {old new command : Command} → app_of old ≡ app → IsApp sub command
    → AddsSubcommand old command new → app_of new ≡ with_subcommand app sub.top
with_command is more adds = adds.shape more.1 ∙ ap₂ (λ a (b : App). with_subcommand a b.top) is more.0

-- what changes nothing of it leaves an argument with its command alone
pub local_too : {a b : Arg} → b ≡ a → a.global ≡ false → b.global ≡ false
local_too is local = ap (λ (arg : Arg). arg.global) is ∙ local

-- the rule of an argument that is required, and of one that has a long name
pub required_is : (a : Arg) {b : Arg} {rule : Rule} → b ≡ record a { required = true } → rule_of a ≡ rule → rule_of b ≡ record rule { required = true }
required_is a is rule = ap rule_of is ∙ ap (λ (r : Rule). record r { required = true }) rule

pub long_is : (a : Arg) {b : Arg} {rule : Rule} {name : Bor Text} → b ≡ record a { long = Some name } → rule_of a ≡ rule
    → rule_of b ≡ record rule { long = Some name.now }
long_is a {name = name} is rule = ap rule_of is ∙ ap (λ (r : Rule). record r { long = Some name.now }) rule

-- From what parses ensure to what the words mean, and to the number of a text.

simple_and_free : is_simple_and_free puzzles_app ≡ true
simple_and_free = refl

simple : is_simple puzzles_app ≡ true
simple = refl

-- words without a fault mean what the parse found
pub parsed_ok : (a : App) (words : List Text) (m : ArgMatches) → a ≡ puzzles_app
    → (is_simple_and_free a ≡ true → fault_of a words ≡ []) → HasMatchesOf a words m
    → subcommand_rows_of m ≡ parsed words
unfolding parsed
parsed_ok a words m is free matches =
    let found = (matches (ap is_simple is ∙ simple)).1 ∙ ap (λ (b : App). subcommand_of b words) is in
    let none : fault_of puzzles_app words ≡ [] = ap (λ (b : App). fault_of b words) (sym is) ∙ free (ap is_simple_and_free is ∙ simple_and_free) in
    found ∙ ap (λ (ks : Kinds). unless_fault ks (subcommand_of puzzles_app words)) (sym none)

refused_by : {X : Type 0} (found : Option X) (k : ErrorKind) (kinds : Kinds) → IsAmong k kinds → unless_fault kinds found ≡ None
refused_by found k [] h = absurd h
refused_by found k (x ∷ xs) h = refl

-- an error of another cause than memory refuses the words
pub parsed_err : (a : App) (words : List Text) (e : Error) → a ≡ puzzles_app
    → (is_simple_and_free a ≡ true → HasKind (fault_of a words) e) → (kind_of e ≡ OutOfMemory → ⊥)
    → parsed words ≡ None
unfolding parsed
parsed_err a words e is fails other = elim (fails (ap is_simple_and_free is ∙ simple_and_free)) [
  | inl memory ↦ absurd (other memory)
  | inr among ↦ ap (λ (b : App). unless_fault (fault_of b words) (subcommand_of puzzles_app words)) (sym is) ∙ refused_by (subcommand_of puzzles_app words) (kind_of e) (fault_of a words) among
]

abbrev if_number : ℕ → List ℕ → Bool → Option ℕ
if_number most bs b = if b then Some (digits_value 10 bs) else None

fails : (most : ℕ) (bs : List ℕ) → is_number bs ≡ false → number_in most bs ≡ None
unfolding number_in
fails most bs e = ap (λ b. if_number most bs (b && nat_le (digits_value 10 bs) most)) e

and_false : (a : Bool) → (a && false) ≡ false
and_false true = refl
and_false false = refl

above : (most : ℕ) (bs : List ℕ) → most < digits_value 10 bs → number_in most bs ≡ None
unfolding number_in
above most bs below = grind (arith, common_steps, and_false, leb-true, nat_le)

within : (most : ℕ) (bs : List ℕ) → is_number bs ≡ true → digits_value 10 bs ≤ most → number_in most bs ≡ Some (digits_value 10 bs)
unfolding number_in
within most bs e h = ap (λ b. if_number most bs (b && nat_le (digits_value 10 bs) most)) e ∙ ap (if_number most bs) (le-leb (digits_value 10 bs) most h)

digits_pass : (ds : List ℕ) → AllDigits 10 ds → list_all (λ d. nat_lt (digit_value d) 10) ds ≡ true
digits_pass [] h = refl
digits_pass (d ∷ ds) h = rw (lt-ltb (digit_value d) 10 h.0) (digits_pass ds h.1)

digits_from : (ds : List ℕ) → list_all (λ d. nat_lt (digit_value d) 10) ds ≡ true → AllDigits 10 ds
digits_from [] e = tt
digits_from (d ∷ ds) e =
    let parts = both _ _ e in
    (ltb-true _ _ parts.0, digits_from ds parts.1)

numeral_passes : (bs : List ℕ) → IsNumeral 10 bs → is_number bs ≡ true
numeral_passes bs h = rw (lt-ltb 0 (length bs) h.0, digits_pass bs h.1) refl

numeral_from : (bs : List ℕ) → is_number bs ≡ true → IsNumeral 10 bs
numeral_from bs e =
    let parts = both _ _ e in
    (ltb-true _ _ parts.0, digits_from bs parts.1)

no_plus : (bs : List ℕ) → (slice_index bs 0 ≡ 43 → ⊥) → without_leading_plus bs ≡ bs
no_plus [] h = refl
no_plus (b ∷ bs) h = rw (ne_eqb b 43 h) refl

-- an empty text and a plus are no number
pub number-none : (most : ℕ) (bs : List ℕ) → (length bs ≡ 0) ⊎ (slice_index bs 0 ≡ 43) → number_in most bs ≡ None
number-none most bs either = grind (arith, common_steps, and_false, fails, nat_lt)

pub number-read : (most v : ℕ) (bs : List ℕ) → (slice_index bs 0 ≡ 43 → ⊥) → IsNumeral 10 (without_leading_plus bs)
    → v ≡ digits_value 10 (without_leading_plus bs) → v ≤ most → Some v ≡ number_in most bs
number-read most v bs not_so numeral same at_most = grind (arith, common_steps, no_plus, numeral_passes, within)

pub number-high : (most v : ℕ) (bs : List ℕ) → (slice_index bs 0 ≡ 43 → ⊥)
    → v ≡ digits_value 10 (without_leading_plus bs) → most < v → None ≡ number_in most bs
number-high most v bs not_so same below = grind (arith, common_steps, above, no_plus)

pub number-failed : (most : ℕ) (bs : List ℕ) → (slice_index bs 0 ≡ 43 → ⊥)
    → (IsNumeral 10 (without_leading_plus bs) × (digits_value 10 (without_leading_plus bs) < 2 ^ 64) → ⊥) → most < 2 ^ 64 → None ≡ number_in most bs
number-failed most bs h p small = go (is_number bs) refl
  where
    go : (b : Bool) → is_number bs ≡ b → None ≡ number_in most bs
    go false is = sym (fails most bs is)
    go true is = elim (leb_tells (2 ^ 64) (digits_value 10 bs)) [
      | inl high ↦ let over : most < digits_value 10 bs = omega (arith, high.1) in sym (above most bs over)
      | inr low ↦ absurd (subst (λ (l : List ℕ). IsNumeral 10 l × (digits_value 10 l < 2 ^ 64) → ⊥) (no_plus bs h) p (numeral_from bs is, low.1))
    ]

-- the value that a parse found for an argument is the first of its row
pub ruleset word_laws = (first_value-rows)
