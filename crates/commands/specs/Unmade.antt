-- What a maker made, or why it made no puzzle. No contract of a run uses these words.
use Rattle.std.specs.Prelude.{◌≡◌, ⊤, Result, Ok, Err, List, ℕ}
use Rattle.gameid_core.specs.declared.id.fault.IdFault.TheVariants.{SizeRange}
use Rattle.gameid_core.specs.declared.grids.printed.Printed as printed
use Rattle.maker_core.specs.declared.made.Made.{Made}
use Rattle.maker_core.specs.declared.made.MakeFault.{MakeFault}
use Rattle.maker_core.specs.declared.made.MakeFault.TheVariants as fault
use Rattle.commands.specs.Common.{SizeRead, IdFault}
use Rattle.commands.specs.Answers.{Text}
use Rattle.commands.specs.PuzzleFacts.{GameFacts}
use Rattle.commands.specs.Allowed.{wanted}
use Rattle.commands.specs.Makings.{Wanted, made_answer}
use Rattle.gameid_core.specs.PrintedForm.{printed_grid}
use Rattle.commands.specs.Replies.{answer_in}
use Rattle.commands.specs.declared.answers.reply.Reply.{Reply}
use Rattle.commands.specs.declared.generate.Recipe.{Recipe}
use Rattle.commands.specs.declared.generate.makable.Unmade.{Unmade}
use Rattle.commands.specs.declared.generate.makable.Unmade.TheVariants.{Size, Exhausted, Memory}

-- what a recipe asks for
abbrev pub wanted_in : Recipe → Wanted
wanted_in recipe = wanted recipe.seed recipe.limits.budget recipe.limits.tries recipe.black.value

-- the answer's own word for a maker's fault
abbrev pub unmade_by : MakeFault → Unmade
unmade_by fault.SizeRange = Size SizeRange
unmade_by fault.Exhausted = Exhausted
unmade_by fault.Memory = Memory

-- the size was read, and this is allowed for it
pub record IsOfSize (reading : Result SizeRead IdFault) (allows : SizeRead → Type 0) : Type 0 where
  pub size : SizeRead
  pub read : reading ≡ Ok size
  pub allowed : allows size

-- the first fault of the size is given, or none is made of the size that was read
abbrev pub IsUnmade : {P : Type 0} → GameFacts P → Recipe → Text → Unmade → Type 0
IsUnmade game recipe text (Size fault) = game.sizes text ≡ Err fault
IsUnmade game recipe text Exhausted =
    IsOfSize (game.sizes text) (λ size. game.makes_none size (wanted_in recipe))
IsUnmade game recipe text Memory = ⊤

-- this is made of the size that the text is
abbrev pub IsMade : {P : Type 0} → GameFacts P → Recipe → Text → Made P → Type 0
IsMade game recipe text made = IsOfSize (game.sizes text) (λ size. game.makes size (wanted_in recipe)
    (record { puzzle = made.puzzle; solution = made.answer; kept = made.kept.items }))

-- a puzzle is handed out by that ID, with a grid
abbrev pub HandsOut : {P : Type 0} → printed.Ghosts P → Text → P → List ℕ → Reply → Type 0
HandsOut printing id p grid r = answer_in r ≡ made_answer id (printed_grid printing p grid)
