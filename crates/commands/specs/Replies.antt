-- What is said of a refusal, and the answers of `solve`, given how their grids are printed.
use Rattle.std.specs.Prelude.{ℕ, ◌≡◌, ◌++◌, [], Result, Err, codes, decimal, List, string_bytes, Some, None}
use Rattle.gameid_core.specs.declared.id.fault.IdFault.TheVariants.{TooLong, SeedId, NoColon, BadSize, Variant, SizeRange, BadByte, NumberRange, LineTooFull, TooFew, TooMany, Memory}
use Rattle.gameid_core.specs.declared.grids.printed.Printed as printed
use Rattle.gameid_core.specs.PrintedForm.{printed_grid}
use Rattle.engine_core.specs.Verdict.{Outcome.NoSolution, Outcome.OneSolution, Outcome.SeveralSolutions, Outcome.GaveUp}
use Rattle.commands.specs.Common.{IdFault, RuleSystem, Outcome, verdict_of, IsTrueOf}
use Rattle.commands.specs.declared.answers.status.Status.{Status}
use Rattle.commands.specs.declared.answers.status.Status.TheVariants as status
use Rattle.commands.specs.Answers.{Answer, Text, answer_with, code_of}
use Rattle.commands.specs.declared.answers.reply.Reply.{Reply}

abbrev pub refused : Text → Answer
refused cause = answer_with (codes "refused: " ++ cause ++ codes "\n") (code_of status.Refused)

abbrev pub refused_words : Answer
refused_words = refused (codes "words")

-- Want of memory is no fault of a text, and nothing is said of it.
abbrev pub fault_text : IdFault → Text
fault_text TooLong = codes "too long"
fault_text SeedId = codes "seed id"
fault_text NoColon = codes "no colon"
fault_text BadSize = codes "bad size"
fault_text Variant = codes "variant"
fault_text SizeRange = codes "size range"
fault_text (BadByte place) = codes "bad byte at " ++ decimal place
fault_text (NumberRange place) = codes "number range at " ++ decimal place
fault_text (LineTooFull line) = codes "line " ++ decimal line ++ codes " too full"
fault_text TooFew = codes "too few"
fault_text TooMany = codes "too many"
fault_text Memory = []

-- what is said of an ID with that first fault
abbrev pub refusal : IdFault → Answer
refusal fault = refused (fault_text fault)

-- the ID has that first fault, and it is told
pub record IsRefused {P : Type 0} (reading : Result P IdFault) (answer : Answer) : Type 0 where
  pub fault : IdFault
  pub first : reading ≡ Err fault
  pub said : answer ≡ refusal fault

abbrev pub answer_in : Reply → Answer
answer_in r = answer_with (string_bytes r.text) (code_of r.status)

-- the reply is of these words, with that status
abbrev pub IsReply : Text → Status → Reply → Type 0
IsReply words status r = answer_in r ≡ answer_with words (code_of status)

abbrev pub none_answer : Answer
none_answer = answer_with (codes "none\n") (code_of status.Wrong)

abbrev pub one_answer : Text → Answer
one_answer grid = answer_with (codes "one\n" ++ grid) (code_of status.Fine)

abbrev pub several_answer : Text → Text → Answer
several_answer first second =
    answer_with (codes "several\n" ++ first ++ codes "\n" ++ second) (code_of status.Several)

-- with nothing where no grid was found
abbrev pub gave_up_answer : Text → Answer
gave_up_answer grid = answer_with (codes "gave up\n" ++ grid) (code_of status.GaveUp)

-- the verdict with its grids, printed so
abbrev pub verdict_answer : (List ℕ → Text) → Outcome → Answer
verdict_answer printed NoSolution = none_answer
verdict_answer printed (OneSolution g) = one_answer (printed g)
verdict_answer printed (SeveralSolutions g h) = several_answer (printed g) (printed h)
verdict_answer printed (GaveUp None) = gave_up_answer []
verdict_answer printed (GaveUp (Some g)) = gave_up_answer (printed g)

-- the same by the walk of the rules with the budget
abbrev pub verdict_said : {P : Type 0} → printed.Ghosts P → P → RuleSystem → ℕ → Answer
verdict_said printing p rules budget =
    verdict_answer (printed_grid printing p) (verdict_of rules budget)

abbrev pub SaysVerdict : {P : Type 0} → printed.Ghosts P → P → RuleSystem → ℕ → Reply → Type 0
SaysVerdict printing p rules budget r = answer_in r ≡ verdict_said printing p rules budget

-- that verdict is true of the rules' solutions
abbrev pub HasTrueVerdict : RuleSystem → ℕ → Type 0
HasTrueVerdict rules budget = IsTrueOf rules (verdict_of rules budget)
