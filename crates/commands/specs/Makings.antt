-- The answers of `generate`, by what they hand out, and a seed's generator.
use Rattle.std.specs.Prelude.{List, codes, false, replicate, ℕ, ◌++◌, ◌≡◌}
use Rattle.std.specs.Int.{to_le_bytes, w64}
use Rattle.rand_core.specs.Stream.{Stream}
use Rattle.rand_core.specs.Steps.{steps_u32, stream_of}
use Rattle.rand_chacha.specs.ChaCha.{next_word, of_seed}
use Rattle.commands.specs.Common.{Kept, NoneFound, SizeRead}
use Rattle.commands.specs.Answers.{Answer, Text, answer_with, code_of}
use Rattle.commands.specs.declared.answers.status.Status.TheVariants.{Fine, GaveUp}

-- What a seed's generator is, and what it will answer.

-- the key: the seed's eight bytes, least first, and 24 zero bytes
abbrev pub seed_key : ℕ → List ℕ
seed_key seed = to_le_bytes w64 seed ++ replicate 24 0

-- the words of ChaCha with eight rounds and that key
abbrev pub seed_stream : ℕ → Stream
seed_stream seed = stream_of (steps_u32 (next_word 4)) (of_seed (seed_key seed))

-- The answers of `generate`, by what they hand out.

-- What a puzzle is made by: the words of the seed's generator, the trials of each verdict, the
-- fillings that may be made, and the percentage of black cells.
pub record Wanted : Type 0 where
  pub stream : Stream
  pub budget : ℕ
  pub tries : ℕ
  pub black : ℕ

-- a puzzle that was made with that solution, and what is known of each clue that was left
pub record MadePuzzle (P : Type 0) : Type 0 where
  pub puzzle : P
  pub solution : List ℕ
  pub kept : List Kept

-- a puzzle by its written ID, with its solution
abbrev pub made_answer : Text → Text → Answer
made_answer id grid = answer_with (id ++ codes "\n" ++ grid) (code_of Fine)

-- no try made a puzzle with one solution
abbrev pub exhausted_answer : Answer
exhausted_answer = answer_with (codes "exhausted\n") (code_of GaveUp)

-- no try found a grid of Solo; without diagonals there were no tries
pub record IsUnfilled (size : SizeRead) (w : Wanted) : Type 0 where
  pub none : NoneFound size.w size.h size.x w.budget w.stream w.tries
  pub plain : size.x ≡ false → w.tries ≡ 0
