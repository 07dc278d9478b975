-- A run and its two ends: what it did to them, when one is broken, and how they are as it begins.
use Rattle.std.specs.Prelude.{◌≡◌, ◌⊎◌, ℕ, Bool, true, false}
use Rattle.commands.specs.Answers.{Answer, Leaves, Text}
use Rattle.commands.specs.declared.ends.Sink as sinks
use Rattle.commands.specs.declared.ends.Source as sources

-- What a run did to its ends: the bytes that it read of the one, those that it wrote to the other,
-- and that it may leave these.
pub record Ran {I O : Type 0} (source : sources.Ghosts I) (sink : sinks.Ghosts O)
    (allows : Text → Answer → Type 0) (old_input new_input : I) (old_output new_output : O)
    (status : ℕ) : Type 0 where
  pub read : Text
  pub written : Text
  pub gave : source.gives old_input read new_input
  pub took : sink.takes old_output written new_output
  pub leaves : Leaves allows (source.has_ended new_input) read written status

-- the most calls of `read`
abbrev pub call_limit : ℕ
call_limit = 1048576

-- an end failed, or the reads were used up before the end
abbrev pub IsEndBroken : {I : Type 0} → sources.Ghosts I → I → Bool → Type 0
IsEndBroken source input output_failed = (source.has_failed input ≡ true) ⊎ (output_failed ≡ true)
    ⊎ ((source.call_count input ≡ call_limit) × (source.has_ended input ≡ false))

-- no call of the ends failed
abbrev pub NoneFailed : {I O : Type 0} → sources.Ghosts I → sinks.Ghosts O → I → O → Type 0
NoneFailed source sink input output =
    (source.has_failed input ≡ false) × (sink.has_failed output ≡ false)

-- no byte was asked for, the end wasn't met, and no call failed
pub record IsUnread {I : Type 0} (source : sources.Ghosts I) (input : I) : Type 0 where
  pub no_calls : source.call_count input ≡ 0
  pub input_fine : source.has_failed input ≡ false
  pub input_open : source.has_ended input ≡ false

-- the ends as a run begins
pub record AreNew {I O : Type 0} (source : sources.Ghosts I) (sink : sinks.Ghosts O) (input : I)
    (output : O) : Type 0 where
  pub no_calls : source.call_count input ≡ 0
  pub input_fine : source.has_failed input ≡ false
  pub input_open : source.has_ended input ≡ false
  pub output_fine : sink.has_failed output ≡ false
