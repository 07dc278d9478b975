-- How the steps of a run end, and what they have written then. No contract of a run uses these
-- words.
use Rattle.std.specs.Prelude.{◌≡◌, ◌<◌, ◌≤◌, ◌⊎◌, ℕ, Bool, true, false, [], Result, Ok, Err}
use Rattle.commands.specs.Answers.{Answer, BeginsAnswer, Delivers, IsInput, Text, code_of, status_of}
use Rattle.commands.specs.Replies.{answer_in}
use Rattle.commands.specs.Runs.{IsEndBroken, NoneFailed, call_limit}
use Rattle.commands.specs.declared.answers.reply.Reply.{Reply}
use Rattle.commands.specs.declared.answers.status.Status.{Status}
use Rattle.commands.specs.declared.answers.status.Stop.{Stop}
use Rattle.commands.specs.declared.answers.status.Stop.TheVariants.{Memory, Broken}
use Rattle.commands.specs.declared.ends.Sink as sinks
use Rattle.commands.specs.declared.ends.Source as sources

-- the cause is a failing end, and not want of memory
abbrev pub is_broken_end : Stop → Bool
is_broken_end Memory = false
is_broken_end Broken = true

-- How a step that stopped leaves the ends: for a failing end one is broken, and for want of memory
-- none has failed.
pub record StopsWith {I : Type 0} (source : sources.Ghosts I) (stop : Stop) (input : I)
    (output_failed : Bool) : Type 0 where
  pub memory : is_broken_end stop ≡ false
      → (source.has_failed input ≡ false) × (output_failed ≡ false)
  pub cause : is_broken_end stop ≡ true → IsEndBroken source input output_failed

-- the status that was found, or that of the stop
abbrev pub status_in : Result Status Stop → ℕ
status_in (Ok status) = code_of status
status_in (Err stop) = status_of stop

-- What was written, of which this is so, and the status: with that of an answer an allowed answer whole.
pub record Wrote {S : Type 0} (takes : S → Text → S → Type 0) (allows : Answer → Type 0)
    (begins : Text → Type 0) (old new : S) (status : ℕ) : Type 0 where
  pub written : Text
  pub took : takes old written new
  pub begun : begins written
  pub whole : status < status_of Memory → allows (record { text = written; status = status })

-- What a step with that result wrote begins an allowed answer. If it knows of none before it writes,
-- it may be nothing too.
abbrev pub BeginsIfAny : (Answer → Type 0) → Text → Type 0
BeginsIfAny allows written = (written ≡ []) ⊎ BeginsAnswer allows written

-- the same of a step that knows of an allowed answer before it writes; and of one that may not
abbrev pub Says : {S : Type 0} → sinks.Ghosts S
    → (Answer → Type 0) → S → S → Result Status Stop → Type 0
Says sink allows old new result =
    Wrote sink.takes allows (BeginsAnswer allows) old new (status_in result)

abbrev pub Writes : {S : Type 0} → sinks.Ghosts S
    → (Answer → Type 0) → S → S → Result Status Stop → Type 0
Writes sink allows old new result =
    Wrote sink.takes allows (BeginsIfAny allows) old new (status_in result)

-- the same of a run with its input
pub record RanIfAny {I O : Type 0} (source : sources.Ghosts I) (sink : sinks.Ghosts O)
    (allows : Text → Answer → Type 0) (old_input new_input : I) (old_output new_output : O)
    (status : ℕ) : Type 0 where
  pub read : Text
  pub written : Text
  pub gave : source.gives old_input read new_input
  pub took : sink.takes old_output written new_output
  pub begun : (input : Text) → IsInput (source.has_ended new_input) read input
      → BeginsIfAny (allows input) written
  pub whole : status < status_of Memory → (input : Text)
      → IsInput (source.has_ended new_input) read input
      → allows input (record { text = written; status = status })

-- How the sink stands after that status: with that of a failing end it failed, and with any other
-- not; with that of an answer it sent all on.
pub record IsSinkAfter (status : ℕ) (failed flushed : Bool) : Type 0 where
  pub within : status ≤ status_of Broken
  pub sound : status ≤ status_of Memory → failed ≡ false
  pub sent : status < status_of Memory → flushed ≡ true
  pub broken : status ≡ status_of Broken → failed ≡ true

-- the same of a step with that result
abbrev pub LeavesSink : {S : Type 0} → sinks.Ghosts S → S → Result Status Stop → Type 0
LeavesSink sink new result =
    IsSinkAfter (status_in result) (sink.has_failed new) (sink.is_flushed new)

-- the sink took a beginning of the reply's text, and all of it where the status is the reply's
abbrev pub DeliversReply : {S : Type 0}
    → sinks.Ghosts S → Reply → S → S → Result Status Stop → Type 0
DeliversReply sink reply old new result =
    Delivers sink.takes old (answer_in reply) new (status_in result)

-- How a step that reads its input, or not, leaves the ends with a result. With the status of a
-- failing end one is broken, and else neither failed. With that of an answer the output was sent on
-- whole, and the input read to its end, or not at all. No more is read than the limit.
pub record LeavesEnds {I O : Type 0} (source : sources.Ghosts I) (sink : sinks.Ghosts O)
    (reads : Bool) (input : I) (output : O) (result : Result Status Stop) : Type 0 where
  pub within : status_in result ≤ status_of Broken
  pub sound : status_in result ≤ status_of Memory → NoneFailed source sink input output
  pub sent : status_in result < status_of Memory → sink.is_flushed output ≡ true
  pub broken : status_in result ≡ status_of Broken
      → IsEndBroken source input (sink.has_failed output)
  pub few : source.call_count input ≤ call_limit
  pub unread : reads ≡ false → source.call_count input ≡ 0
  pub ended : reads ≡ true → status_in result < status_of Memory
      → source.has_ended input ≡ true
