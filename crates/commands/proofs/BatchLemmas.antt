-- The steps of a batch, and the chunks of its input.
use Rattle.commands.proofs.Common.{All, All-append, All-nil, AllowsEach, Answer, Answered, Batched, Begins, BeginsLines, Begun, Bool, Err, Gathered, Given, HasAnswers, HasNoNewline, Holds, IfErr, IsInput, List, Ok, PutBegun, Ran, Result, Stopped, Text, [], answer_with, ap, append-nil, append_assoc, arith, both, code_of, common_steps, false, if◌then◌else◌, inl, inr, length, lines, lines_of_parts, max, refl, silence, slice_split, strip_carriage_return, subst, sym, true, true≢false, ℕ, ◌++◌, ◌<◌, ◌==◌, ◌∙◌, ◌∷◌, ◌≡◌, ◌≤◌, ◌⊎◌}
use Rattle.std.proofs.lemmas.List.Splits.{slice_split_at, slice_split_none, length-slice_split}
use Rattle.commands.specs.declared.batch.Batch.{Batch}
use Rattle.commands.specs.declared.ends.Sink as sinks
use Rattle.commands.specs.declared.ends.Source as sources
use Rattle.commands.proofs.RunLemmas.{TakesBoth}

parts_at : (p : Text) (parts : List Text) → 0 < length parts → lines_of_parts (p ∷ parts) ≡ strip_carriage_return p ∷ lines_of_parts parts
parts_at p [] h = absurd (omega arith)
parts_at p (q ∷ parts) h = refl

-- a line, its end, and what follows
lines_at : (p rest : Text) → All (λ b. (b == 10) ≡ false) p → lines (p ++ 10 ∷ rest) ≡ strip_carriage_return p ∷ lines rest
lines_at p rest all = grind (arith, common_steps, length-slice_split, parts_at, slice_split, slice_split_at)

lines_last : (p : Text) → All (λ b. (b == 10) ≡ false) p → lines p ≡ (if length p == 0 then [] else p ∷ [])
lines_last p h = ap lines_of_parts (slice_split_none (λ b. b == 10) p h)

-- each list of lines has an allowed answer
pub each_has : (allows : Text → Answer → Type 0) → HasAnswers allows → (ls : List Text) → (a : Answer) × AllowsEach allows ls a
each_has allows answers [] = (silence, refl)
each_has allows answers (l ∷ ls) =
    let first = answers l in
    let others = each_has allows answers ls in
    (both first.0 others.0, (first.0, others.0, first.1, others.1, refl))

module _ {allows : Text → Answer → Type 0} where
  -- with the answer to a line that ends here, which the lines after it follow
  after_line : {batch : Batch} {seen written : Text} (x : Answer) (g : Gathered allows batch seen written)
      → allows (strip_carriage_return g.piece) x → (rest : Text) (z : Answer) → AllowsEach allows (lines rest) z
      → AllowsEach allows (lines ((seen ++ 10 ∷ []) ++ rest)) (both (answer_with (written ++ batch.answers.items) (code_of batch.status)) (both x z))
  after_line {seen} x g allowed rest z h =
      let whole : AllowsEach allows (lines (g.piece ++ 10 ∷ rest)) (both x z) = rw (lines_at g.piece rest g.in_line) (x, z, allowed, h, refl) in
      rw (append_assoc seen (10 ∷ []) rest) (g.goes_on (10 ∷ rest) (both x z) whole)

  pub gathers_line : (batch next : Batch) (seen written : Text) (x : Answer) → Gathered allows batch seen written
      → ((piece : Text) → Holds batch.line piece → allows (strip_carriage_return piece) x)
      → next.answers.items ≡ batch.answers.items ++ x.text
      → Holds next.line [] → code_of next.status ≡ max (code_of batch.status) x.status → Gathered allows next (seen ++ 10 ∷ []) written
  gathers_line batch next seen written x g allowed added holds status = record {
    piece = [];
    holds = holds;
    in_line = All-nil (λ b. (b == 10) ≡ false);
    goes_on = λ rest z h.
        let same : max (code_of next.status) z.status ≡ max (code_of batch.status) (max x.status z.status) = omega arith in
        let text_is : (written ++ next.answers.items) ++ z.text ≡ (written ++ batch.answers.items) ++ (x.text ++ z.text) = rw added (simp append_assoc) in
        rw (text_is, same) (after_line x g (allowed g.piece g.holds) rest z h);
  }

  pub gathers_piece : {batch next : Batch} {written : Text} (seen more : Text) → HasNoNewline more → Gathered allows batch seen written
      → ((piece : Text) → Holds batch.line piece → Holds next.line (piece ++ more)) → code_of next.status ≡ code_of batch.status
      → next.answers.items ≡ batch.answers.items → Gathered allows next (seen ++ more) written
  gathers_piece seen more other g holds status same = record {
    piece = g.piece ++ more;
    holds = holds g.piece g.holds;
    in_line = All-append (λ x. (x == 10) ≡ false) g.piece more g.in_line other;
    goes_on = λ rest z h.
        rw (status, same, append_assoc seen more rest) (g.goes_on (more ++ rest) z (rw (append_assoc g.piece more rest) at h));
  }

  -- what was written and what is held begin an answer, when more of the input is known
  pub gathers_up_to : HasAnswers allows → {batch : Batch} {seen written : Text} (more : Text) → Gathered allows batch seen written
      → BeginsLines allows (seen ++ more) (written ++ batch.answers.items)
  gathers_up_to answers {batch} {seen} {written} more g = λ rest.
      let z = each_has allows answers (lines (g.piece ++ (more ++ rest))) in
      (both (answer_with (written ++ batch.answers.items) (code_of batch.status)) z.0, rw (append_assoc seen more rest) (g.goes_on (more ++ rest) z.0 z.1), (z.0.text, refl))

  pub gathers_before : HasAnswers allows → {batch : Batch} {written bytes : Text} (seen before rest : Text) → bytes ≡ before ++ rest
      → Gathered allows batch (seen ++ before) written → BeginsLines allows (seen ++ bytes) (written ++ batch.answers.items)
  gathers_before answers {batch} seen before rest is g = rw (is, ← append_assoc seen before rest) (gathers_up_to answers rest g)

  -- the end of the input, after a newline
  pub gathers_none : {batch : Batch} {seen written : Text} → Gathered allows batch seen written
      → ((piece : Text) → Holds batch.line piece → true ≡ (length piece == 0))
      → AllowsEach allows (lines seen) (answer_with (written ++ batch.answers.items) (code_of batch.status))
  gathers_none {batch} g empty =
      let same : max (code_of batch.status) 0 ≡ code_of batch.status = omega arith in
      let all = g.goes_on [] silence (rw (append-nil g.piece, lines_last g.piece g.in_line, ← empty g.piece g.holds) refl) in
      simp (append-nil, same) at all

  -- with the answer to a last line that the end of the input ends
  pub gathers_last : {batch : Batch} {seen written : Text} (next : Batch) (x : Answer) → Gathered allows batch seen written
      → ((piece : Text) → Holds batch.line piece → false ≡ (length piece == 0)) → ((piece : Text) → Holds batch.line piece → allows piece x)
      → next.answers.items ≡ batch.answers.items ++ x.text → code_of next.status ≡ max (code_of batch.status) x.status
      → AllowsEach allows (lines seen) (answer_with (written ++ next.answers.items) (code_of next.status))
  gathers_last {batch} {written} next x g some allowed added status =
      let same : max (code_of batch.status) (max x.status 0) ≡ max (code_of batch.status) x.status = omega arith in
      let all = g.goes_on [] (both x silence) (rw (append-nil g.piece, lines_last g.piece g.in_line, ← some g.piece g.holds) (x, silence, allowed g.piece g.holds, refl, refl)) in
      let text_is : written ++ next.answers.items ≡ (written ++ batch.answers.items) ++ x.text = rw added (simp append_assoc) in
      rw (text_is, status) (simp (append-nil, same) at all)

module _ {S : Type 0} {takes : S → Text → S → Type 0} {allows : Text → Answer → Type 0} where
  -- what is held was put
  pub step_put : TakesBoth takes → {start now new : S} {batch next : Batch} {seen written : Text} → takes start written now → Gathered allows batch seen written
      → takes now batch.answers.items new → next.answers.items ≡ [] → next.line ≡ batch.line → next.status ≡ batch.status
      → Batched takes allows start next seen new
  step_put both_times {start} {now} {new} {batch} {next} {seen} {written} took g put none line status = record {
    written = written ++ batch.answers.items;
    took = both_times start now new written batch.answers.items took put;
    gathered = record {
      piece = g.piece;
      holds = rw line g.holds;
      in_line = g.in_line;
      goes_on = λ rest z h. rw (none, status, append-nil (written ++ batch.answers.items)) (g.goes_on rest z h);
    };
  }

  -- a beginning of what is held was put
  pub step_begun : TakesBoth takes → {start now new : S} {seen written held : Text} → takes start written now → BeginsLines allows seen (written ++ held)
      → PutBegun takes now held new → Stopped takes allows start seen new
  step_begun both_times {start} {now} {new} {written} took begins w = record {
    written = written ++ w.done;
    took = both_times start now new written w.done took w.took;
    begun = λ rest.
        let a = begins rest in
        let text_is : a.0.text ≡ (written ++ w.done) ++ (w.begun.0 ++ a.2.0) = rw (a.2.1, w.begun.1) (simp append_assoc) in
        (a.0, a.1, (w.begun.0 ++ a.2.0, text_is));
  }

  -- no more was written
  pub step_stopped : HasAnswers allows → {start now : S} {batch : Batch} {seen : Text} (more : Text) → Batched takes allows start batch seen now
      → Stopped takes allows start (seen ++ more) now
  step_stopped answers {batch} more b = record {
    written = b.written;
    took = b.took;
    begun = λ rest.
        let a = gathers_up_to answers more b.gathered rest in
        (a.0, a.1, (batch.answers.items ++ a.2.0, rw a.2.1 (append_assoc b.written batch.answers.items a.2.0)));
  }

  pub last_answered : TakesBoth takes → {start now new : S} {seen written held : Text} {status : ℕ} → takes start written now
      → AllowsEach allows (lines seen) (answer_with (written ++ held) status) → takes now held new → Answered takes allows start status seen new
  last_answered both_times {start} {now} {new} {written} {held} took whole put =
      record { written = written ++ held; took = both_times start now new written held took put; whole = whole }

  pub last_begun : TakesBoth takes → {start now new : S} {seen written held : Text} (status : ℕ) → takes start written now
      → AllowsEach allows (lines seen) (answer_with (written ++ held) status) → PutBegun takes now held new → Begun takes allows start seen new
  last_begun both_times {start} {now} {new} {written} {held} status took whole w = record {
    written = written ++ w.done;
    took = both_times start now new written w.done took w.took;
    begun = (answer_with (written ++ held) status, whole, (w.begun.0, rw w.begun.1 (simp append_assoc)));
  }

  -- no more was written
  pub last_stopped : HasAnswers allows → {start now : S} {batch : Batch} {seen : Text}
      → Batched takes allows start batch seen now → Begun takes allows start seen now
  last_stopped answers b =
      let s = step_stopped answers [] b in
      record { written = s.written; took = s.took; begun = simp append-nil at (s.begun []) }

-- a fact that holds whatever the error
pub on_any_err : {T E : Type 0} (r : Result T E) {P : Type 0} → P → IfErr r (λ _. P)
on_any_err (Ok x) p = tt
on_any_err (Err e) p = p

module _ {I : Type 0} {gives : I → Text → I → Type 0} (gives_both : TakesBoth gives) where
  pub given_more : {from i j : I} {given chunk : Text} {P Q : Text → Type 0} → given ≡ chunk → Given gives from i P
      → gives i given j → ((seen : Text) → P seen → Q (seen ++ chunk))
      → Given gives from j Q
  given_more {from} {i} {j} {chunk} same t more step = grind (arith, common_steps)

  pub given_no_more : {from i j : I} {P : Text → Type 0} → Given gives from i P → gives i [] j → Given gives from j P
  given_no_more {from} {i} {j} t more =
      record { seen = t.seen; gave = subst (λ c. gives from c j) (append-nil t.seen) (gives_both from i j t.seen [] t.gave more); is = t.is }

  -- no more was written
  pub stopped_here : {S : Type 0} {takes : S → Text → S → Type 0} {allows : Text → Answer → Type 0}
      → HasAnswers allows → {from i : I} (start o : S) (batch : Batch)
      → Given gives from i (λ seen. Batched takes allows start batch seen o) → Given gives from i (λ seen. Stopped takes allows start seen o)
  stopped_here answers start o batch t = record { seen = t.seen; gave = t.gave; is = simp append-nil at (step_stopped answers [] t.is) }

-- what was read begins the input
begins_input : (ended : Bool) (read input : Text) → IsInput ended read input → Begins read input
begins_input true read input is = ([], is ∙ sym (append-nil read))
begins_input false read input is = is

same_input : (ended : Bool) (read input : Text) → ended ≡ true → IsInput ended read input → read ≡ input
same_input true read input end is = sym is
same_input false read input end is = absurd (true≢false (sym end))

module _ {I S : Type 0} {source : sources.Ghosts I} {sink : sinks.Ghosts S}
    (takes_both : TakesBoth sink.takes)
    (allows : Text → Answer → Type 0) where
  pub ran_stopped : (i j : I) {o p : S} {status : ℕ} → 5 ≤ status
      → Given source.gives i j (λ seen. Stopped sink.takes allows o seen p)
      → Ran source sink (λ input. AllowsEach allows (lines input)) i j o p status
  ran_stopped i j high s = record {
    read = s.seen;
    written = s.is.written;
    gave = s.gave;
    took = s.is.took;
    leaves = record {
      begun = λ input is.
          let more = begins_input (source.has_ended j) s.seen input is in
          rw more.1 (s.is.begun more.0);
      whole = λ low. absurd (omega arith);
    };
  }

  pub ran_begun : (i j : I) {o p : S} {seen : Text} {status : ℕ} → 5 ≤ status → source.has_ended j ≡ true → source.gives i seen j
      → Begun sink.takes allows o seen p → Ran source sink (λ input. AllowsEach allows (lines input)) i j o p status
  ran_begun i j {seen} high ended gave s = grind (arith, common_steps, same_input)

  -- all was answered, and the finishing took nothing more
  pub ran_answered : {i j : I} {o p q : S} {seen : Text} {told status : ℕ} → (status ≡ told) ⊎ (status ≡ 6)
      → source.has_ended j ≡ true → source.gives i seen j → Answered sink.takes allows o told seen p → sink.takes p [] q
      → Ran source sink (λ input. AllowsEach allows (lines input)) i j o q status
  ran_answered {j} {o} {p} {q} {seen} {told} is_told ended gave s more = record {
    read = seen;
    written = s.written;
    gave = gave;
    took = simp append-nil at (takes_both o p q s.written [] s.took more);
    leaves = record {
      begun = λ input is. (answer_with s.written told, rw (← same_input (source.has_ended j) seen input ended is) s.whole, ([], sym (append-nil s.written)));
      whole = λ low input is. elim is_told [
        | inl same ↦ rw (same, ← same_input (source.has_ended j) seen input ended is) s.whole
        | inr broken ↦ absurd (omega arith)
      ];
    };
  }
