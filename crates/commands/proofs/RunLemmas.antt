-- Runs: texts without returns, answers that are delivered, and texts put in pieces.
use Rattle.commands.proofs.Common.{Answer, Begins, BeginsAnswer, BeginsIfAny, Bool, Delivers, Err, HasAnswers, IfErr, IfOk, IsInput, KeptOrPut, List, Ok, PutBegun, PutInPieces, PutUpTo, Ran, RanIfAny, Reply, Result, TakesPieces, Text, Wrote, [], add-one, answer_in, ap, append-nil, append_assoc, arith, begins_with_line_end, cases_lt, common_steps, drop, each_below, false, if◌then◌else◌, inl, inr, joined, length, refl, status_in, status_of, subst, suc, sym, take, take-append-drop, true, true≢false, without_returns, zero, ℕ, ◌&&◌, ◌++◌, ◌+◌, ◌-◌, ◌<◌, ◌==◌, ◌∙◌, ◌∷◌, ◌≡◌, ◌≤◌, ◌⊎◌}
use Rattle.std.specs.Result.{IsErr, IsErrAnd}
use Rattle.commands.specs.declared.answers.status.Status.{Status}
use Rattle.commands.specs.declared.answers.status.Stop.{Stop}
use Rattle.commands.specs.declared.answers.status.Stop.TheVariants.{Broken, Memory}
use Rattle.commands.specs.declared.ends.Sink as sinks
use Rattle.commands.specs.declared.ends.Source as sources

-- A text that is copied without its returns: what is copied, and the rest without its returns, is always the whole without
-- them.

choice : {b : Bool} (byte : ℕ) (more : Text) → (byte == 13) && begins_with_line_end more ≡ b
    → without_returns (byte ∷ more) ≡ (if b then without_returns more else byte ∷ without_returns more)
unfolding without_returns
choice byte more e = grind (arith, common_steps)

pub byte_kept : (kept : Text) {new rest : Text} (more whole : Text) (byte : ℕ) {drops : Bool}
    → kept ++ without_returns rest ≡ without_returns whole → rest ≡ byte ∷ more
    → drops ≡ ((byte == 13) && begins_with_line_end more) → drops ≡ false → new ≡ kept ++ (byte ∷ [])
    → new ++ without_returns more ≡ without_returns whole
byte_kept kept more whole byte so_far is means no_drop copied =
    ap (λ t. t ++ without_returns more) copied ∙ append_assoc kept (byte ∷ []) (without_returns more)
    ∙ ap (λ t. kept ++ t) (sym (choice byte more (sym means ∙ no_drop))) ∙ ap (λ t. kept ++ without_returns t) (sym is) ∙ so_far

pub byte_dropped : (kept : Text) {rest more : Text} (whole : Text) {byte : ℕ} {drops : Bool}
    → kept ++ without_returns rest ≡ without_returns whole → rest ≡ byte ∷ more
    → drops ≡ ((byte == 13) && begins_with_line_end more) → drops ≡ true
    → kept ++ without_returns more ≡ without_returns whole
byte_dropped kept {rest} {more} whole {byte} so_far is means drop =
    ap (λ t. kept ++ t) (sym (choice byte more (sym means ∙ drop))) ∙ ap (λ t. kept ++ without_returns t) (sym is) ∙ so_far

pub all_copied : (kept rest whole : Text) → kept ++ without_returns rest ≡ without_returns whole → length rest ≡ 0 → kept ≡ without_returns whole
unfolding without_returns
all_copied kept [] whole so_far end = sym (append-nil kept) ∙ so_far
all_copied kept (x ∷ rest) whole so_far end = absurd (omega arith)

-- what the copying of a text cites
pub ruleset copy_laws = (byte_kept, byte_dropped, all_copied)

-- Runs that deliver one answer, and those that end before their answers are whole.

-- a stop is no whole answer
late : (stop : Stop) → 5 ≤ status_of stop
late Memory = omega arith
late Broken = omega arith

-- so is no exit with one
pub is_late : (r : Result Status Stop) (stop : Stop) → IsErr r × IsErrAnd r (λ e. e ≡ stop) → 5 ≤ status_in r
is_late (Ok status) stop h = absurd (true≢false (sym h.0))
is_late (Err met) stop h = late met

-- what begins an answer of one kind begins one of another that follows from it
begins_as : (A B : Answer → Type 0) (w : Text) → ((a : Answer) → A a → B a) → BeginsAnswer A w → BeginsAnswer B w
begins_as A B w follows some = (some.0, follows some.0 some.1, some.2)

begins_if_any_as : (A B : Answer → Type 0) {w : Text} → ((a : Answer) → A a → B a) → BeginsIfAny A w → BeginsIfAny B w
begins_if_any_as A B follows (inl none) = inl none
begins_if_any_as A B {w} follows (inr some) = inr (begins_as A B w follows some)

-- nothing begins each answer
nothing_begins : (A : Answer → Type 0) → (a : Answer) × A a → BeginsAnswer A []
nothing_begins A some = (some.0, some.1, (some.0.text, refl))

begins_some : (A : Answer → Type 0) {w : Text} → (a : Answer) × A a → BeginsIfAny A w → BeginsAnswer A w
begins_some A some (inl none) = subst (BeginsAnswer A) (sym none) (nothing_begins A some)
begins_some A some (inr begun) = begun

-- what a step wrote that knows of no answer before
abbrev pub WroteIfAny : {S : Type 0} → (S → Text → S → Type 0) → (Answer → Type 0) → S → S → ℕ → Type 0
WroteIfAny takes allows = Wrote takes allows (BeginsIfAny allows)

-- what is told as one thing is told as another that follows from it
pub says_as : {S : Type 0} {takes : S → Text → S → Type 0} {A B : Answer → Type 0} {s t : S} {status : ℕ} → ((a : Answer) → A a → B a)
    → WroteIfAny takes A s t status → WroteIfAny takes B s t status
says_as {A} {B} follows told = grind (arith, common_steps, begins_if_any_as, told.written, told.took, told.begun, told.whole)

-- some answer is allowed
pub says_some : {S : Type 0} {takes : S → Text → S → Type 0} {A : Answer → Type 0} {s t : S} {status : ℕ} → (a : Answer) × A a
    → WroteIfAny takes A s t status → Wrote takes A (BeginsAnswer A) s t status
says_some {A} some told = grind (arith, common_steps, begins_some, told.written, told.took, told.begun, told.whole)

-- nothing was written
pub says_nothing : {S : Type 0} {takes : S → Text → S → Type 0} {allows : Answer → Type 0} {s : S} {status : ℕ} → takes s [] s
    → 5 ≤ status → WroteIfAny takes allows s s status
says_nothing nothing high = grind (arith, common_steps)

rest_is : (rest : List ℕ) (n m : ℕ) → m ≡ length rest → take (m - n) (drop n rest) ≡ drop n rest
rest_is rest n m e = grind (arith, common_steps)

-- what two times in turn took is taken by both together
abbrev pub TakesBoth : {S : Type 0} → (S → Text → S → Type 0) → Type 0
TakesBoth {S} takes = (s t u : S) (a b : Text) → takes s a t → takes t b u → takes s (a ++ b) u

module _ {S : Type 0} {takes : S → Text → S → Type 0} (both : TakesBoth takes) where
  -- after one more put, which took n bytes
  pub put_more : {s t u : S} {bytes rest : List ℕ} (n m : ℕ) → m ≡ length rest → PutUpTo takes s bytes rest t
      → takes t (take n rest) u → PutUpTo takes s bytes (take (m - n) (drop n rest)) u
  put_more {s} {t} {u} {bytes} {rest} n m e so_far took = record {
    done = so_far.done ++ take n rest;
    took = both s t u so_far.done (take n rest) so_far.took took;
    split = so_far.split ∙ ap (λ l. so_far.done ++ l) (sym (take-append-drop n rest))
        ∙ sym (append_assoc so_far.done (take n rest) (drop n rest))
        ∙ ap (λ l. (so_far.done ++ take n rest) ++ l) (sym (rest_is rest n m e));
  }

  -- all was put, and then the finishing took nothing more
  pub delivers_all : {s : S} (t : S) {u : S} {a : Answer} {bytes : List ℕ} {status : ℕ} → bytes ≡ a.text → (status ≡ a.status) ⊎ (status ≡ 6)
      → takes s bytes t → takes t [] u → Delivers takes s a u status
  delivers_all {s} t {u} {bytes} e is took more = record {
    written = bytes ++ [];
    took = both s t u bytes [] took more;
    begun = ([], sym (append-nil _ ∙ append-nil bytes ∙ e));
    whole = λ small. (
      append-nil bytes ∙ e,
      elim is [
        | inl same ↦ same
        | inr broken ↦ absurd (omega arith)
      ],
    );
  }

module _ {I O : Type 0} {source : sources.Ghosts I} {sink : sinks.Ghosts O}
    {allows : Text → Answer → Type 0} where
  -- nothing was read, and what was written may be left on every input
  pub ran_by_telling : {i : I} {o p : O} (tells : Answer → Type 0) {status : ℕ} → source.gives i [] i → ((input : Text) (a : Answer) → tells a → allows input a)
      → Wrote sink.takes tells (BeginsAnswer tells) o p status → Ran source sink allows i i o p status
  ran_by_telling tells nothing allowed t = grind (arith, common_steps, begins_as, t.written, t.took, t.begun, t.whole)

  -- the same of an answer that is allowed on every input
  ran_by_reply : {i : I} {o p : O} {a : Answer} {status : ℕ} → source.gives i [] i → ((input : Text) → allows input a)
      → Delivers sink.takes o a p status → Ran source sink allows i i o p status
  ran_by_reply {a} nothing allowed d = ran_by_telling (λ b. (input : Text) → allows input b) nothing (λ input b told. told input) (record {
    written = d.written;
    took = d.took;
    begun = (a, allowed, d.begun);
    whole = λ small input. rw ((d.whole small).0, (d.whole small).1) (allowed input);
  })

  -- bytes were read, and nothing was written
  pub ran_unwritten : HasAnswers allows → {i j : I} {o : O} (seen : Text) {status : ℕ} → 5 ≤ status → source.gives i seen j → sink.takes o [] o
      → Ran source sink allows i j o o status
  ran_unwritten answers seen high gave took = grind (arith, common_steps, nothing_begins)

  -- an answer that is allowed on every input was put, if there was memory for it
  pub ran_by_put : {E : Type 0} (made : Result Reply E) {i : I} {o p : O} {status : ℕ} → HasAnswers allows → source.gives i [] i → sink.takes o [] o
      → IfOk made (λ r. (input : Text) → allows input (answer_in r)) → IfOk made (λ r. Delivers sink.takes o (answer_in r) p status)
      → IfErr made (λ _. (p ≡ o) × (status ≡ 5)) → Ran source sink allows i i o p status
  ran_by_put (Ok r) answers nothing none allowed put unmade = ran_by_reply nothing allowed put
  ran_by_put (Err e) answers nothing none allowed put unmade =
      rw unmade.0 (ran_unwritten answers [] (omega arith) nothing none)

  -- the same of steps that know of no answer before
  pub ran_if_any_unwritten : {i j : I} {o : O} (seen : Text) {status : ℕ} → 5 ≤ status → source.gives i seen j → sink.takes o [] o
      → RanIfAny source sink allows i j o o status
  ran_if_any_unwritten seen high gave took = grind (arith, common_steps)

  pub ran_if_any_by_telling : {i : I} {o p : O} (tells : Answer → Type 0) {status : ℕ}
      → source.gives i [] i → ((input : Text) (a : Answer) → tells a → allows input a)
      → WroteIfAny sink.takes tells o p status → RanIfAny source sink allows i i o p status
  ran_if_any_by_telling tells nothing allowed t = grind (arith, common_steps, begins_if_any_as, t.written, t.took, t.begun, t.whole)

  -- where each input has an answer, a beginning of one was written
  pub ran_some : HasAnswers allows → {i j : I} {o p : O} {status : ℕ} → RanIfAny source sink allows i j o p status → Ran source sink allows i j o p status
  ran_some answers r = grind (arith, common_steps, begins_some)

-- what a reader over memory gave is the beginning of its bytes, and all of them where its end was met
pub input_known : (ended was : Bool) (bytes start read left : Text) → start ≡ bytes → was ≡ false
    → (start ≡ read ++ left) × (was ≡ false → ended ≡ true → left ≡ []) → IsInput ended read bytes
input_known true was bytes start read left same fresh g = sym same ∙ g.0 ∙ ap (λ l. read ++ l) (g.1 fresh refl) ∙ append-nil read
input_known false was bytes start read left same fresh g = (left, sym same ∙ g.0)

-- what a check that ends early cites
pub ruleset unwritten_laws = (ran_if_any_unwritten, is_late)

-- A text that is put piece by piece: what was put and what is left of it are the text so far.

-- a text begins itself
begins_itself : {text other : Text} → other ≡ text → Begins text other
begins_itself {text} e = ([], e ∙ sym (append-nil text))

-- the first texts begin all of them
each_begins : (f : ℕ → Text) (i n : ℕ) → i ≤ n → Begins (each_below f i) (each_below f n)
unfolding each_below
each_begins f i zero le = let e : zero ≡ i = omega arith in begins_itself (ap (each_below f) e)
each_begins f i (suc n) le = elim (cases_lt i (suc n)) [
  | inl lt ↦ let h = each_begins f i n (omega arith) in (h.0 ++ f n, ap (λ t. t ++ f n) h.1 ∙ append_assoc _ h.0 (f n))
  | inr ge ↦ let e : suc n ≡ i = omega arith in begins_itself (ap (each_below f) e)
]

-- one more line is in the text, after what was put of it
line_split : (text done held : Text) {longer line : Text} (f : ℕ → Text) (i : ℕ) → text ++ each_below f i ≡ done ++ held → longer ≡ held ++ line → line ≡ f i
    → text ++ each_below f (i + 1) ≡ done ++ longer
unfolding each_below
line_split text done held f i same is equal = grind (arith, common_steps, add-one, append_assoc)

module _ {S : Type 0} {takes : S → Text → S → Type 0} where
  -- before the first line
  pub no_line : (s : S) → takes s [] s → (text : Text) (f : ℕ → Text) → PutUpTo takes s (text ++ each_below f 0) text s
  unfolding each_below
  no_line s nothing text f = record { done = []; took = nothing; split = append-nil text }

  -- one more line is in the text, and nothing more was put
  pub line_added : {s t : S} (text : Text) {held longer line : Text} (f : ℕ → Text) (i : ℕ) → PutUpTo takes s (text ++ each_below f i) held t
      → longer ≡ held ++ line → line ≡ f i → PutUpTo takes s (text ++ each_below f (i + 1)) longer t
  line_added text {held} f i put more is = grind (arith, common_steps, line_split)

  -- what was held was put up to a rest
  pub piece_put : TakesBoth takes → (s t u : S) {text held : Text} (rest : Text) → PutUpTo takes s text held t → PutUpTo takes t held rest u → PutUpTo takes s text rest u
  piece_put both s t u rest put more = record {
    done = put.done ++ more.done;
    took = both s t u put.done more.done put.took more.took;
    split = put.split ∙ ap (λ l. put.done ++ l) more.split ∙ sym (append_assoc put.done more.done rest);
  }

  -- what was held was begun
  pub piece_begun : TakesBoth takes → (s t u : S) {text held : Text} → PutUpTo takes s text held t → PutBegun takes t held u → PutBegun takes s text u
  piece_begun both s t u put more = record {
    done = put.done ++ more.done;
    took = both s t u put.done more.done put.took more.took;
    begun = (more.begun.0, put.split ∙ ap (λ l. put.done ++ l) more.begun.1 ∙ sym (append_assoc put.done more.done more.begun.0));
  }

-- what was put of a text begins it
pub put_begins : {S : Type 0} {takes : S → Text → S → Type 0} {s t : S} (text held : Text) → PutUpTo takes s text held t → PutBegun takes s text t
put_begins text held put = record { done = put.done; took = put.took; begun = (held, put.split) }

-- a beginning of the text with the first lines begins the text with all of them
pub lines_begun : {S : Type 0} {takes : S → Text → S → Type 0} {s t : S} (text : Text)
    (f : ℕ → Text) (i n : ℕ) → i ≤ n → PutBegun takes s (text ++ each_below f i) t
    → PutBegun takes s (text ++ each_below f n) t
lines_begun text f i n le begun =
    let h = each_begins f i n le in
    record {
      done = begun.done;
      took = begun.took;
      begun = (
        begun.begun.0 ++ h.0,
        ap (λ l. text ++ l) h.1 ∙ sym (append_assoc text _ h.0) ∙ ap (λ l. l ++ h.0) begun.begun.1
            ∙ append_assoc begun.done begun.begun.0 h.0,
      );
    }

module _ {S : Type 0} {takes : S → Text → S → Type 0} {most : ℕ} where
  -- before the first line
  pub no_pieces : {s : S} (text : Text) (f : ℕ → Text) → PutInPieces takes most s (text ++ each_below f 0) text s
  unfolding each_below
  no_pieces text f = record { pieces = []; took = refl; split = append-nil text }

  -- one more line is in the text, and no piece more was put
  pub line_held : {s t : S} (text : Text) {held longer line : Text} (f : ℕ → Text) (i : ℕ) → PutInPieces takes most s (text ++ each_below f i) held t
      → longer ≡ held ++ line → line ≡ f i → PutInPieces takes most s (text ++ each_below f (i + 1)) longer t
  line_held text {held} {longer} {line} f i put more is = grind (arith, common_steps, line_split, joined)

  -- what was held was kept, or is one piece more
  pub next_piece : (s t u : S) {text : Text} (held : Text) {rest : Text}
      → PutInPieces takes most s text held t → length held < most → KeptOrPut takes t held rest u
      → PutInPieces takes most s text rest u
  next_piece s t u held put short next = elim next [
    | inl kept ↦ record {
      pieces = put.pieces;
      took = subst (λ v. TakesPieces takes most s put.pieces v) (sym kept.1) put.took;
      split = put.split ∙ ap (λ l. joined put.pieces ++ l) (sym kept.0);
    }
    | inr all ↦ record {
      pieces = held ∷ put.pieces;
      took = (t, put.took, all.1, short);
      split = put.split ∙ sym (append-nil (joined put.pieces ++ held)) ∙ ap (λ l. (joined put.pieces ++ held) ++ l) (sym all.0);
    }
  ]
