use Rattle.commands.proofs.Common.{[], ap, false, not-false, not-true, on_err_weaker, on_ok_weaker, refl, subst, sweeps_text, sym, true, visits_text, ◌∙◌, ◌≡◌}
use Rattle.engine_core.specs.ClosingList.{IsClosingList, IsClosingSweeps}
use Rattle.engine_core.specs.Mode.{is_queue}
use Rattle.commands.proofs.BatchLemmas.{on_any_err}
use Rattle.commands.proofs.GradeLemmas.{is_traced, untraced}
use Rattle.commands.proofs.grade.Attempt.put_trace.Goals as goal

pub returns-then-not-self-clause-put : goal.returns-then-not-self-clause-put
returns-then-not-self-clause-put g c = untraced _ (g.met.O.Sink.takes_nothing _) (not-true _ c.if-not-self.true)

pub returns-in_err-push_sweeps-in-Sweep-clause-begun : goal.returns-in_err-push_sweeps-in-Sweep-clause-begun
returns-in_err-push_sweeps-in-Sweep-clause-begun g c =
    let mode : (g.R.Rules.system c.args.rules.now).by_queue ≡ false = g.met.R.Rules.mode_is _ ∙ ap is_queue (sym c.MODE.ensures ∙ c.in-Sweep.is) in
    on_any_err c.from_residual.result (record {
      lines = sweeps_text c.turns.result;
      trace = is_traced _ _ _ _ (not-false _ c.if-not-self.false) mode (record { sweeps = c.turns.result; closing = subst (IsClosingSweeps _ _) (sym c.turns.ensures) (c.requires.closed.sweeps mode); said = refl });
      begun = record { done = []; took = g.met.O.Sink.takes_nothing _; begun = (_, refl) };
    })

pub returns-in_ok-push_sweeps-in-Sweep-clause-put : goal.returns-in_ok-push_sweeps-in-Sweep-clause-put
returns-in_ok-push_sweeps-in-Sweep-clause-put g c =
    let mode : (g.R.Rules.system c.args.rules.now).by_queue ≡ false = g.met.R.Rules.mode_is _ ∙ ap is_queue (sym c.MODE.ensures ∙ c.in-Sweep.is) in
    record {
      lines = sweeps_text c.turns.result;
      trace = is_traced _ _ _ _ (not-false _ c.if-not-self.false) mode (record { sweeps = c.turns.result; closing = subst (IsClosingSweeps _ _) (sym c.turns.ensures) (c.requires.closed.sweeps mode); said = refl });
      put = record { done = []; took = g.met.O.Sink.takes_nothing _; split = sym c.in_ok-push_sweeps-in-Sweep.ensures };
    }

pub returns-in-Queue-clause-put : goal.returns-in-Queue-clause-put
returns-in-Queue-clause-put g c =
    let mode : (g.R.Rules.system c.args.rules.now).by_queue ≡ true = g.met.R.Rules.mode_is _ ∙ ap is_queue (sym c.MODE.ensures ∙ c.in-Queue.is) in
    on_ok_weaker c.put_visits.result (λ put. record {
      lines = visits_text (g.P.Played.game.visit_name c.args.puzzle.now) c.trace.result.now;
      trace = is_traced _ _ _ _ (not-false _ c.if-not-self.false) mode (record { visits = c.trace.result.now; closing = subst (IsClosingList _ _) (sym c.trace.ensures) (c.close.ensures.closing.by_visits mode).1; said = refl });
      put = put;
    }) c.put_visits.ensures.ok

pub returns-in-Queue-clause-begun : goal.returns-in-Queue-clause-begun
returns-in-Queue-clause-begun g c =
    let mode : (g.R.Rules.system c.args.rules.now).by_queue ≡ true = g.met.R.Rules.mode_is _ ∙ ap is_queue (sym c.MODE.ensures ∙ c.in-Queue.is) in
    on_err_weaker c.put_visits.result (λ begun. record {
      lines = visits_text (g.P.Played.game.visit_name c.args.puzzle.now) c.trace.result.now;
      trace = is_traced _ _ _ _ (not-false _ c.if-not-self.false) mode (record { visits = c.trace.result.now; closing = subst (IsClosingList _ _) (sym c.trace.ensures) (c.close.ensures.closing.by_visits mode).1; said = refl });
      begun = begun;
    }) c.put_visits.ensures.err
