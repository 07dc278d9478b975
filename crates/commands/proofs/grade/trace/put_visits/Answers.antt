use Rattle.commands.proofs.Common.{PutBegun, arith, length, visit_line, refl, rules, slice_index, string_bytes, visits_text, ◌++◌, ◌+◌}
use Rattle.commands.proofs.BatchLemmas.{on_any_err}
use Rattle.commands.proofs.RunLemmas.{no_line, line_added, piece_put, piece_begun, put_begins, lines_begun, no_pieces, line_held, next_piece}
use Rattle.commands.proofs.grade.trace.put_visits.Goals as goal

pub loop-number-init : goal.loop-number-init
loop-number-init g c = (no_line _ (g.met.O.Sink.takes_nothing _) _ _, search rules, λ small. small, λ _. no_pieces _ _)

pub returns-in_err-push_visit-clause-err : goal.returns-in_err-push_visit-clause-err
returns-in_err-push_visit-clause-err g c =
    let begun : PutBegun g.O.Sink.takes c.args.output.now
    (string_bytes c.args.text.now ++ visits_text (g.P.Played.game.visit_name c.args.puzzle.now) c.args.visits.now)
    c.loop-number.output =
    lines_begun _ (λ k. visit_line (g.P.Played.game.visit_name c.args.puzzle.now (slice_index c.args.visits.now k)))
    c.loop-number.number-index (length c.args.visits.now) (omega arith)
    (put_begins _ _ c.loop-number.invariant.0) in
    on_any_err c.from_residual.result begun

pub returns-in_err-put_piece-clause-err : goal.returns-in_err-put_piece-clause-err
returns-in_err-put_piece-clause-err g c =
    let begun : PutBegun g.O.Sink.takes c.args.output.now
    (string_bytes c.args.text.now ++ visits_text (g.P.Played.game.visit_name c.args.puzzle.now) c.args.visits.now)
    c.put_piece.new.output =
    lines_begun _ (λ k. visit_line (g.P.Played.game.visit_name c.args.puzzle.now (slice_index c.args.visits.now k)))
    (c.loop-number.number-index + 1) (length c.args.visits.now) (omega arith)
    (piece_begun g.met.O.Sink.takes_both _ _ _
    (line_added _ _ _ c.loop-number.invariant.0 c.in_ok-push_visit.ensures.line refl)
    c.in_err-put_piece.ensures.err) in
    on_any_err c.from_residual-in_err-put_piece.result begun

pub loop-number-preserved : goal.loop-number-preserved
loop-number-preserved g c = (
  piece_put g.met.O.Sink.takes_both _ _ _ _
      (line_added _ _ _ c.loop-number.invariant.0 c.in_ok-push_visit.ensures.line refl)
      c.in_ok-put_piece.ensures.ok,
  c.in_ok-put_piece.ensures.fine,
  λ small. c.in_ok-put_piece.ensures.small,
  λ small. next_piece _ _ _ _
      (line_held _ _ _ (c.loop-number.invariant.3 small) c.in_ok-push_visit.ensures.line refl)
      (omega (arith, c.loop-number.invariant.2 small, c.in_ok-push_visit.ensures.short, c.push_visit.new.text.bytes.ok.0)) c.in_ok-put_piece.ensures.whole,
)
