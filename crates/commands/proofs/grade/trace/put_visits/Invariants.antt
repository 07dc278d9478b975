use Rattle.commands.proofs.Common.{PutInPieces, PutUpTo, each_below, false, visit_line, slice_index, string_bytes, string_len, ◌++◌, ◌+◌, ◌<◌, ◌≡◌}
use Rattle.commands.specs.declared.grade.trace.TheConstants.{FULL_PIECE, MAX_LINE}
use Rattle.commands.proofs.grade.trace.put_visits.Given as goal

abbrev pub invariant-loop-number : goal.invariant-loop-number
invariant-loop-number g l = PutUpTo g.O.Sink.takes l.fn.output
    (string_bytes l.fn.text ++ each_below
    (λ k. visit_line (g.P.Played.game.visit_name l.puzzle (slice_index l.visits k)))
    l.number-index) (string_bytes l.text) l.output
    × (g.O.Sink.has_failed l.output ≡ false)
    × (string_len l.fn.text < FULL_PIECE → string_len l.text < FULL_PIECE)
    × (string_len l.fn.text < FULL_PIECE → PutInPieces g.O.Sink.takes (FULL_PIECE + MAX_LINE) l.fn.output
    (string_bytes l.fn.text ++ each_below
    (λ k. visit_line (g.P.Played.game.visit_name l.puzzle (slice_index l.visits k)))
    l.number-index) (string_bytes l.text) l.output)
