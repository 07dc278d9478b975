use Rattle.gameid_core.specs.Common.{after_digits, digits_front, length, min, value, value_after, ◌≡◌, ◌≤◌}
use Rattle.gameid_core.proofs.text.number.leading_number.Given as goal

abbrev pub invariant-loop-digit : goal.invariant-loop-digit
invariant-loop-digit l =
    (l.number ≤ 1000) × (min 1000 (value_after l.number (digits_front l.rest)) ≡ min 1000 (value (digits_front l.text)))
    × (after_digits l.rest ≡ after_digits l.text)

abbrev pub decreases-loop-digit : goal.decreases-loop-digit
decreases-loop-digit l = length l.rest
