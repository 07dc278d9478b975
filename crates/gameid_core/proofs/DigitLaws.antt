-- Numbers of one digit and of two.
use Rattle.gameid_core.specs.Common.{List, [], arith, common_steps, decimal, decimal_by_steps, decimal_digit, refl, ℕ, ◌%◌, ◌*◌, ◌++◌, ◌+◌, ◌<◌, ◌^◌, ◌∷◌, ◌≡◌, ◌≤◌}
use Rattle.std.specs.Prelude.{◌/◌}

pub decimal_two : (n : ℕ) → 10 ≤ n → n < 100 → decimal n ≡ (48 + n / 10) ∷ (48 + n % 10) ∷ []
decimal_two n ge lt = (decimal_by_steps
    (λ n ds. (n < 10 → ds ≡ (48 + n) ∷ []) × (10 ≤ n → n < 100 → ds ≡ (48 + n / 10) ∷ (48 + n % 10) ∷ []))
    (λ n low. (λ _. refl, λ ge. absurd (omega arith)))
    (λ n ds ge h. (λ low. absurd (omega arith), λ _ lt. rw (h.0 (omega arith)) refl)) n (omega arith)).1 ge lt

pub ruleset digits = (common_steps, decimal_digit, decimal_two)
