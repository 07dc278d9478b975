use Rattle.solo_core.proofs.Common.{and_le_r, ap, arith, bit_and, both-bits, false, has_bit, inl, inr, ltb, nat_tests, not, sym, true, true≢false, ℕ, ◌&&◌, ◌<◌, ◌^◌, ◌∙◌, ◌≡◌}
use Rattle.solo_core.proofs.BitLemmas.{some_set}
use Rattle.solo_core.proofs.visits.peel.narrow.Goals as goal

-- of the bits of a set that are values and not outside: where one is there, and where none is
module _ (n set others out : ℕ) (low : others < 2 ^ 32) (is : (v : ℕ) → has_bit others v ≡ (ltb v n && not (has_bit out v))) where
  abbrev left : ℕ
  left = bit_and set others

  some_left : (left ≡ 0 → ⊥) → (v : ℕ) × (has_bit left v ≡ true) × (has_bit set v ≡ true) × (v < n) × (has_bit out v ≡ false)
  some_left some =
      let w = some_set left (omega (arith, and_le_r set others)) (grind (arith, nat_tests)) in
      let both = both-bits set others w.0 in
      let i = is w.0 in
      (w.0, w.1, grind arith, grind (arith, nat_tests), grind arith)

  struck_is_out : (v : ℕ) → v < n → has_bit set v ≡ true → has_bit left v ≡ false → has_bit out v ≡ true
  struck_is_out v lv on off = let both = both-bits set others v in let i = is v in grind (arith, nat_tests)

pub returns-then-own-ne0-clause-dropped : goal.returns-then-own-ne0-clause-dropped
returns-then-own-ne0-clause-dropped c = λ v lv on off.
    let w = some_left c.args.values c.args.set c.others_below.result c.args.counts.shared (omega arith) c.others_below.ensures c.if-own-ne0.true in
    (w.0, w.3, w.2, λ e. true≢false (sym w.1 ∙ ap (has_bit _) e ∙ off), inl w.4)

pub returns-then-open-ne0-clause-dropped : goal.returns-then-open-ne0-clause-dropped
returns-then-open-ne0-clause-dropped c = λ v lv on off.
    let w = some_left c.args.values c.args.set c.others_below-2.result c.args.counts.single (omega arith) c.others_below-2.ensures c.if-open-ne0.true in
    let gone = struck_is_out c.args.values c.args.set c.others_below-2.result c.args.counts.single (omega arith) c.others_below-2.ensures v lv on off in
    (w.0, w.3, w.2, λ e. true≢false (sym w.1 ∙ ap (has_bit _) e ∙ off), inr gone)
