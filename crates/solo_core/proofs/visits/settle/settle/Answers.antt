use Rattle.std.proofs.lemmas.Grind.{common_steps}
use mir.Val.{bool_byte}
use Rattle.std.specs.Int.Bits.{or_zero_r}
use Rattle.std.specs.Prelude.{count_ones}
use Rattle.std.proofs.lemmas.Bool.{le-ltb}
use Rattle.std.proofs.lemmas.List.{take-set, take_more_set}
use Rattle.solo_core.proofs.Common.{Bool, List, add-zero, and_le_r, not, if◌then◌else◌, eqb, ap, arith, bit_and, bit_or, both-bits, cases_Bool, cases_eq, cases_lt, either-bits, eq-eqb, ext_get_or, false, get_or-set_at, get_or-set_other, has_bit, inl, inr, length, length-set, length-take, ltb, lt-ltb, nat_tests, ne_eqb, slice_index, slice_set, sym, take, true, ℕ, ◌+◌, ◌<◌, ◌∙◌, ◌≡◌, ◌≤◌}
use Rattle.solo_core.proofs.BitLemmas.{none_in_zero}
use Rattle.solo_core.proofs.SettledLemmas.{IsSettling, settled-but, settled-none, settling-but, settling-more, settling-none}
use Rattle.solo_core.proofs.visits.settle.settle.Goals as goal

byte-low : (b : Bool) → bool_byte b ≤ 1
byte-low true = omega arith
byte-low false = omega arith

-- one cell more is copied
copied-more : (copy sets : List ℕ) (k : ℕ) → length copy ≡ length sets → k < length sets → ((j : ℕ) → j < k → slice_index copy j ≡ slice_index sets j)
    → (j : ℕ) → j < k + 1 → slice_index (slice_set copy k (slice_index sets k)) j ≡ slice_index sets j
copied-more copy sets k e lk was j lt = grind (arith, common_steps, cases_eq, get_or-set_at, get_or-set_other)

pub loop-cell-init : goal.loop-cell-init
loop-cell-init c = grind (arith, common_steps, settling-none, c.requires.as_many)

pub bounds-rest-count : goal.bounds-rest-count
bounds-rest-count c = omega (arith, c.loop-cell.invariant.within, c.loop-cell.invariant.room, c.requires.room)

pub overflow_add-count : goal.overflow_add-count
overflow_add-count c = omega (arith, c.loop-cell.invariant.within, c.from-count.ensures, byte-low (not (eqb (count_ones (slice_index c.args.sets.now c.loop-cell.cell)) 1)))

pub loop-cell-preserved : goal.loop-cell-preserved
loop-cell-preserved c =
    let i = c.loop-cell.invariant in
    let k = c.loop-cell.cell in
    let set = slice_index c.args.sets.now k in
    let all = c.all_below-all.result in
    let taken = c.loop-cell.taken in
    let count = c.loop-cell.count in
    let rest = c.loop-cell.rest in
    let room : count < length rest = omega (arith, i.within, i.room, c.requires.room) in
    let below : (v : ℕ) → has_bit all v ≡ ltb v c.args.values = λ v. elim (cases_lt v c.args.values) [
      | inl lt ↦ c.all_below-all.ensures.all v lt ∙ sym (lt-ltb v c.args.values lt)
      | inr ge ↦ elim (cases_Bool (has_bit all v)) [
        | inl on ↦ absurd (omega (arith, c.all_below-all.ensures.below v on))
        | inr off ↦ off ∙ sym (le-ltb v c.args.values ge)
      ]
    ] in
    let next : (c.loop-cell.count + c.from-count.result ≤ k + 1) × IsSettling c.args.values c.args.sets.now
    (take (count + c.from-count.result) (slice_set rest count k)) (k + 1) (bit_and (bit_or taken c.unless-taken.result) all) =
    elim (cases_eq (count_ones set) 1) [
      | inl one ↦
          let is = eq-eqb (count_ones set) 1 one in
          let none : c.from-count.result ≡ 0 = c.from-count.ensures ∙ ap (λ b. bool_byte (not b)) is in
          let own : c.unless-taken.result ≡ set = c.unless-taken.ensures ∙ ap (λ b. if not b then 0 else set) is in
          rw (none, own, add-zero, take-set rest count k) (
            omega (arith, i.within),
            settling-more i.settling (bit_and (bit_or taken set) all) (omega (arith, and_le_r taken all)) (omega (arith, and_le_r (bit_or taken set) all)) (omega (arith, c.type_inv.sets k)) one
                (λ v. let both = both-bits (bit_or taken set) all v in let was = both-bits taken all v in let or = either-bits taken set v in let low = below v in grind (arith, nat_tests)),
          )
      | inr ne ↦
          let is = ne_eqb (count_ones set) 1 ne in
          let more : c.from-count.result ≡ 1 = c.from-count.ensures ∙ ap (λ b. bool_byte (not b)) is in
          let none : c.unless-taken.result ≡ 0 = c.unless-taken.ensures ∙ ap (λ b. if not b then 0 else set) is in
          rw (more, none, or_zero_r taken, take_more_set rest count k room) (omega (arith, i.within), settling-but i.settling)
    ] in
    record {
      as_many = length-set c.loop-cell.copy k set ∙ i.as_many;
      copied = copied-more c.loop-cell.copy c.args.sets.now k i.as_many (omega arith) i.copied;
      room = length-set rest count k ∙ i.room;
      within = next.0;
      settling = next.1;
    }

pub overflow_add-settled : goal.overflow_add-settled
overflow_add-settled c = let few = c.loop-cell.invariant.settling.few in omega (arith, length-take c.loop-cell.count c.loop-cell.rest, c.loop-cell.invariant.within, c.loop-cell.invariant.room, c.requires.room, few)

pub returns-then-settled-count-clause-copied : goal.returns-then-settled-count-clause-copied
returns-then-settled-count-clause-copied c = let i = c.loop-cell.invariant in ext_get_or 0 _ _ i.as_many (λ j lt. i.copied j (omega (arith, i.as_many)))

pub returns-then-settled-count-clause-settled : goal.returns-then-settled-count-clause-settled
returns-then-settled-count-clause-settled c = grind (arith, common_steps, length-take, c.loop-cell.invariant, c.if-settled-count.true, c.requires.room)

pub loop-cell-2-init : goal.loop-cell-2-init
loop-cell-2-init c = record { room = c.loop-cell.invariant.room; settled = settled-none none_in_zero }

pub loop-cell-2-preserved : goal.loop-cell-2-preserved
loop-cell-2-preserved c =
    let i = c.loop-cell-2.invariant in record {
      room = length-set c.loop-cell-2.rest _ _ ∙ i.room;
      settled = rw (take_more_set c.loop-cell-2.rest c.loop-cell-2.cell c.loop-cell-2.cell (omega (arith, i.room, c.requires.room))) (settled-but i.settled);
    }

pub returns-clause-copied : goal.returns-clause-copied
returns-clause-copied c = let i = c.loop-cell.invariant in ext_get_or 0 _ _ i.as_many (λ j lt. i.copied j (omega (arith, i.as_many)))

pub returns-clause-settled : goal.returns-clause-settled
returns-clause-settled c = let all : c.loop-cell-2.cell ≡ length c.args.sets.now = omega arith in rw all at c.loop-cell-2.invariant.settled
