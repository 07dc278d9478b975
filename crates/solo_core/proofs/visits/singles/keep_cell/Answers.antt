use Rattle.solo_core.proofs.Common.{any_below-same, ap, arith, eqb, has_bit, has_in, length, not, zero-bits, ◌&&◌, ◌||◌, ◌∙◌, ◌≡◌}
use Rattle.solo_core.specs.Singles.{is_only_place}
use Rattle.solo_core.proofs.CrossingLemmas.{any-more, any-none}
use Rattle.solo_core.proofs.visits.singles.keep_cell.Goals as goal

pub loop-j-init : goal.loop-j-init
loop-j-init c = record { taken = λ v lt. zero-bits v ∙ any-none _; elsewhere = λ v. zero-bits v ∙ any-none _ }

pub loop-j-preserved : goal.loop-j-preserved
loop-j-preserved c = record {
  taken = λ v lt. any-more _ _ (c.loop-j.invariant.taken v lt) (c.with_more_if-taken.ensures v
      ∙ ap (λ b. has_bit c.loop-j.taken v || (not (eqb c.loop-j.j c.args.place) && b)) (c.only_value.ensures v lt));
  elsewhere = λ v. any-more _ _ (c.loop-j.invariant.elsewhere v) (c.with_more_if-elsewhere.ensures v);
}

pub returns : goal.returns
returns c = λ v lt.
    let sets = c.args.sets.now in let place = c.args.place in
    let all : c.loop-j.j ≡ length sets = omega (arith, c.loop-j-test.false) in
    let taken = rw all at (c.loop-j.invariant.taken v lt) in
    let needed = c.with_another.ensures v lt ∙ any_below-same _ (λ w. not (eqb w v) && is_only_place (length sets) (has_in sets) place w) c.args.values
    (λ w lw. ap (λ b. not (eqb w v) && b) (c.without.ensures w ∙ ap (λ b. has_in sets place w && not b) (rw all at (c.loop-j.invariant.elsewhere w)))) in
    grind (arith, c.without-2.ensures v, c.without-set.ensures v, taken, needed)
