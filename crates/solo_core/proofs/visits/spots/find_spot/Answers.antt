use Rattle.solo_core.proofs.Common.{and-false, arith, refl, mod_below, mul-le, ne_eqb, ◌%◌, ◌*◌, ◌+◌, ◌/◌, ◌<◌, ◌∙◌}
use Rattle.std.proofs.lemmas.Nat.{div_below}
use Rattle.solo_core.proofs.SpotLemmas.{block-low, spot-0, spot-1, spot-2, spot-3, spot-4}
use Rattle.solo_core.proofs.visits.spots.find_spot.Goals as goal
use Rattle.solo_core.proofs.visits.spots.find_spot.Goals.{else-which-eq3-via-then-which-eq3+else-y-x, else-which-eq3-via-else-which-eq3, else-which-eq4-via-then-which-eq4+else-y-x-2, else-which-eq4-via-else-which-eq4}

pub returns-then-which-eq1 : goal.returns-then-which-eq1
returns-then-which-eq1 c = rw (← c.from-tall.ensures, ← c.from-wide.ensures) (c.at.ensures ∙ spot-1 _ _ c.args.place c.args.which c.if-which-eq1.true)

pub at-requires-then-which-eq2-clause-house : goal.at-requires-then-which-eq2-clause-house
at-requires-then-which-eq2-clause-house c =
    let n = c.args.c * c.args.r in
    let some : 0 < n = omega (arith, mul-le 1 1 c.args.c c.args.r c.requires.c_low c.requires.r_low) in
    let low = block-low c.requires.c_low c.requires.r_low (div_below c.args.place n n some c.requires.place_in) (mod_below c.args.place n some) in
    rw (c.from-tall.ensures, c.from-wide.ensures) (omega (arith, low, c.requires.few))

pub returns-then-which-eq2 : goal.returns-then-which-eq2
returns-then-which-eq2 c = rw (← c.from-tall.ensures, ← c.from-wide.ensures) (c.at-then-which-eq2.ensures ∙ spot-2 _ _ c.args.place c.args.which c.if-which-eq2.true)

pub returns-then-y-x : goal.returns-then-y-x
returns-then-y-x c = rw (← c.from-tall.ensures, ← c.from-wide.ensures) (c.at-then-y-x.ensures ∙ spot-3 _ _ c.args.place c.args.which c.if-which-eq3.true c.if-y-x.true)

pub returns-then-y-x-2 : goal.returns-then-y-x-2
returns-then-y-x-2 c = rw (← c.from-tall.ensures, ← c.from-wide.ensures) (c.at-then-y-x-2.ensures ∙ spot-4 _ _ c.args.place c.args.which c.if-which-eq4.true c.if-y-x-2.true)

pub returns : goal.returns
returns c =
    let tall = c.from-tall.result in
    let wide = c.from-wide.result in
    let y = c.args.place / (tall * wide) in
    let x = c.args.place % (tall * wide) in
    rw (← c.from-tall.ensures, ← c.from-wide.ensures) (c.at-2.ensures ∙ spot-0 tall wide c.args.place c.args.which c.if-which-eq1.false c.if-which-eq2.false
    (elim c.else-which-eq3.branch [
      | else-which-eq3-via-then-which-eq3+else-y-x w ↦ rw (ne_eqb y x w.if-y-x.false) (and-false _)
      | else-which-eq3-via-else-which-eq3 w ↦ rw (ne_eqb c.args.which 3 w.if-which-eq3.false) refl
    ])
    (elim c.else-which-eq4.branch [
      | else-which-eq4-via-then-which-eq4+else-y-x-2 w ↦ rw (ne_eqb (y + x + 1) (tall * wide) w.if-y-x-2.false) (and-false _)
      | else-which-eq4-via-else-which-eq4 w ↦ rw (ne_eqb c.args.which 4 w.if-which-eq4.false) refl
    ]))
