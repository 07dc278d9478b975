use Rattle.fields_core.proofs.Common.{FailsLight, IsGrid, IsLightFault, IsLightSolution, Light, LightFault, List, None, Option, [], arith, black_right, bulb_right, common_steps, light_cells, light_tests, lit_right, none_exactly, none_right, not, number_right, rules, ℕ, ◌↔◌, ◌∷◌, ◌≡◌}
use Rattle.fields_core.proofs.RuleLemmas.{IsFirstWrong, all-right, first-wrong}
use Rattle.fields_core.proofs.LightRuleLemmas.{black, dark, kinds, light-made, light-none, light-sound, number, seen}
use Rattle.fields_core.proofs.light_up.check.check_lights.Goals as goal
use Rattle.fields_core.proofs.light_up.check.check_lights.Goals.{After-next_passing, After-next_passing-2, After-next_passing-3, After-next_passing-4}

-- what an answer says of the grid
told : (p : Light) (g : List ℕ) → IsGrid (light_cells p) 2 g → {fault : Option LightFault} → IsLightFault p g fault
    → IsLightFault p g fault × ((fault ≡ None) ↔ IsLightSolution p g)
told p g fits {fault} is = (is, none_exactly (FailsLight p g) (light_tests p) (light-none p g fits) fault is)

found-black : (c : After-next_passing) → IsFirstWrong (black c.args.puzzle.now c.args.grid.now) c.next_passing.result
unfolding black_right
found-black c = rw (c.cells-end.ensures.value, c.size.ensures.value) at (c.next_passing.ensures (λ k. not (black_right c.args.puzzle.now c.args.grid.now k)) (λ d answer lt met. grind (arith, common_steps)))

found-number : (c : After-next_passing-2) → IsFirstWrong (number c.args.puzzle.now c.args.grid.now) c.next_passing-2.result
found-number c = rw (c.cells-end.ensures.value, c.size.ensures.value) at (c.next_passing-2.ensures (λ k. not (number_right c.args.puzzle.now c.args.grid.now k)) (λ d answer lt met. search rules))

found-seen : (c : After-next_passing-3) → IsFirstWrong (seen c.args.puzzle.now c.args.grid.now) c.next_passing-3.result
unfolding bulb_right
found-seen c = rw (c.cells-end.ensures.value, c.size.ensures.value) at (c.next_passing-3.ensures (λ k. not (bulb_right c.args.puzzle.now c.args.grid.now k)) (λ d answer lt met. grind (arith, common_steps)))

found-dark : (c : After-next_passing-4) → IsFirstWrong (dark c.args.puzzle.now c.args.grid.now) c.next_passing-4.result
unfolding lit_right
found-dark c = rw (c.cells-end.ensures.value, c.size.ensures.value) at (c.next_passing-4.ensures (λ k. not (lit_right c.args.puzzle.now c.args.grid.now k)) (λ d answer lt met. grind (arith, common_steps)))

pub returns-in-Some : goal.returns-in-Some
returns-in-Some c =
    let p = c.args.puzzle.now in let g = c.args.grid.now in
    let w = told p g c.requires.fits (first-wrong (FailsLight p g) ([]) (black p g) (number p g ∷ seen p g ∷ dark p g ∷ []) (light-made p g c.requires.fits)
    tt
    (rw c.in-Some.is at (found-black (goal.at.returns-in-Some c).After-next_passing))) in
    record { fault = w.0; solution = w.1 }

pub returns-in-Some-next_passing : goal.returns-in-Some-next_passing
returns-in-Some-next_passing c =
    let p = c.args.puzzle.now in let g = c.args.grid.now in let q = goal.at.returns-in-Some-next_passing c in
    let w = told p g c.requires.fits (first-wrong (FailsLight p g) (black p g ∷ []) (number p g) (seen p g ∷ dark p g ∷ []) (light-made p g c.requires.fits)
    (rw c.in_default.is at (found-black q.After-next_passing), tt)
    (rw c.in-Some-next_passing.is at (found-number q.After-next_passing-2))) in
    record { fault = w.0; solution = w.1 }

pub returns-in-Some-next_passing-2 : goal.returns-in-Some-next_passing-2
returns-in-Some-next_passing-2 c =
    let p = c.args.puzzle.now in let g = c.args.grid.now in let q = goal.at.returns-in-Some-next_passing-2 c in
    let w = told p g c.requires.fits (first-wrong (FailsLight p g) (black p g ∷ number p g ∷ []) (seen p g) (dark p g ∷ []) (light-made p g c.requires.fits)
    (rw c.in_default.is at (found-black q.After-next_passing), (rw c.in_default-next_passing.is at (found-number q.After-next_passing-2), tt))
    (rw c.in-Some-next_passing-2.is at (found-seen q.After-next_passing-3))) in
    record { fault = w.0; solution = w.1 }

pub returns-in-Some-next_passing-3 : goal.returns-in-Some-next_passing-3
returns-in-Some-next_passing-3 c =
    let p = c.args.puzzle.now in let g = c.args.grid.now in let q = goal.at.returns-in-Some-next_passing-3 c in
    let w = told p g c.requires.fits (first-wrong (FailsLight p g) (black p g ∷ number p g ∷ seen p g ∷ []) (dark p g) ([]) (light-made p g c.requires.fits)
    (rw c.in_default.is at (found-black q.After-next_passing), (rw c.in_default-next_passing.is at (found-number q.After-next_passing-2), (rw c.in_default-next_passing-2.is at (found-seen q.After-next_passing-3), tt)))
    (rw c.in-Some-next_passing-3.is at (found-dark q.After-next_passing-4))) in
    record { fault = w.0; solution = w.1 }

pub returns : goal.returns
returns c =
    let p = c.args.puzzle.now in let g = c.args.grid.now in let q = goal.at.returns c in
    let w = told p g c.requires.fits {fault = None} (light-sound p g c.requires.fits (none_right (FailsLight p g) (kinds p g) (light-made p g c.requires.fits)
    (all-right (FailsLight p g) (kinds p g)
    (rw c.in_default.is at (found-black q.After-next_passing), (rw c.in_default-next_passing.is at (found-number q.After-next_passing-2), (rw c.in_default-next_passing-2.is at (found-seen q.After-next_passing-3), (rw c.in_default-next_passing-3.is at (found-dark q.After-next_passing-4), tt))))))) in
    record { fault = w.0; solution = w.1 }
