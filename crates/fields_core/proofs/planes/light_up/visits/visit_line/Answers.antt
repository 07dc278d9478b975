use Rattle.fields_core.proofs.Common.{at_line, has_bit, line_len, ltb, map, not, refl, slice_index, ℕ, ◌&&◌, ◌*◌, ◌+◌, ◌∙◌, ◌≡◌, ◌≤◌}
use Rattle.fields_core.proofs.LightRunLines.{runs-clash, runs-met}
use Rattle.fields_core.proofs.LightReach.{line-must}
use Rattle.fields_core.proofs.planes.light_up.visits.visit_line.Goals as goal
use Rattle.fields_core.proofs.planes.light_up.visits.visit_line.Goals.{After-around}

module _ (g : _) (c : After-around g) (len : ℕ) (len_is : line_len c.args.planes.now.size c.args.line ≡ len) where
  pub must : (k : ℕ) → has_bit (g.W.Word.bits c.but-must.result) k ≡ (ltb k len && not (at_line c.args.planes.now c.args.line 0 k))
  must k = rw (← len_is) (c.but-must.ensures k ∙ rw (c.line.ensures.cells k, c.line-zeros.ensures.cells k) (line-must c.args.planes.now c.args.line k c.requires.line_in c.requires.alive
      (λ on. c.line.ensures.within k (c.line.ensures.cells k ∙ on))))

  pub fits : len ≤ g.W.Word.room
  fits = rw (← len_is) c.line-zeros.ensures.fits

pub returns-in_default : goal.returns-in_default
returns-in_default g c = λ len cell joined houses len_is are runs.
    let at = (goal.at.returns-in_default g c).After-around in
    runs-clash c.args.planes.now.size c.args.line len g.W.Word.room cell joined houses are c.args.planes.now refl c.requires.alive
    (g.W.Word.bits c.but-must.result) (λ j. slice_index (map g.W.Word.bits c.args.runs.now) (c.args.first + j * c.args.stride)) (fits g at len len_is)
    (must g at len len_is) runs c.in_default.ensures.clash

pub returns : goal.returns
returns g c = λ len cell joined houses len_is are runs.
    let at = (goal.at.returns g c).After-around in let bits = g.W.Word.bits in
    runs-met c.args.planes.now.size c.args.line len g.W.Word.room cell joined houses are c.args.planes.now refl c.requires.alive
    (bits c.but-must.result) (λ j. slice_index (map bits c.args.runs.now) (c.args.first + j * c.args.stride)) (fits g at len len_is)
    (must g at len len_is) runs (bits c.both.result) c.in-Some.ensures.around
    (λ k. c.both.ensures k ∙ rw (c.line-zeros.ensures.cells k) refl) c.take.ensures.left c.take.ensures.further
