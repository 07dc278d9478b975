use Rattle.maker_core.proofs.Common.{inl, inr, ◌∙◌}
use Rattle.maker_core.proofs.PatternMakings.{plain_passes}
use Rattle.maker_core.proofs.pattern.maker.BitmapsFillings.draw.Goals as goal

pub returns-clause-known : goal.returns-clause-known
returns-clause-known g c =
    let is = c.in_ok-rules.ensures ∙ c.in_ok-puzzle.ensures.puzzle in
    let passes = c.in_ok-passes.ensures in
    let puzzle = c.in_ok-puzzle.ensures in
    let grid = rw c.cells.ensures.value at c.in_ok-grid.ensures.grid in
    let plain = plain_passes c.args.self.now.limits.budget c.cells.ensures.lawful (rw puzzle.puzzle at puzzle.solved) in (
      grid,
      rw is at passes.only,
      λ colour. rw is at passes.verdict
          ∙ plain (elim colour [ inl e ↦ inl (c.in_ok-grid.ensures.white e) | inr e ↦ inr (c.in_ok-grid.ensures.full e) ]),
    )
