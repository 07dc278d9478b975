use Rattle.fields_core.proofs.Common.{[], ap, begins_at, sym, ◌∙◌, ◌∷◌}
use Rattle.fields_core.proofs.LightCompleting.{told-if}
use Rattle.fields_core.proofs.RunLemmas.{run-told}
use Rattle.fields_core.proofs.light_up.light_house.run_told.Goals as goal

pub returns : goal.returns
returns c =
    let line = c.args.line.now in
    let begun = told-if (begins_at line.puzzle.now line.first line.stride c.args.at) _ c.requires.begins in
    sym (run-told line.puzzle.now line.first line.stride begun c.run_end.ensures (c.alone.ensures ∙ c.segment.ensures))
    ∙ ap (λ h. h ∷ []) (sym c.one_at_most.ensures)
