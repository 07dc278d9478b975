use Rattle.fields_core.proofs.Common.{bulb, length-filter, rules, sym, ◌∙◌}
use Rattle.fields_core.proofs.BesideLemmas.{whole-cell}
use Rattle.fields_core.proofs.light_up.sight.count_beside.Goals as goal

pub returns : goal.returns
returns c =
    let p = c.args.puzzle.now in
    let passing = c.count_passing.ensures.count (bulb c.args.grid.now) (λ d answer lt met. search rules) in
    rw (c.size.ensures.value, c.columns-w.ensures.value, sym (whole-cell p.size.w c.args.place)) at passing
    ∙ length-filter (bulb c.args.grid.now) _
