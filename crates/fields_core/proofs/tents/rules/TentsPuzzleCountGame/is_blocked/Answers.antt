use Rattle.fields_core.proofs.Common.{ap, eqb, length-filter, refl, rules, sym, tree, ◌∙◌}
use Rattle.fields_core.proofs.PlaceLists.{none-counted}
use Rattle.fields_core.proofs.BesideLemmas.{whole-cell}
use Rattle.fields_core.proofs.TentLines.{barred-alone}
use Rattle.fields_core.proofs.tents.rules.TentsPuzzleCountGame.is_blocked.Goals as goal

pub returns-else-has_tree : goal.returns-else-has_tree
returns-else-has_tree c =
    let p = c.args.self.now in let passing = c.count_passing.ensures.count (tree p) (λ d answer lt met. search rules) in
    let here = rw (c.from-w.ensures, c.w.ensures.value, c.size-size.ensures.value, sym (whole-cell p.size.w c.args.place)) at passing in
    ap (λ n. eqb n 0) (here ∙ length-filter (tree p) _) ∙ none-counted (tree p) _ ∙ barred-alone p c.args.place (search rules) refl
