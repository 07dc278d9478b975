use Rattle.fields_core.proofs.Common.{AreIn, arith, common_steps, subst, sym, ◌∙◌, ◌≡◌}
use Rattle.fields_core.proofs.TentRuleLemmas.{count-is, listed-tents, short-unpaired, tents-in, whole-pairs}
use Rattle.fields_core.proofs.tents.pairs.are_paired.Goals as goal
use Rattle.fields_core.proofs.tents.pairs.are_paired.Goals.{After-deref, After-deref-2}

-- what was written stands in the scratch
tents : (c : After-deref) → c.deref.result.now ≡ c.list_tents-count.new.tents
tents c = c.deref.ensures.value ∙ grind (arith, common_steps, c.deref_mut.ensures.value, c.list_tents-count.ensures.as_long)

numbers : (c : After-deref-2) → c.deref-2.result.now ≡ c.number_trees-trees.new.numbers
numbers c = c.deref-2.ensures.value ∙ grind (arith, common_steps, c.deref_mut-2.ensures.value, c.number_trees-trees.ensures.as_long)

pub invariant_of-edges : goal.invariant_of-edges
invariant_of-edges c =
    let at = goal.at.invariant_of-edges c in
    record {
      within =
          rw (tents at.After-deref) (subst (AreIn c.args.puzzle.now)
          (sym (listed-tents c.args.puzzle.now c.args.grid.now c.list_tents-count.ensures.listed))
          (tents-in c.args.puzzle.now c.args.grid.now c.requires.fits.each_cell));
      numbered = rw (numbers at.After-deref-2) c.number_trees-trees.ensures.numbered;
      all_trees = c.number_trees-trees.ensures.count;
    }

pub returns-in-All-clause-paired : goal.returns-in-All-clause-paired
returns-in-All-clause-paired c = let e = tents (goal.at.returns-in-All-clause-paired c).After-deref in grind (arith, common_steps, e, listed-tents, count-is, whole-pairs)

pub returns-in_default-clause-paired : goal.returns-in_default-clause-paired
returns-in_default-clause-paired c = let e = tents (goal.at.returns-in_default-clause-paired c).After-deref in grind (arith, common_steps, e, listed-tents, count-is, short-unpaired)
