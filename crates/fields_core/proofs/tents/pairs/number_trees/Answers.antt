use Rattle.fields_core.proofs.Common.{arith, length-set, tent_cells, tree, ◌∙◌, ◌≡◌}
use Rattle.fields_core.proofs.TentLines.{byte-few, count-more, numbers-more}
use Rattle.fields_core.proofs.tents.pairs.number_trees.Goals as goal

pub loop-place-preserved : goal.loop-place-preserved
loop-place-preserved c =
    let i = c.loop-place.invariant in let test = tree c.args.puzzle.now in
    let cells : c.cells-place-end.result ≡ tent_cells c.args.puzzle.now = rw c.size.ensures.value at c.cells-place-end.ensures.value in
    record {
      count = rw c.from-trees.ensures (count-more test c.loop-place.place c.loop-place.trees c.is_tree.result i.count c.is_tree.ensures);
      few = omega (arith, i.few, c.from-trees.ensures, byte-few c.is_tree.result);
      each = numbers-more test c.loop-place.numbers c.loop-place.place i.each i.count
          (omega (arith, c.loop-place-test.true, cells, c.requires, i.as_long));
      as_long = length-set c.loop-place.numbers c.loop-place.place c.loop-place.trees ∙ i.as_long;
    }
