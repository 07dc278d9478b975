use Rattle.solo_core.proofs.Common.{Block, arith, listed-same, lists_house, ◌∙◌}
use Rattle.solo_core.proofs.visits.crossing.shared.Goals as goal

pub returns : goal.returns
returns c = λ k lt.
    let inside = (lists_house c.n.ensures.lawful (Block c.args.block) c.requires.block_in).within k lt in
    c.loop-k.invariant.below k (omega arith)
    ∙ listed-same (lists_house c.n.ensures.lawful c.args.line c.requires.line_of) inside
