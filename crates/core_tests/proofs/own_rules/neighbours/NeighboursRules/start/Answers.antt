use Rattle.std.proofs.Common.{ap, arith, ltb, ◌∙◌}
use Rattle.std.proofs.lemmas.Bool.{and_from, lt-ltb}
use Rattle.grid_core.specs.Board.{cells_of}
use Rattle.grid_core.specs.Candidates.{Candidates, all_of}
use Rattle.core_tests.proofs.own_rules.neighbours.NeighboursRules.start.Goals as goal

pub keep_only-requires-clause-there : goal.keep_only-requires-clause-there
unfolding all_of
keep_only-requires-clause-there g c =
    let b = c.args.board.now in let r = c.args.self.now in let two = r.two in let some = r.some in let shape = c.requires in
    ap (λ (K : Candidates). K 0 0) c.fill.ensures.holds
    ∙ and_from (ltb 0 (cells_of b)) (ltb 0 b.values) (lt-ltb 0 (cells_of b) (omega (arith, two, shape.same_cells)))
    (lt-ltb 0 b.values (omega (arith, some, shape.same_values)))
