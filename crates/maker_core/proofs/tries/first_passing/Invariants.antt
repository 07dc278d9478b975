use Rattle.maker_core.proofs.FirstTries.{IsTrying}
use Rattle.maker_core.proofs.tries.first_passing.Given as goal

abbrev pub invariant-loop-attempt : goal.invariant-loop-attempt
invariant-loop-attempt g l =
    IsTrying (g.F.Fillings.tries l.fillings) (g.F.Fillings.known l.fillings) (g.G.Rng.stream l.fn.rng) l._attempt (g.G.Rng.stream l.rng)
