use Rattle.pattern_core.proofs.Common.{further-none, sym, ◌∙◌}
use Rattle.grid_core.proofs.PlaneLemmas.{without-none}
use Rattle.pattern_core.proofs.planes.visit.take_any.Goals as goal

pub returns-else-is_some-clause-left : goal.returns-else-is_some-clause-left
returns-else-is_some-clause-left g c =
    without-none c.args.planes.now c.args.line c.args.value (g.W.Word.bits c.args.bits) g.W.Word.room c.requires.fits
    (sym c.is_some.ensures ∙ c.if-is_some.false) c.requires.within

pub returns-else-is_some-clause-further : goal.returns-else-is_some-clause-further
returns-else-is_some-clause-further g c = further-none c.args.planes.now
