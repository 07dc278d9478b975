use Rattle.fields_core.proofs.Common.{ArePlanes, Extent, ap, arith, further-more, planes_have, refl, ◌∙◌, ◌≡◌}
use Rattle.fields_core.proofs.TentTreeWords.{taken-is, zeros-taken}
use Rattle.fields_core.proofs.planes.tents.trees.take_beside.Goals as goal

pub returns-clause-left : goal.returns-clause-left
returns-clause-left g c = λ passes is places_in.
    let size = c.args.planes.now.size in let are : ArePlanes g.W.Word.room c.args.planes.now = c.size.ensures.lawful in
    let h_is : c.h-last.result ≡ size.h = c.h-last.ensures.value ∙ ap (λ (s : Extent). s.h) c.size.ensures.value in
    let first : c.take.new.self.size.w ≡ size.w = ap (λ (s : Extent). s.w) c.take.ensures.further.same_size in
    zeros-taken c.saturating_sub.result c.args.y c.min.result _ _ _ _ (planes_have c.args.planes.now)
    c.take.ensures.left c.take-2.ensures.left c.take-3.ensures.left
    first (ap (λ (s : Extent). s.w) c.take-2.ensures.further.same_size ∙ first)
    (taken-is g.W.Word.bits g.W.Word.room size passes c.args.y c.saturating_sub.result c.min.result c.args.near _ _ _ _
    are.lawful.w_low are.narrow c.saturating_sub.ensures
    (λ lt. omega (arith, c.min.ensures, c.saturating_add.ensures, h_is, lt))
    places_in c.both.ensures
    (λ x. c.both-2.ensures x ∙ rw (c.either-across.ensures x, c.on.ensures x, c.back.ensures x) refl)
    c.both-3.ensures is)

pub returns-clause-further : goal.returns-clause-further
returns-clause-further g c =
    further-more c.args.planes.now c.take-2.new.self c.take-3.new.self
    (further-more c.args.planes.now c.take.new.self c.take-2.new.self c.take.ensures.further c.take-2.ensures.further) c.take-3.ensures.further
