use Rattle.fields_core.proofs.Common.{Bool, Extent, IsFieldOf, IsNear, IsRowOf, Tents, and_parts, arith, cases_Bool, common_steps, fun_ext, planes_have, has_bit, is_beside, ltb-true, map, not, subst, sym, tree, wants_tent, without_zeros, ℕ, ◌&&◌, ◌∙◌, ◌≡◌}
use Rattle.fields_core.proofs.TentTreeBoards.{row-dead, row-visited}
use Rattle.fields_core.proofs.CellLemmas.{row-read}
use Rattle.fields_core.proofs.planes.tents.trees.visit_trees.Goals as goal
use Rattle.fields_core.proofs.planes.tents.trees.visit_trees.Goals.{After-index-trees-from}

module _ (g : _) (c : After-index-trees-from g) (p : Tents) (field : IsFieldOf g.W.Word.room p c.args.planes.now (map g.W.Word.bits c.args.trees.now)) where
  -- the cells that can have a tent have no tree
  same : ◌≡◌ {A = ℕ → Bool} (λ d. planes_have c.args.planes.now d 1) (λ d. not (tree p d) && planes_have c.args.planes.now d 1)
  same = fun_ext λ d. grind (arith, common_steps, cases_Bool (tree p d), field.bare d)

  abbrev CanHave : Extent → Type 0
  CanHave s = IsNear g.W.Word.bits s (λ d. not (tree p d) && planes_have c.args.planes.now d 1) c.args.y c.ones_near-ones.result

  pub ones-of : CanHave c.args.planes.now.size
  ones-of = subst (λ (t : ℕ → Bool). IsNear g.W.Word.bits c.args.planes.now.size t c.args.y c.ones_near-ones.result) same c.ones_near-ones.ensures.ones

  pub ones : CanHave p.size
  ones = subst CanHave field.size ones-of

  pub trees : IsRowOf p.size.w (wants_tent p) c.args.y (g.W.Word.bits c.index-trees-from.result)
  trees = rw (row-read g.W.Word.bits c.args.trees.now c.args.y c.index-trees-from.result (omega (arith, c.requires.y_in, c.requires.long)) (rw (c.from.ensures) at c.index-trees-from.is)) at (field.trees.each c.args.y (rw (field.size) at c.requires.y_in))

pub returns-then-is_some : goal.returns-then-is_some
returns-then-is_some g c = λ p field.
    let w = (goal.at.returns-then-is_some g c).After-index-trees-from in
    row-dead p c.args.y c.args.planes.now g.W.Word.room _ _ _ field.lawful field.size (rw (field.size) at c.requires.y_in) c.requires.alive field.narrow
    (trees g w p field)
    (λ x lt. c.some.ensures p.size _ c.args.y x field.narrow lt (ones g w p field))
    c.but.ensures
    (sym c.is_some.ensures ∙ c.if-is_some.true)

pub returns : goal.returns
returns g c = λ p field.
    let w = (goal.at.returns g c).After-index-trees-from in
    row-visited p c.args.y c.args.planes.now g.W.Word.room _ _ _ field.lawful field.size (rw (field.size) at c.requires.y_in) c.requires.alive field.narrow
    (trees g w p field)
    (λ x lt. c.some.ensures p.size _ c.args.y x field.narrow lt (ones g w p field))
    c.but.ensures
    _ _ (sym c.is_some.ensures ∙ c.if-is_some.false)
    (λ x lt. c.just_one.ensures p.size _ c.args.y x field.narrow lt (ones g w p field))
    c.both.ensures
    (subst (λ (s : Extent). planes_have c.take_beside.new.planes ≡ without_zeros (λ d. (not (tree p d) && planes_have c.args.planes.now d 1) && is_beside s c.args.y (has_bit (g.W.Word.bits c.both.result)) s.w d) (planes_have c.args.planes.now))
    field.size (c.take_beside.ensures.left _ (ones-of g w p field) (λ x on.
    rw (field.size) (ltb-true _ _ (and_parts _ _ (sym (trees g w p field x) ∙ (and_parts _ _ (sym (c.both.ensures x) ∙ on)).0)).0))))
    c.take_beside.ensures.further
