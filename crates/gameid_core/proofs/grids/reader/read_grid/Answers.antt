use Rattle.std.proofs.Common.{IsTrue, ◌↔◌}
use Rattle.gameid_core.specs.Common.{IsPrinted, ap, rules, sym, true≢false, ◌++◌, ◌∙◌}
use Rattle.gameid_core.specs.PrintedForm.{printed_grid}
use Rattle.gameid_core.proofs.PrintedGrids.{none_read, one_read, other_read, either_form}
use Rattle.gameid_core.proofs.grids.reader.read_grid.Goals as goal
use Rattle.gameid_core.proofs.grids.reader.read_grid.Goals.{After-is_either}

-- the test says whether the text is the printed form
forms : (g : _) (c : After-is_either g) → (IsTrue c.is_either.result) ↔ IsPrinted c.args.text.items (printed_grid g.P.Printed c.args.puzzle.now c.in-Some.grid)
forms g c =
    let either = either_form c.len-length.result (c.deref-2.ensures.value ∙ c.in_ok-push.ensures.items)
    (c.deref-3.ensures.value ∙ c.in_ok-push.ensures.items) (search rules)
    (c.as_bytes.ensures.value ∙ c.in_ok-push_grid.ensures
    ∙ ap (λ t. t ++ printed_grid g.P.Printed c.args.puzzle.now c.in-Some.grid) c.new-printed.ensures.bytes) in
    (λ on. either.0 (c.is_either.ensures.0 on), λ form. c.is_either.ensures.1 (either.1 form))

pub returns-in_default : goal.returns-in_default
returns-in_default g c =
    none_read (printed_grid g.P.Printed c.args.puzzle.now) _ (c.deref.ensures.value ∙ c.in_ok-push.ensures.items)
    c.in_ok-grid.ensures.read c.in_default.is

pub returns-then-is_either : goal.returns-then-is_either
returns-then-is_either g c =
    one_read (printed_grid g.P.Printed c.args.puzzle.now) _ (c.deref.ensures.value ∙ c.in_ok-push.ensures.items)
    c.in_ok-grid.ensures.read c.in-Some.is (rw c.in-Some.is at c.in_ok-grid.ensures.shown)
    ((forms g (goal.at.returns-then-is_either g c).After-is_either).0 c.if-is_either.true)

pub returns : goal.returns
returns g c =
    other_read (printed_grid g.P.Printed c.args.puzzle.now) _ (c.deref.ensures.value ∙ c.in_ok-push.ensures.items)
    c.in_ok-grid.ensures.read c.in-Some.is
    (λ form. true≢false (sym ((forms g (goal.at.returns g c).After-is_either).1 form) ∙ c.if-is_either.false))
