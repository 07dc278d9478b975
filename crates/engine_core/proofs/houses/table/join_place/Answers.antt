use Rattle.engine_core.proofs.Common.{ap, arith, between, get_or, get_or-between, is_waiting, length-between, lt-ltb, refl, ◌*◌, ◌+◌, ◌/◌, ◌∙◌, ◌≡◌}
use Rattle.engine_core.proofs.MarkLemmas.{joined-first, joined-more}
use Rattle.engine_core.proofs.houses.table.join_place.Goals as goal

pub join_marks-requires : goal.join_marks-requires
join_marks-requires c =
    let from = c.args.place * c.args.words in
    omega (arith, length-between c.args.marks.now from (from + c.args.words) c.requires.marks, c.requires.waits)

pub returns-then-words-eq1 : goal.returns-then-words-eq1
returns-then-words-eq1 c = λ j lt.
    let waits = c.args.waits.now in
    let marks = c.args.marks.now in
    let from = c.args.place * c.args.words in
    let part = between from (from + c.args.words) marks in
    let one : c.args.words ≡ 1 = omega (arith, c.if-words-eq1.true) in
    let at : from + 0 ≡ c.args.place = rw one (omega arith) in
    let first : get_or part 0 0 ≡ get_or marks c.args.place 0 = get_or-between marks from (from + c.args.words) 0 0 (omega (arith, one)) ∙ ap (λ k. get_or marks k 0) at in
    let long = length-between marks from (from + c.args.words) c.requires.marks in
    rw first at (joined-more waits part (is_waiting waits j) 0 j (omega (arith, one, c.requires.waits)) (joined-first waits part j))
    ∙ rw (lt-ltb (j / 64) 1 (omega (arith, one, long))) refl
