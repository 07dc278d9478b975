use Rattle.solo_core.proofs.Common.{ap, arith, count_plain, count_x, length, length-append, length-map-range_with_len, solo_n, sym, ◌*◌, ◌+◌, ◌∙◌, ◌≡◌}
use Rattle.solo_core.proofs.HouseLemmas.{all-listed, diagonal-listed, house-listed}
use Rattle.solo_core.proofs.ListLemmas.{houses-listed}
use Rattle.solo_core.proofs.houses.lists.list_houses.Goals as goal

pub returns-then-not-x-clause-listed : goal.returns-then-not-x-clause-listed
returns-then-not-x-clause-listed c =
    let p = c.args.puzzle.now in
    let n = c.from-n.ensures ∙ c.n.ensures.value in
    let w = c.write_houses.ensures in
    let long : length c.write_houses.new.all ≡ 3 * solo_n p * solo_n p = w.long ∙ c.deref_mut.ensures.len ∙ c.in_ok-resize.ensures.len ∙ ap (λ m. 3 * m * m) n in
    all-listed p (3 * solo_n p) (count_plain p (sym c.x.ensures.value ∙ c.if-not-x.true))
    (houses-listed p c.from-n.result c.resize.new.self.len c.write_houses.new.all _ n (omega (arith, w.long, c.deref_mut.ensures.len)) long w.houses c.in_ok-list.ensures)

pub end-requires-2 : goal.end-requires-2
end-requires-2 c =
    rw (c.in_ok-push_house-2.ensures.begun, c.in_ok-end.ensures, c.in_ok-push_house.ensures.begun, c.in_ok-list.ensures)
    (simp (length-append, length-map-range_with_len) (omega (arith, c.n.ensures.lawful.n_high, c.n.ensures.value, c.from-n.ensures)))

pub returns-clause-listed : goal.returns-clause-listed
returns-clause-listed c =
    let p = c.args.puzzle.now in
    let on = sym c.x.ensures.value ∙ c.if-not-x.false in
    let n = c.from-n.result in
    let e = c.from-n.ensures ∙ c.n.ensures.value in
    let many = count_x p on in
    let w = c.write_houses.ensures in
    let long : length c.write_houses.new.all ≡ 3 * solo_n p * solo_n p = w.long ∙ c.deref_mut.ensures.len ∙ c.in_ok-resize.ensures.len ∙ ap (λ m. 3 * m * m) e in
    let first = houses-listed p n c.resize.new.self.len c.write_houses.new.all _ e (omega (arith, w.long, c.deref_mut.ensures.len)) long w.houses c.in_ok-list.ensures in
    let falling = house-listed p (3 * solo_n p) (omega arith) (diagonal-listed p 0 (omega arith) on (omega arith)) first c.in_ok-push_house.ensures.begun c.in_ok-end.ensures in
    let rising = house-listed p (3 * solo_n p + 1) (omega arith) (diagonal-listed p 1 (omega arith) on (omega arith))
    falling c.in_ok-push_house-2.ensures.begun c.in_ok-end-2.ensures in
    all-listed p (3 * solo_n p + 1 + 1) (omega (arith, many)) rising
