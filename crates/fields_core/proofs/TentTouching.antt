-- Cells of Tents that touch and must both have a tent.
use Rattle.fields_core.proofs.Common.{AllByRecursion, ArePlanesAlive, AreVisited, AreVisitedOrDoomed, Bool, Column, CountHouse, Extent, HasTouching, IsHouse, IsTents, Layers, Line, List, Row, Squares, Tents, [], all_of_kind, and_from, and_parts, any_below-here, append-nil, append_assoc, arith, at_line, bit_of, cases_lt, div-mul-add, eq-eqb, eqb, false, false_from_ne_true, planes_have, has_place, inl, inr, later_kinds, leb-true, line_len, lines_beside, list_any, ltb-true, mod-lt, not, not-true, number_of, or_left, or_right, place-column, place-in, refl, square_house, squares_of_row, subst, sym, tent_cells, touches, true, true≢false, ℕ, ◌%◌, ◌&&◌, ◌*◌, ◌++◌, ◌+◌, ◌-◌, ◌/◌, ◌<◌, ◌||◌, ◌∙◌, ◌≡◌, ◌≤◌}
use Rattle.fields_core.specs.declared.planes.tents.waits.Kind.{Kind}
unfoldable use Rattle.fields_core.proofs.Common.{after_visits}
use Rattle.fields_core.proofs.BesideLemmas.{row-in}
use Rattle.fields_core.proofs.HouseLemmas.{all-houses, all-if, any-houses}
use Rattle.fields_core.proofs.TentCounting.{square-is, square_places}
use Rattle.fields_core.proofs.TentLines.{touch-from}
use Rattle.fields_core.proofs.TentSquareVisits.{some-square, square-has, zero-at}
use Rattle.fields_core.proofs.VisitLemmas.{visited-dead, visited-dies, visited-more, visits-append, visits-inside, visits-two}

-- ---- a square of two cells that touch
-- two numbers that differ by one at most lie in two that follow each other
record AreSpanned (n a b : ℕ) : Type 0 where
  pub first : ℕ
  pub within : first + 1 < n
  pub one_in : (eqb a first || eqb a (first + 1)) ≡ true
  pub other_in : (eqb b first || eqb b (first + 1)) ≡ true

spanned : {n a b : ℕ} → 2 ≤ n → a < n → b < n → a ≤ b + 1 → b ≤ a + 1 → AreSpanned n a b
spanned {n} {a} {b} two la lb ab ba = elim (cases_lt a b) [
  | inl less ↦ record {
    first = a;
    within = omega arith;
    one_in = or_left _ _ (eq-eqb a a refl);
    other_in = or_right _ _ (eq-eqb b (a + 1) (omega arith));
  }
  | inr most ↦ elim (cases_lt b a) [
    | inl more ↦ record {
      first = b;
      within = omega arith;
      one_in = or_right _ _ (eq-eqb a (b + 1) (omega arith));
      other_in = or_left _ _ (eq-eqb b b refl);
    }
    | inr same ↦ elim (cases_lt (a + 1) n) [
      | inl inner ↦ record {
        first = a;
        within = inner;
        one_in = or_left _ _ (eq-eqb a a refl);
        other_in = or_left _ _ (eq-eqb b a (omega arith));
      }
      | inr last ↦ record {
        first = a - 1;
        within = omega arith;
        one_in = or_right _ _ (eq-eqb a (a - 1 + 1) (omega arith));
        other_in = or_right _ _ (eq-eqb b (a - 1 + 1) (omega arith));
      }
    ]
  ]
]

pub record AreInSquare (p : Tents) (c d : ℕ) : Type 0 where
  pub row : ℕ
  pub column : ℕ
  pub low : row + 1 < p.size.h
  pub wide : column + 1 < p.size.w
  pub first_in : has_place (square_places p.size.w (row * p.size.w + column)) c ≡ true
  pub second_in : has_place (square_places p.size.w (row * p.size.w + column)) d ≡ true
  pub apart : c ≡ d → ⊥

pub in-square : (p : Tents) {c d : ℕ} → IsTents p → c < tent_cells p → d < tent_cells p → touches p.size c d ≡ true → AreInSquare p c d
unfolding touches
in-square p {c} {d} is lc ld on =
    let w = p.size.w in let some : 0 < p.size.w = omega (arith, is.size.w_two) in
    let parts = and_parts (not (eqb c d)) _ on in let near = and_parts _ _ parts.1 in
    let rows = and_parts _ _ near.0 in let columns = and_parts _ _ near.1 in
    let y = spanned {n = p.size.h} {a = c / w} {b = d / w} is.size.h_two (row-in p.size.h c some lc) (row-in p.size.h d some ld)
    (leb-true (c / w) (d / w + 1) rows.0) (leb-true (d / w) (c / w + 1) rows.1) in
    let x = spanned {n = w} {a = c % w} {b = d % w} is.size.w_two (mod-lt c some) (mod-lt d some)
    (leb-true (c % w) (d % w + 1) columns.0) (leb-true (d % w) (c % w + 1) columns.1) in
    record {
      row = y.first;
      column = x.first;
      low = y.within;
      wide = x.within;
      first_in = square-has y.first x.first c x.within ∙ and_from _ _ y.one_in x.one_in;
      second_in = square-has y.first x.first d x.within ∙ and_from _ _ y.other_in x.other_in;
      apart = λ e. true≢false (sym (eq-eqb _ _ e) ∙ not-true _ parts.0);
    }

-- ---- whatever is visited before them, the squares leave one of the two without a value
pub touching-dies : (p : Tents) {q : Layers} → IsTents p → q.size ≡ p.size → ArePlanesAlive q → HasTouching q.size (planes_have q) → (others : List CountHouse)
    → AreVisited (others ++ all_of_kind p Squares) q q false
touching-dies p {q} lawful size alive at others =
    let touching : HasTouching p.size (planes_have q) = subst (λ (extent : Extent). HasTouching extent (planes_have q)) size at in
    let s = in-square p lawful touching.first_in touching.second_in touching.touch in
    let both : CountHouse → Bool = λ house. has_place house.places touching.first && has_place house.places touching.second in
    visited-dies touching.first (rw size touching.first_in) (λ v small. rw (visits-append others (all_of_kind p Squares) (planes_have q))
    (visits-two (tent_cells p) (all_of_kind p Squares) (after_visits others (planes_have q)) touching.first touching.second v each s.apart
    (any-houses both (squares_of_row p) p.size.h ∙ any_below-here (λ y. list_any both (squares_of_row p y)) p.size.h s.row (omega (arith, s.low))
    (some-square p s.row lawful s.low both s.column s.wide (and_from _ _ s.first_in s.second_in)))
    (stays touching.first touching.first_must) (stays touching.second touching.second_must) small)) alive
  where
    stays : (c : ℕ) → planes_have q c 0 ≡ false → after_visits others (planes_have q) c 0 ≡ false
    stays c off = false_from_ne_true _ (λ on. true≢false (sym (visits-inside others (planes_have q) c 0 on) ∙ off))

    each : AllByRecursion (λ house. IsHouse (tent_cells p) house × (house.most ≡ 1)) (all_of_kind p Squares)
    each = all-houses _ (squares_of_row p) p.size.h (λ y lt. all-houses _ (λ x. square_house p (y * p.size.w + x)) p.size.w (λ x less. all-if _ (λ is.
        let parts = and_parts _ _ is in
        (square-is p lawful (place-in p.size.w p.size.h y x lt less) (ltb-true _ _ parts.0) (ltb-true _ _ parts.1), refl))))

pub visited-apart : (p : Tents) (kind : Kind) {houses : List CountHouse} {from to : Layers} {apart : Bool} → IsTents p → from.size ≡ p.size
    → AreVisited houses from to true → (apart ≡ false → HasTouching to.size (planes_have to)) → (front : List CountHouse)
    → later_kinds p kind ≡ front ++ all_of_kind p Squares → AreVisitedOrDoomed p kind houses from to apart
visited-apart p kind lawful size first touching front is = record {
  left = λ _. first;
  dies = λ e others. rw (is, ← append_assoc others front (all_of_kind p Squares))
      (visited-more first refl (touching-dies p lawful (first.further.same_size ∙ size) first.alive (touching e) (others ++ front)));
}

-- or no house of these has a filling
pub filled-or-dead : (p : Tents) (kind : Kind) {houses : List CountHouse} {from to : Layers} {fills : Bool} → AreVisited houses from to fills
    → AreVisitedOrDoomed p kind houses from to fills
filled-or-dead p kind visited = record {
  left = λ e. rw e at visited;
  dies = λ e others. visited-dead (others ++ later_kinds p kind) (rw e at visited) refl;
}

-- after the last kind none comes later
pub last-visited : (p : Tents) {houses : List CountHouse} {from to : Layers} {fills : Bool} → AreVisitedOrDoomed p Squares houses from to fills → AreVisited houses from to fills
last-visited p {houses} {fills = true} visited = visited.left refl
last-visited p {houses} {fills = false} visited = rw (append-nil houses) at (visited.dies refl [])

-- ---- two cells beside each other in a line
two-cells : (q : Layers) {r c s d : ℕ} → r < q.size.h → c < q.size.w → s < q.size.h → d < q.size.w → r ≤ s + 1 → s ≤ r + 1 → c ≤ d + 1 → d ≤ c + 1
    → (s ≡ r → d ≡ c → ⊥) → bit_of q.rows r 0 c ≡ false → bit_of q.rows s 0 d ≡ false → HasTouching q.size (planes_have q)
two-cells q {r} {c} {s} {d} lr lc ls ld rs sr cd dc other first second =
    let w = q.size.w in
    record {
      first = r * w + c;
      second = s * w + d;
      first_in = place-in w q.size.h r c lr lc;
      second_in = place-in w q.size.h s d ls ld;
      touch = touch-from q.size (r * w + c) (s * w + d) s d refl ld
          (λ e. other (sym (div-mul-add s w d ld) ∙ (rw e (div-mul-add r w c lc))) (sym (place-column w s d ld) ∙ (rw e (place-column w r c lc))))
          (rw (div-mul-add r w c lc) rs) (rw (div-mul-add r w c lc) sr) (rw (place-column w r c lc) cd) (rw (place-column w r c lc) dc);
      first_must = zero-at q r refl lc ∙ first;
      second_must = zero-at q s refl ld ∙ second;
    }

pub beside-touch : (q : Layers) (line : Line) {k : ℕ} → number_of line < lines_beside q.size line → 0 < k → k < line_len q.size line
    → at_line q line 0 k ≡ false → at_line q line 0 (k - 1) ≡ false → HasTouching q.size (planes_have q)
beside-touch q (Row y) {k} ln pos lt own before =
    two-cells q {r = y} {c = k} {s = y} {d = k - 1} ln lt ln (omega arith) (omega arith) (omega arith) (omega arith) (omega arith) (λ e f. absurd (omega arith)) own before
beside-touch q (Column x) {k} ln pos lt own before =
    two-cells q {r = k} {c = x} {s = k - 1} {d = x} lt ln (omega arith) ln (omega arith) (omega arith) (omega arith) (omega arith) (λ e f. absurd (omega arith)) own before
