-- Visits of the white cells of Light Up on planes.
use Rattle.fields_core.proofs.Common.{ArePieces, ArePlanesAlive, AreVisited, Bool, Column, Extent, IsColumnRun, IsFurther, IsHouse, IsHouseOfPieces, IsLight, IsRowRun, Layers, Light, List, Piece, Row, and-false, and-true, and_from, and_parts, any_below, any_below-none, any_below-some, ap, arith, cases_Bool, cases_eq, column_house, column_run, common_steps, count_below, count_below-pos, count_below-same, crosses, distinct-from, div-mul-add, eq-eqb, eqb, eqb-true, false, false_from_ne_true, has_bit, has_place, houses_below, joined_in_row, length, lies_in, lies_in_first, light_cells, light_houses, lit_house, lt-ltb, ltb-true, ne_eqb, not, number_house, one_at_least, place-column, place-in, refl, row_house, row_run, seen_from, subst, sym, true, true≢false, white, ℕ, ◌%◌, ◌&&◌, ◌*◌, ◌+◌, ◌/◌, ◌<◌, ◌∙◌, ◌≡◌, ◌≤◌}
use Rattle.fields_core.proofs.CellLemmas.{has-append, place-count, same-truth}
use Rattle.fields_core.proofs.LightRuleLemmas.{light-board, light-counting}
use Rattle.fields_core.proofs.LightHouseLaws.{line-self, line-start}
use Rattle.fields_core.proofs.LightRunOrder.{line-run-has}
use Rattle.fields_core.proofs.LightNumberVisits.{both_pieces, lies-both, pieces-apart}
use Rattle.fields_core.proofs.PartLemmas.{counted-more, counted-none}
use Rattle.fields_core.proofs.PlaceLists.{count-every, filter-has}
use Rattle.fields_core.proofs.BesideLemmas.{whole-cell}
use Rattle.fields_core.proofs.TentCounting.{IsVisitOfPieces}
use Rattle.fields_core.proofs.VisitLemmas.{among-back, among-below, among-house, among-one, visited-none, visited-one}
use Rattle.fields_core.specs.declared.planes.light_up.waits.RunKind.TheVariants.{Columns, Rows}

-- ---- the house of a white cell is a house
pub lit-is : {p : Light} {c : ℕ} → IsLight p → c < light_cells p → white p c ≡ true → IsHouse (light_cells p) (one_at_least (seen_from p c))
unfolding light_houses
lit-is {p} {c} lawful lt on =
    among-house (light_cells p) (light-counting lawful).are_houses
    (among-back (houses_below (number_house p) (light_cells p))
    (among-back (houses_below (row_house p) (light_cells p))
    (among-back (houses_below (column_house p) (light_cells p))
    (among-below _ (lit_house p) lt (rw on (among-one _))))))

-- ---- the cells that a cell sees, by the words of its runs
-- the runs of a cell as words, and planes of words that hold a line
pub record AreRunsAt (p : Light) (y x row_bits column_bits others : ℕ) (from : Layers) (room : ℕ) : Type 0 where
  pub lawful : IsLight p
  pub y_in : y < p.size.h
  pub x_in : x < p.size.w
  pub row_is : IsRowRun p (y * p.size.w + x) row_bits
  pub column_is : IsColumnRun p (y * p.size.w + x) column_bits
  pub others_is : (k : ℕ) → has_bit others k ≡ (has_bit column_bits k && not (eqb k y))
  pub size : from.size ≡ p.size
  pub alive : ArePlanesAlive from
  pub wide : p.size.w ≤ room
  pub tall : p.size.h ≤ room

module _ {p : Light} {y x row_bits column_bits others : ℕ} {from : Layers} {room : ℕ} (s : AreRunsAt p y x row_bits column_bits others from room) where
  abbrev cell : ℕ
  cell = y * p.size.w + x

  y_in : y < p.size.h
  y_in = s.y_in

  x_in : x < p.size.w
  x_in = s.x_in

  some : 0 < p.size.w
  some = omega (arith, x_in)

  cell_in : cell < light_cells p
  cell_in = place-in p.size.w p.size.h y x y_in x_in

  row-run-has : (c : ℕ) → has_place (row_run p cell) c ≡ crosses (Row y) row_bits (c / p.size.w) (c % p.size.w)
  unfolding crosses
  row-run-has c = rw (div-mul-add y p.size.w x x_in) at (line-run-has Rows cell row_bits (light-board s.lawful) s.row_is c)

  column-run-has : (c : ℕ) → has_place (column_run p cell) c ≡ crosses (Column x) column_bits (c / p.size.w) (c % p.size.w)
  unfolding crosses
  column-run-has c = rw (place-column p.size.w y x x_in) at (line-run-has Columns cell column_bits (light-board s.lawful) s.column_is c)

  -- the others of the column are those at other places
  other-at : (c : ℕ) → c % p.size.w ≡ x → eqb c cell ≡ eqb (c / p.size.w) y
  other-at c same = grind (arith, common_steps, same-truth, eq-eqb, eqb-true, div-mul-add, whole-cell)

  seen-has : (c : ℕ) → has_place (seen_from p cell) c ≡ lies_in_first p.size.w (both_pieces y x row_bits others) 2 c
  unfolding seen_from crosses
  seen-has c = grind (arith, common_steps, has-append, row-run-has, filter-has, column-run-has, lies-both, cases_eq, other-at, eq-eqb, cases_Bool, ne_eqb)

  -- a white cell has itself in its run, a black one has no run
  white-run : any_below (has_bit row_bits) room ≡ true → white p cell ≡ true
  white-run on = grind (arith, common_steps, any_below-some, line-start p Rows, and_parts)

  pub black-visited : any_below (has_bit row_bits) room ≡ false → AreVisited (lit_house p cell) from from true
  black-visited none = rw black (visited-none s.alive)
    where
      black : white p cell ≡ false
      black = false_from_ne_true _ (λ on.
          let here : cell / p.size.w * p.size.w + x ≡ cell = rw (div-mul-add y p.size.w x x_in) refl in
          let own = ap (joined_in_row p cell) here ∙ line-self p Rows cell on in
          true≢false (sym (s.row_is x ∙ and_from _ _ (lt-ltb _ _ x_in) own) ∙ any_below-none (has_bit row_bits) room none x (omega (arith, s.wide))))

  -- ---- the house as pieces of the two lines
  abbrev pieces : List Piece
  pieces = both_pieces y x row_bits others

  abbrev most : ℕ
  most = count_below (has_bit row_bits) room + count_below (has_bit others) room

  apart : ArePieces p.size pieces
  apart = pieces-apart p.size row_bits others y_in x_in (λ _ on. true≢false (sym on ∙ s.others_is y ∙ rw (eq-eqb y y refl) (and-false (has_bit column_bits y))))

  pub pieces-in : ArePieces from.size pieces
  pieces-in = subst (λ (e : Extent). ArePieces e pieces) (sym s.size) apart

  module _ (on : any_below (has_bit row_bits) room ≡ true) where
    pub some-cell : 1 ≤ most
    some-cell = let k = any_below-some (has_bit row_bits) room on in omega (arith, count_below-pos (has_bit row_bits) room k.0 k.1 k.2)

    house_is : IsHouse (light_cells p) (one_at_least (seen_from p cell))
    house_is = lit-is s.lawful cell_in (white-run on)

    house-long : length (seen_from p cell) ≡ most
    unfolding lies_in
    house-long =
        let board = record from { size = p.size } in
        let row = counted-more board 0 row_bits (λ _. true) refl apart (omega arith) s.wide (λ k on. ltb-true _ _ (and_parts _ _ (sym (s.row_is k) ∙ on)).0) (λ c. sym (and-true _)) in
        let column = counted-more board 1 others (λ _. true) refl apart (omega arith) s.tall
        (λ k on. ltb-true _ _ (and_parts _ _ (sym (s.column_is k) ∙ (and_parts _ _ (sym (s.others_is k) ∙ on)).0)).0) (λ c. sym (and-true _)) in
        let all = place-count (λ _. true) (seen_from p cell) (light_cells p) (distinct-from _ house_is.different) house_is.within
        ∙ count_below-same _ (λ c. lies_in_first p.size.w pieces 2 c && true) (light_cells p) (λ c _. ap (λ b. b && true) (seen-has c)) in
        omega (arith, count-every (λ _. true) (seen_from p cell) (λ _ _. refl), all, row, column, counted-none p.size.w pieces (light_cells p) (λ _. true))

    pub house-of : IsHouseOfPieces from.size pieces 1 most (one_at_least (seen_from p cell))
    house-of = subst (λ (e : Extent). IsHouseOfPieces e pieces 1 most (one_at_least (seen_from p cell))) (sym s.size)
        (record { is = house_is; least_is = refl; most_is = house-long; cells = seen-has })

    pub lit-visited : {to : Layers} {fills : Bool} → IsVisitOfPieces pieces 1 most from to fills → ArePlanesAlive to → IsFurther from to → AreVisited (lit_house p cell) from to fills
    lit-visited visit alive further =
        let told = visit _ house-of in
        rw (white-run on) (visited-one house-of.is (omega (arith, house-long, some-cell)) told.0 told.1 alive further)
