-- Where the cells of a puzzle stand in its houses.
use Rattle.solo_core.proofs.Common.{Block, Column, Diagonal, IsSolo, List, NamedHouse, Row, Solo, all_houses, ap, arith, cases_Bool, cases_lt, count_plain, count_x, div-add-mod', eq-eqb, eqb, eqb-true, false, get_or, house_count, houses_lawful, houses_of, inl, inr, length, lies_in_house, lists_house, mod_below, mul-add-lt, ne_eqb, places_of, refl, row-at, column-at, slice_index, solo_cells, solo_n, some_numbers, sym, true, ℕ, ◌%◌, ◌&&◌, ◌*◌, ◌+◌, ◌-◌, ◌/◌, ◌<◌, ◌∙◌, ◌≡◌, ◌≤◌, and_parts, houses_rules}
use Rattle.std.proofs.lemmas.Nat.{div_below}
use Rattle.solo_core.specs.Houses.{square}
use Rattle.solo_core.specs.HouseLaws.{block-holds}
use Rattle.solo_core.specs.OpenBoards.{AreAllSpotsOf, AreSpotsAt, AreSpotsOf, StandsAt, spot_of, spots_each}
use Rattle.solo_core.proofs.HouseLemmas.{block-name, column-name, deciding-at, diagonal-name, filled-length, long-at, row-name}
use Rattle.grid_core.proofs.RegionLemmas.{line_at}
use Rattle.solo_core.specs.declared.visits.spots.Spot.{Spot}

-- the block of a cell, and the cell's number in it
module _ {c r y x : ℕ} (c_pos : 1 ≤ c) (r_pos : 1 ≤ r) (ly : y < c * r) (lx : x < c * r) where
  pub block-low : y / c * c + x / r < c * r
  block-low = let w = mul-add-lt (y / c) c (x / r) r (div_below y c r c_pos (omega (arith, ly))) (div_below x r c r_pos lx) in omega arith

  pub spot-low : y % c * r + x % r < c * r
  spot-low = let w = mul-add-lt (y % c) r (x % r) c (mod_below y c c_pos) (mod_below x r r_pos) in omega arith

-- the spots of a cell, by their numbers
module _ (c r place i : ℕ) where
  abbrev row : ℕ
  row = place / (c * r)

  abbrev column : ℕ
  column = place % (c * r)

  pub spot-1 : i ≡ 1 → record { house = c * r + column; cell = row } ≡ spot_of c r place i
  unfolding spot_of
  spot-1 e = rw e refl

  pub spot-2 : i ≡ 2 → record { house = 2 * (c * r) + (row / c * c + column / r); cell = row % c * r + column % r } ≡ spot_of c r place i
  unfolding spot_of
  spot-2 e = rw e refl

  pub spot-3 : i ≡ 3 → row ≡ column → record { house = 3 * (c * r); cell = row } ≡ spot_of c r place i
  unfolding spot_of
  spot-3 e same = rw (e, eq-eqb row column same) refl

  pub spot-4 : i ≡ 4 → row + column + 1 ≡ c * r → record { house = 3 * (c * r) + 1; cell = row } ≡ spot_of c r place i
  unfolding spot_of
  spot-4 e same = rw (e, eq-eqb (row + column + 1) (c * r) same) refl

  pub spot-0 : (i ≡ 1 → ⊥) → (i ≡ 2 → ⊥) → (eqb i 3 && eqb row column) ≡ false → (eqb i 4 && eqb (row + column + 1) (c * r)) ≡ false
      → record { house = row; cell = column } ≡ spot_of c r place i
  unfolding spot_of
  spot-0 no_1 no_2 no_3 no_4 = rw (ne_eqb i 1 no_1, ne_eqb i 2 no_2, no_3, no_4) refl

module _ (p : Solo) (ok : IsSolo p) where
  abbrev n : ℕ
  n = solo_n p

  abbrev name : ℕ → NamedHouse
  name h = get_or (houses_of p) h (Row 0)

  scope-named : (h : ℕ) → h < length (houses_of p) → (houses_rules p).scope h ≡ places_of p (name h)
  scope-named h lt = ap (λ house. house.places) (deciding-at _ p (omega (arith, filled-length p)))

  stands : {h k place : ℕ} (house : NamedHouse) → h < length (houses_of p) → name h ≡ house → k < n → slice_index (places_of p house) k ≡ place
      → StandsAt (houses_rules p) place h k
  stands {k} house lh is lk at = record {
    house_in = omega (arith, filled-length p);
    cell_in = lk;
    is = ap (λ xs. slice_index xs k) (scope-named _ lh ∙ ap (places_of p) is) ∙ at;
  }

  module _ (place : ℕ) (lt : place < solo_cells p) where
    abbrev y : ℕ
    y = place / n

    abbrev x : ℕ
    x = place % n

    ly : y < n
    ly = div_below place n n (some_numbers ok) lt

    lx : x < n
    lx = mod_below place n (some_numbers ok)

    here : y * n + x ≡ place
    here = div-add-mod' place n

    c_pos : 0 < p.c
    c_pos = let low = ok.c_low in omega arith

    r_pos : 0 < p.r
    r_pos = let low = ok.r_low in omega arith

    abbrev Stands : ℕ → ℕ → Type 0
    Stands h k = StandsAt (houses_rules p) place h k

    in_row : Stands y x
    in_row = stands (Row y) (omega (arith, house_count p, ly)) (row-name p y (Row 0) ly) lx (sym (row-at (square p) y x lx) ∙ here)

    in_column : Stands (n + x) y
    in_column = stands (Column x) (omega (arith, house_count p, lx)) (column-name p x (Row 0) lx) ly (sym (column-at (square p) x y ly) ∙ here)

    in_block : Stands (2 * n + (y / p.c * p.c + x / p.r)) (y % p.c * p.r + x % p.r)
    in_block = let low = block-low c_pos r_pos ly lx in stands (Block (y / p.c * p.c + x / p.r)) (omega (arith, house_count p, low)) (block-name p _ (Row 0) low) (spot-low c_pos r_pos ly lx)
        (block-holds p.c p.r _ c_pos r_pos low place refl)

    in_falling : p.x ≡ true → y ≡ x → Stands (3 * n) y
    in_falling is_x e = stands (Diagonal 0) (omega (arith, count_x p is_x)) (ap name (omega arith) ∙ diagonal-name p 0 (Row 0) is_x (omega arith)) ly
        (line_at (λ k. k * n + k) y ly ∙ ap (λ k. y * n + k) e ∙ here)

    in_rising : p.x ≡ true → y + x + 1 ≡ n → Stands (3 * n + 1) y
    in_rising is_x e = stands (Diagonal 1) (omega (arith, count_x p is_x)) (diagonal-name p 1 (Row 0) is_x (omega arith)) ly
        (line_at (λ k. k * n + (n - 1 - k)) y ly ∙ ap (λ k. y * n + k) (omega arith) ∙ here)

    diagonals : (i : ℕ) → 3 ≤ i → i < spots_each p.x → p.x ≡ true
    diagonals i le li = elim (cases_Bool p.x) [
      | inl on ↦ on
      | inr off ↦ absurd (let z : i < 3 = rw off at li in omega arith)
    ]

    spot-stands : (i : ℕ) → i < spots_each p.x → Stands (spot_of p.c p.r place i).house (spot_of p.c p.r place i).cell
    unfolding spot_of
    spot-stands i li = elim (cases_Bool (eqb i 1)) [
      | inl on ↦ rw on in_column
      | inr off_1 ↦ rw off_1 (elim (cases_Bool (eqb i 2)) [
        | inl on ↦ rw on in_block
        | inr off_2 ↦ rw off_2 (elim (cases_Bool (eqb i 3 && eqb y x)) [
          | inl on ↦
              let w = and_parts (eqb i 3) _ on in
              rw on (in_falling (diagonals i (omega (arith, eqb-true i 3 w.0)) li) (eqb-true y x w.1))
          | inr off_3 ↦ rw off_3 (elim (cases_Bool (eqb i 4 && eqb (y + x + 1) n)) [
            | inl on ↦
                let w = and_parts (eqb i 4) _ on in
                rw on (in_rising (diagonals i (omega (arith, eqb-true i 4 w.0)) li) (eqb-true (y + x + 1) n w.1))
            | inr off_4 ↦ rw off_4 in_row
          ])
        ])
      ])
    ]

    -- the place lies in the house in which the cell stands
    module _ {h k : ℕ} (s : Stands h k) where
      lh : h < length (houses_of p)
      lh = omega (arith, s.house_in, filled-length p)

      lies-in : (house : NamedHouse) → name h ≡ house → lies_in_house p house place ≡ true
      lies-in house is =
          let l = lists_house ok (name h) (all_houses p h (Row 0) lh) in
          let at = ap (λ xs. slice_index xs k) (sym (scope-named h lh)) ∙ s.is in
          ap (λ d. lies_in_house p d place) (sym is) ∙ ap (lies_in_house p (name h)) (sym at) ∙ l.lies_at k s.cell_in

      -- one of the cell's spots names it
      abbrev Named : Type 0
      Named = (i : ℕ) × (i < spots_each p.x) × ((spot_of p.c p.r place i).house ≡ h)

      three : 3 ≤ spots_each p.x
      three = elim (cases_Bool p.x) [ inl on ↦ rw on (omega arith) | inr off ↦ rw off (omega arith) ]

      by_row : h < n → Named
      unfolding spot_of
      by_row lt_h = (0, omega (arith, three), eqb-true y h (lies-in (Row h) (row-name p h (Row 0) lt_h)))

      by_column : (i : ℕ) → i < n → h ≡ n + i → Named
      unfolding spot_of
      by_column i li e = (1, omega (arith, three), ap (λ k. n + k) (eqb-true x i (lies-in (Column i) (ap name e ∙ column-name p i (Row 0) li))) ∙ sym e)

      by_block : (b : ℕ) → b < n → h ≡ 2 * n + b → Named
      unfolding spot_of
      by_block b l_b e = (2, omega (arith, three), ap (λ k. 2 * n + k) (eqb-true _ b (lies-in (Block b) (ap name e ∙ block-name p b (Row 0) l_b))) ∙ sym e)

      by_falling : p.x ≡ true → h ≡ 3 * n → Named
      unfolding spot_of
      by_falling is_x e =
          let same = eqb-true x y (lies-in (Diagonal 0) (ap name (e ∙ omega arith) ∙ diagonal-name p 0 (Row 0) is_x (omega arith))) in
          (3, rw is_x (omega arith), rw (eq-eqb y x (sym same)) (sym e))

      by_rising : p.x ≡ true → h ≡ 3 * n + 1 → Named
      unfolding spot_of
      by_rising is_x e =
          let same = eqb-true x (n - 1 - y) (lies-in (Diagonal 1) (ap name e ∙ diagonal-name p 1 (Row 0) is_x (omega arith))) in
          (4, rw is_x (omega arith), rw (eq-eqb (y + x + 1) n (omega (arith, same, ly))) (sym e))

      named : Named
      named = elim (cases_lt h n) [
        | inl row ↦ by_row row
        | inr later ↦ elim (cases_lt h (2 * n)) [
          | inl column ↦ by_column (h - n) (omega arith) (omega arith)
          | inr after ↦ elim (cases_lt h (3 * n)) [
            | inl block ↦ by_block (h - 2 * n) (omega arith) (omega arith)
            | inr last ↦ elim (cases_Bool p.x) [
              | inl on ↦ elim (cases_lt h (3 * n + 1)) [
                | inl first ↦ by_falling on (omega arith)
                | inr second ↦ by_rising on (omega (arith, lh, count_x p on))
              ]
              | inr off ↦ absurd (omega (arith, lh, count_plain p off))
            ]
          ]
        ]
      ]

    -- the cell stands at its spots, and nowhere else
    pub spots-of : {spots : List Spot} → AreSpotsAt p.c p.r (spots_each p.x) place spots → AreSpotsOf (houses_rules p) place spots
    spots-of at i li = rw (at.is i (omega (arith, at.as_many))) (spot-stands i (omega (arith, at.as_many)))

    pub all-spots-of : {spots : List Spot} → AreSpotsAt p.c p.r (spots_each p.x) place spots → AreAllSpotsOf (houses_rules p) place spots
    all-spots-of {spots} at h k s =
        let w = named s in
        let is = at.is w.0 w.1 in
        let house = ap (λ t. t.house) is ∙ w.2 in
        let own = spot-stands w.0 w.1 in (
          w.0,
          omega (arith, at.as_many, w.1),
          house,
          ap (λ t. t.cell) is ∙ (houses_lawful p ok).scope_distinct h _ k s.house_in (omega (arith, long-at _ p s.house_in ok, own.cell_in)) (omega (arith, long-at _ p s.house_in ok, s.cell_in))
              (ap (λ g. slice_index ((houses_rules p).scope g) (spot_of p.c p.r place w.0).cell) (sym w.2) ∙ own.is ∙ sym s.is),
        )
