-- Light Up: houses by what tells them, lonely numbers, and grids that meet each house.
use Rattle.fields_core.proofs.Common.{AreMet, Black, Bool, CountHouse, IsAround, IsGrid, IsLight, Light, LightHouse, List, Numbered, Segment, [], all_below-at, all_below-from, and_parts, any_below, any_below-none, any_below-some, ap, append-nil, ap₂, arith, begins_column_run, begins_row_run, black_right, bulb, bulb_right, bulbs_beside, cases_Bool, cases_eq, cases_lt, column_house, column_run, common_steps, cond, count_by, count_by-le-length, eq-eqb, eqb, eqb-true, exactly, false, false_from_ne_true, filter, get_or, has_place, has_place-at, houses_below, inl, inr, leb-true, length, light_cells, light_counts, light_house, light_houses, cells_along, line_white, lit_house, lit_right, lonely, lt-ltb, map, meets_house, mod-lt, ne_eqb, nonzeros, not, not-true, number_house, number_right, one_at_least, one_at_most, or_cases, or_left, or_right, place-append, place-filter, place-front, places_in_segments, refl, row_house, row_run, run_house, seen_from, sees, sees_bulb, segment_places, slice_index, solves_lights, steps, sym, true, true≢false, white, ℕ, ◌%◌, ◌*◌, ◌++◌, ◌+◌, ◌-◌, ◌/◌, ◌<◌, ◌||◌, ◌∙◌, ◌∷◌, ◌≡◌}
use Rattle.fields_core.proofs.LightHouseLaws.{bulb-in, line-self, lit-from, lit-parts, small-at, white-in}
use Rattle.fields_core.proofs.RunLemmas.{column-house-is, lit-lines, row-house-is}
use Rattle.fields_core.proofs.BesideLemmas.{row-in, whole-cell}
use Rattle.fields_core.proofs.VisitLemmas.{among-back, among-below, among-front, among-met, among-one}
use Rattle.fields_core.proofs.PlaceLists.{any-some, count-filter, count-two, ones-bulbs, some-counted}
use Rattle.fields_core.proofs.LightSeen.{seen-there}
use Rattle.fields_core.proofs.LightRuleLemmas.{IsLightBoard, in-column-run, in-row-run, light-board, line-run-joined}
use Rattle.fields_core.proofs.LightRunOrder.{line-begin}
use Rattle.fields_core.specs.declared.planes.light_up.waits.RunKind.TheVariants.{Columns, Rows}

-- Houses of Light Up by what tells them. A place that tells a house lies in the grid.

-- ---- a house is told
pub told-if : (b : Bool) (house : CountHouse) → length (cond b (house ∷ []) []) ≡ 1 → b ≡ true
told-if true house e = refl
told-if false house e = absurd (omega arith)

-- its place lies in the grid
pub place-tells : (p : Light) (kind : LightHouse) (c : ℕ) → IsLight p → length (light_house p kind c) ≡ 1 → c < light_cells p
unfolding begins_row_run begins_column_run
place-tells = grind (arith, common_steps, cases_lt, white-in, and_parts, told-if)

-- ---- the house of a white cell is that of three segments
pub lit-told : (p : Light) (y : ℕ) {x : ℕ} (a b c none : Segment) {left right top end : ℕ} → x < p.size.w → white p (y * p.size.w + x) ≡ true
    → IsAround (line_white p (y * p.size.w) 1) p.size.w x left right → IsAround (line_white p x p.size.w) p.size.h y top end
    → segment_places a ≡ cells_along (y * p.size.w) 1 left right → segment_places b ≡ cells_along x p.size.w top y
    → segment_places c ≡ cells_along x p.size.w (y + 1) end → segment_places none ≡ []
    → lit_house p (y * p.size.w + x) ≡ one_at_least (places_in_segments (a ∷ b ∷ c ∷ none ∷ [])) ∷ []
lit-told p y {x} a b c none {left} {right} {top} {end} lt on row column is_a is_b is_c is_none =
    let first : y * p.size.w + left * 1 ≡ y * p.size.w + left = omega arith in
    let below : x + (y + 1) * p.size.w ≡ y * p.size.w + x + p.size.w = omega arith in
    let rest : end - (y + 1) ≡ end - y - 1 = omega arith in
    lit-lines p lt on row column
    ∙ ap (λ l. one_at_least l ∷ [])
    (sym ((rw is_none (ap (λ l. segment_places a ++ (segment_places b ++ l)) (append-nil (segment_places c)))) ∙ ap₂ (λ s t. s ++ t) (rw first at is_a) (ap₂ (λ s t. s ++ t) is_b (rw (below, rest) at is_c))))

-- ---- the line of a place
pub place-row : (p : Light) (kind : LightHouse) (c : ℕ) → IsLight p → length (light_house p kind c) ≡ 1 → c / p.size.w < p.size.h
place-row p kind c lawful e = row-in p.size.h c lawful.size.extent.w_low (place-tells p kind c lawful e)

pub row-of-place : (p : Light) (c : ℕ) → 0 < p.size.w → run_house p (c / p.size.w * p.size.w) 1 p.size.w (c % p.size.w) ≡ row_house p c
row-of-place p c some = rw (← whole-cell p.size.w c) at (row-house-is p (c / p.size.w) (mod-lt c some))

pub column-of-place : (p : Light) (c : ℕ) → 0 < p.size.w → run_house p (c % p.size.w) p.size.w p.size.h (c / p.size.w) ≡ column_house p c
column-of-place p c some = rw (← whole-cell p.size.w c) at (column-house-is p (c / p.size.w) (mod-lt c some))

-- A grid of Light Up that meets each house with a cell is a solution exactly if each number above 0 has a white cell beside it.
module _ (p : Light) (g : List ℕ) (is : IsLight p) (grid : IsGrid (light_cells p) 2 g) (met : AreMet (light_counts p) g) where
  board : IsLightBoard p
  board = light-board is

  -- the house is met, if it has a cell
  abbrev Meets : CountHouse → Type 0
  Meets house = 0 < length house.places → meets_house house g ≡ true

  bulb-white : (c : ℕ) → c < light_cells p → bulb g c ≡ true → white p c ≡ true
  bulb-white c lt on = grind (arith, common_steps, cases_Bool, eqb-true)

  -- ---- runs
  row-met : (c : ℕ) → white p c ≡ true → Meets (one_at_most (row_run p c))
  unfolding begins_row_run light_houses
  row-met c on =
      let b = line-begin p Rows (c + 1) c (omega arith) board.some on in let lt = white-in p b.0 board.long (and_parts _ _ b.1).0 in
      rw b.2 at (among-met {house = one_at_most (row_run p b.0)} met (among-back (houses_below (number_house p) (light_cells p))
      (among-front _
      (among-below _ (row_house p) lt (rw b.1 (among-one _))))))

  column-met : (c : ℕ) → white p c ≡ true → Meets (one_at_most (column_run p c))
  unfolding begins_column_run light_houses
  column-met c on =
      let b = line-begin p Columns (c + 1) c (omega arith) board.some on in let lt = white-in p b.0 board.long (and_parts _ _ b.1).0 in
      rw b.2 at (among-met {house = one_at_most (column_run p b.0)} met (among-back (houses_below (number_house p) (light_cells p))
      (among-back (houses_below (row_house p) (light_cells p)) (among-front _
      (among-below _ (column_house p) lt (rw b.1 (among-one _)))))))

  -- two bulbs do not stand in one run
  run-apart : (run : List ℕ) (c d : ℕ) → Meets (one_at_most run) → has_place run c ≡ true → has_place run d ≡ true → bulb g c ≡ true → bulb g d ≡ true
      → (c ≡ d → ⊥) → ⊥
  unfolding meets_house
  run-apart run c d is_met mc md bc bd apart = grind (arith, common_steps, has_place-at, and_parts, leb-true, ones-bulbs, small-at, count-two)

  bulbs-right : (c : ℕ) → c < light_cells p → bulb_right p g c ≡ true
  unfolding bulb_right sees_bulb sees
  bulbs-right c lt = ap not (false_from_ne_true _ (λ both.
      let on = and_parts _ _ both in let w = any_below-some _ _ on.1 in
      let seen = and_parts _ _ w.2 in let parts = and_parts _ _ seen.0 in
      let is_white = bulb-white c lt on.0 in
      let apart = λ (e : c ≡ w.0). true≢false (sym (eq-eqb c w.0 e) ∙ not-true (eqb c w.0) parts.0) in
      elim (or_cases _ _ parts.1) [
        | inl row ↦ run-apart (row_run p c) c w.0 (row-met c is_white) (in-row-run p c c board.some (line-self p Rows c is_white))
            (in-row-run p c w.0 board.some row) on.0 seen.1 apart
        | inr column ↦ run-apart (column_run p c) c w.0 (column-met c is_white) (in-column-run p c board.some lt (line-self p Columns c is_white))
            (in-column-run p c {d = w.0} board.some w.1 column) on.0 seen.1 apart
      ]))

  -- ---- white cells
  lit-met : {c : ℕ} → c < light_cells p → white p c ≡ true → Meets (one_at_least (seen_from p c))
  unfolding light_houses
  lit-met {c} lt on = among-met met (among-back (houses_below (number_house p) (light_cells p))
      (among-back (houses_below (row_house p) (light_cells p)) (among-back (houses_below (column_house p) (light_cells p))
      (among-below _ (lit_house p) lt (rw on (among-one _))))))

  bulb-seen : {c : ℕ} → c < light_cells p → white p c ≡ true → (d : ℕ) × (has_place (seen_from p c) d ≡ true) × (bulb g d ≡ true)
  unfolding meets_house seen_from
  bulb-seen {c} lt on =
      let own = has_place-at (seen_from p c) c (place-front _ _ c (in-row-run p c c board.some (line-self p Rows c on))) in
      let some = leb-true 1 (nonzeros (map (slice_index g) (seen_from p c))) (and_parts _ _ (lit-met lt on (omega (arith, own.1)))).0 in
      any-some (bulb g) (seen_from p c)
      (sym (some-counted (bulb g) (seen_from p c)) ∙ lt-ltb 0 _ (omega (arith, some, ones-bulbs g (seen_from p c) (small-at grid))))

  lits-right : (c : ℕ) → c < light_cells p → lit_right p g c ≡ true
  unfolding lit_right seen_from
  lits-right c lt = elim (cases_Bool (white p c)) [
    | inr off ↦ or_left (not (white p c)) (bulb g c || sees_bulb p g c) (ap not off)
    | inl on ↦
        let w = bulb-seen lt on in let lies = bulb-in g w.0 grid.each_cell w.2 in
        or_right (not (white p c)) (bulb g c || sees_bulb p g c) (elim (cases_eq w.0 c) [
          | inl same ↦ or_left (bulb g c) (sees_bulb p g c) (rw same at w.2)
          | inr other ↦ or_right (bulb g c) (sees_bulb p g c) (seen-there p g lies other (elim (place-append (row_run p c) _ w.0 w.1) [
            | inl row ↦ or_left _ _ (line-run-joined p Rows c w.0 row)
            | inr column ↦ or_right _ _ (line-run-joined p Columns c w.0 (place-filter _ _ w.0 column).0)
          ]) w.2)
        ])
  ]

  blacks-right : (c : ℕ) → c < light_cells p → black_right p g c ≡ true
  unfolding black_right
  blacks-right c lt = grind (arith, common_steps, cases_Bool, or_left, or_right, eq-eqb)

  -- ---- numbers
  number-met : {c : ℕ} (n : ℕ) → c < light_cells p → get_or p.cells c Black ≡ Numbered n → Meets (exactly n (filter (white p) (steps p.size c 4)))
  unfolding light_houses
  number-met {c} n lt e = among-met met (among-front _ (among-below _ (number_house p) lt (rw e (among-one _))))

  -- bulbs stand on white cells
  beside-white : (c : ℕ) → count_by (bulb g) (filter (white p) (steps p.size c 4)) ≡ bulbs_beside p g c
  beside-white c = count-filter (bulb g) (white p) (steps p.size c 4) (λ d on. bulb-white d (bulb-in g d grid.each_cell on) on)

  abbrev whites : ℕ → List ℕ
  whites c = filter (white p) (steps p.size c 4)

  beside-met : (c n : ℕ) → c < light_cells p → get_or p.cells c Black ≡ Numbered n → 0 < length (whites c) → bulbs_beside p g c ≡ n
  unfolding meets_house
  beside-met c n lt e some =
      let counts = and_parts _ _ (number-met n lt e some) in
      omega (arith, leb-true n _ counts.0, leb-true (nonzeros (map (slice_index g) (whites c))) n counts.1, ones-bulbs g (whites c) (small-at grid), beside-white c)

  beside-none : (c : ℕ) → length (whites c) ≡ 0 → bulbs_beside p g c ≡ 0
  beside-none c none = omega (arith, none, beside-white c, count_by-le-length (bulb g) (whites c))

  -- a number is right unless it is above 0 with no white cell beside it
  number-told : {c : ℕ} → c < light_cells p → number_right p g c ≡ not (lonely p c)
  unfolding number_right
  number-told {c} lt = grind (arith, common_steps, cases_eq, beside-none, eq-eqb, ne_eqb, beside-met)

  pub completed : {told : Bool} → told ≡ not (any_below (lonely p) (light_cells p)) → told ≡ solves_lights p g
  completed {told} e = e ∙ sym (elim (cases_Bool (any_below (lonely p) (light_cells p))) [
    | inl some ↦
        let w = any_below-some (lonely p) (light_cells p) some in
        rw some (false_from_ne_true _ (λ on.
        true≢false (sym (all_below-at _ _ w.0 (lit-parts p g on).number w.1) ∙ number-told w.1 ∙ ap not w.2)))
    | inr none ↦ rw none (lit-from p g (all_below-from _ _ blacks-right)
        (all_below-from _ _ (λ c lt. number-told lt ∙ ap not (any_below-none (lonely p) (light_cells p) none c lt)))
        (all_below-from _ _ bulbs-right) (all_below-from _ _ lits-right))
  ])
