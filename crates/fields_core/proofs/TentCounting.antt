-- The count houses of Tents, and visits of them on planes.
use Rattle.fields_core.proofs.Common.{AllByRecursion, AreCounts, AreDistinct, ArePlanesAlive, AreVisited, Bool, Column, CountHouse, Extent, IsBroken, IsCounting, IsFurther, IsGrid, IsHouse, IsHouseOfPieces, IsLawful, IsTents, Layers, List, Piece, Row, Tents, ℕ, [], after_house, all_below, all_below-at, and_from, and_parts, any_below-here, ap, are_near, arith, can_be_paired, cases_eq, cases_lt, column-at, column_of_tents, column_places, column_right, common_steps, count-lawful, count_by-le-length, distinct-filter, eq-eqb, eqb, eqb-true, exactly, false, false_from_ne_true, filling_from_test, filter, free_beside, get_or, get_or-map, get_or-map-range_with_len, get_or-range_with_len, get_or_past, planes_have, has_bit, has_place, has_place-at, has_place-here, has_value, has_value_below, houses_below, inl, inr, is_barred, le-leb, leaves_none_out, length, length-map, length-map-range_with_len, length-range_with_len, lt-ltb, ltb, ltb-true, mul-le-mul_right, names_none_twice, ne_eqb, not, not-true, one_at_least, one_at_most, or_cases, place-filter, place-kept, range_with_len, row-at, row_of_tents, row_places, row_right, slice_index, solves_tents, square_house, steps, suc, sym, tent, tent_cells, tent_houses, tent_rules, touch_right, touches, tree, tree_house, tree_right, trees_beside, true, true≢false, zero, ◌%◌, ◌&&◌, ◌+◌, ◌/◌, ◌<◌, ◌||◌, ◌∙◌, ◌∷◌, ◌≡◌, ◌≤◌}
use Rattle.grid_core.specs.Lines.{line_cells}
use Rattle.fields_core.proofs.HouseLemmas.{all-append, all-at, all-houses, all-if, column-long, row-long}
use Rattle.fields_core.proofs.PlaceLists.{any-here, count-one, count-some, filter-few}
use Rattle.fields_core.proofs.BesideLemmas.{beside-both, beside-in, cell-after, cell-below, cell-in, steps-distinct, steps-few}
use Rattle.fields_core.proofs.LightHouseLaws.{IsMet, column-distinct, met-from, row-distinct, small-at}
use Rattle.fields_core.proofs.CellLemmas.{column-house, row-house}
use Rattle.fields_core.proofs.VisitLemmas.{among-back, among-below, among-front, among-house, among-one, visited-one}

-- The count houses of Tents keep to what every rule set of count houses keeps to.

-- the parts of a solution
pub record TentParts (p : Tents) (g : List ℕ) : Type 0 where
  pub trees : all_below (tree_right p g) (tent_cells p) ≡ true
  pub touch : all_below (touch_right p g) (tent_cells p) ≡ true
  pub columns : all_below (column_right p g) p.size.w ≡ true
  pub rows : all_below (row_right p g) p.size.h ≡ true
  pub paired : can_be_paired p g ≡ true

pub tents-parts : (p : Tents) (g : List ℕ) → solves_tents p g ≡ true → TentParts p g
unfolding solves_tents
tents-parts p g on = grind (arith, common_steps, and_parts)

-- what is used of a puzzle
pub record IsField (p : Tents) : Type 0 where
  pub some : 0 < p.size.w
  pub w_few : p.size.w ≤ 256
  pub h_few : p.size.h ≤ 256
  pub long : length p.trees ≡ tent_cells p
  pub number : (k : ℕ) → slice_index p.counts k ≤ 256

-- ---- columns and rows
column-kind : (p : Tents) (x : ℕ) → IsField p → x < p.size.w → IsMet (tent_cells p) (solves_tents p) (exactly (slice_index p.counts x) (column_places p.size x))
unfolding column_right
column-kind p x field lt = met-from (λ d on. grind (arith, common_steps, has_place-at, column-long, column-at, mul-le-mul_right)) (column-distinct p.size x field.some)
    (omega (arith, column-long p.size x, field.h_few)) (omega (arith, field.number x)) (omega (arith, field.number x)) (λ g grid good.
    let e = eqb-true _ _ (all_below-at _ p.size.w x (tents-parts p g good).columns lt) in (omega arith, omega arith))

row-kind : (p : Tents) (y : ℕ) → IsField p → y < p.size.h → IsMet (tent_cells p) (solves_tents p)
    (exactly (slice_index p.counts (p.size.w + y)) (row_places p.size y))
unfolding row_right
row-kind p y field lt = met-from (λ d on. grind (arith, common_steps, has_place-at, row-long, row-at, mul-le-mul_right)) (row-distinct p.size y)
    (omega (arith, row-long p.size y, field.w_few)) (omega (arith, field.number (p.size.w + y))) (omega (arith, field.number (p.size.w + y))) (λ g grid good.
    let e = eqb-true _ _ (all_below-at _ p.size.h y (tents-parts p g good).rows lt) in (omega arith, omega arith))

-- ---- trees and their tents
pub tent-in : (g : List ℕ) {cells : ℕ} (d : ℕ) → length g ≡ cells → tent g d ≡ true → d < cells
tent-in g d long on = grind (arith, common_steps, cases_lt, eqb-true, slice_index, get_or_past)

set-has : (p : Tents) (t : ℕ) {c : ℕ} → has_value (trees_beside p t) c ≡ true → (c < tent_cells p) × (tree p c ≡ true) × (has_place (steps p.size t 4) c ≡ true)
set-has p t on = grind (arith, common_steps, has_value_below, length-map-range_with_len, get_or-map-range_with_len, and_parts)

-- the tents of a grid by place, and the sets of trees beside them
unfoldable pub tents_of : Tents → List ℕ → List ℕ
tents_of p g = filter (tent g) (range_with_len 0 (tent_cells p))

-- a list that gives each tent a tree beside it, names no tree twice and leaves none out
pub record IsGiven (p : Tents) (g chosen : List ℕ) : Type 0 where
  pub long : length chosen ≡ length (tents_of p g)
  pub each : (k : ℕ) → k < length (tents_of p g) → (slice_index chosen k < tent_cells p) × (tree p (slice_index chosen k) ≡ true)
      × (has_place (steps p.size (slice_index (tents_of p g) k) 4) (slice_index chosen k) ≡ true)
  pub none_twice : names_none_twice chosen ≡ true
  pub none_out : (c : ℕ) → c < tent_cells p → tree p c ≡ true → has_place chosen c ≡ true

pub given : (p : Tents) (g : List ℕ) → can_be_paired p g ≡ true → (chosen : List ℕ) × IsGiven p g chosen
unfolding can_be_paired tents_of
given p g paired =
    let w =
    filling_from_test _
    (λ chosen. names_none_twice chosen && leaves_none_out p chosen) paired in
    let tests = and_parts _ _ w.2 in
    let fills = w.1 in (
      w.0,
      record {
        long = fills.len ∙ length-map _ _;
        each = λ k lt. set-has p _
            (sym (ap (λ s. has_value s (get_or w.0 k 0)) (get_or-map _ _ k 0 [] lt))
            ∙ fills.each k (omega (arith, length-map (filter (tent g) (range_with_len 0 (tent_cells p))) (trees_beside p))));
        none_twice = tests.0;
        none_out =
            λ c lt on. elim (or_cases _ _
            (all_below-at (λ c. not (tree p c) || has_place w.0 c) _ c tests.1 lt)) [
              | inl bare ↦ absurd (true≢false (sym on ∙ not-true _ bare))
              | inr here ↦ here
            ];
      },
    )

pub in-range : {n : ℕ} {c : ℕ} → c < n → has_place (range_with_len 0 n) c ≡ true
in-range {n} {c} lt =
    rw (let z : 0 + c ≡ c = omega arith in get_or-range_with_len 0 n c 0 lt ∙ z) at (has_place-here
    (range_with_len 0 n) c (omega (arith, length-range_with_len 0 n)))

-- a tree has a tent beside it
tree-tent : (p : Tents) {g : List ℕ} → IsGrid (tent_cells p) 2 g → solves_tents p g ≡ true → {c : ℕ}
    → c < tent_cells p → tree p c ≡ true → (t : ℕ) × (t < tent_cells p) × (tent g t ≡ true)
    × (has_place (steps p.size t 4) c ≡ true)
unfolding tents_of
tree-tent p {g} grid good {c} lt on =
    let v = given p g (tents-parts p g good).paired in let is = v.1 in
    let w = has_place-at v.0 c (is.none_out c lt on) in let k : w.0 < length (tents_of p g) = omega (arith, w.1, is.long) in
    let tents = filter (tent g) (range_with_len 0 (tent_cells p)) in let t = slice_index tents w.0 in
    let member = place-filter (tent g) _ t (has_place-here tents w.0 k) in
    (t, tent-in g t grid.each_cell member.1, member.1, rw w.2 at (is.each w.0 k).2)

-- a tent has a tree beside it
tent-tree : (p : Tents) {g : List ℕ} → IsGrid (tent_cells p) 2 g → solves_tents p g ≡ true → (t : ℕ)
    → tent g t ≡ true → (c : ℕ) × (tree p c ≡ true) × (has_place (steps p.size t 4) c ≡ true)
unfolding tents_of
tent-tree p {g} grid good t on =
    let v = given p g (tents-parts p g good).paired in let is = v.1 in
    let tents = filter (tent g) (range_with_len 0 (tent_cells p)) in
    let w = has_place-at tents t (place-kept (tent g) (range_with_len 0 (tent_cells p)) t (in-range (tent-in g t grid.each_cell on)) on) in
    let e = is.each w.0 w.1 in (slice_index v.0 w.0, e.1, rw w.2 at e.2)

-- no tent stands on a tree
tree-bare : (p : Tents) (g : List ℕ) → solves_tents p g ≡ true → {c : ℕ} → c < tent_cells p → tree p c ≡ true → slice_index g c ≡ 0
unfolding tree_right
tree-bare p g good {c} lt on =
    elim (or_cases _ _
    (all_below-at _ _ c (tents-parts p g good).trees lt)) [
      | inl bare ↦ absurd (true≢false (sym on ∙ not-true _ bare))
      | inr none ↦ eqb-true _ _ none
    ]

tree-kind : {p : Tents} {c : ℕ} → IsField p → c < tent_cells p → tree p c ≡ true → IsMet (tent_cells p) (solves_tents p) (one_at_least (free_beside p c))
tree-kind {p} {c} field lt on = met-from
    (λ d m. beside-in p.size d field.some lt (place-filter (λ d. not (tree p d)) (steps p.size c 4) d m).0)
    (distinct-filter (λ d. not (tree p d)) (steps p.size c 4) (steps-distinct p.size c 4 field.some (omega arith))) few (omega arith) few (λ g grid good.
    let w = tree-tent p grid good lt on in
    let free : not (tree p w.0) ≡ true =
    ap not (false_from_ne_true _ (λ is. let z = tree-bare p g good w.1 is in let o = eqb-true _ _ w.2 in absurd (omega arith))) in
    let m = place-kept (λ d. not (tree p d)) (steps p.size c 4) w.0 (beside-both p.size field.some w.1 lt w.3) free in
    (count-some (tent g) (free_beside p c) w.0 m w.2, count_by-le-length (tent g) (free_beside p c)))
  where
    few : length (free_beside p c) ≤ 512
    few = let z : length (free_beside p c) ≤ 4 = grind (arith, common_steps, filter-few, tree, steps-few) in omega (arith, z)

-- ---- squares
abbrev square_at : ℕ → ℕ → List ℕ
square_at w c = c ∷ (c + 1) ∷ (c + w) ∷ (c + w + 1) ∷ []

-- a cell of a square lies in its rows and columns
record IsInSquare (w c d : ℕ) : Type 0 where
  pub row_low : c / w ≤ d / w
  pub row_high : d / w ≤ c / w + 1
  pub column_low : c % w ≤ d % w
  pub column_high : d % w ≤ c % w + 1

in-square : {w : ℕ} (c d : ℕ) → c % w + 1 < w → has_place (square_at w c) d ≡ true → IsInSquare w c d
unfolding has_place
in-square c d lt on = grind (arith, common_steps, or_cases, eqb-true, cell-after, cell-below)

square-apart : (p : Tents) {g : List ℕ} → IsGrid (tent_cells p) 2 g → solves_tents p g ≡ true
    → {c d e : ℕ} → IsInSquare p.size.w c d → IsInSquare p.size.w c e → tent g d ≡ true
    → tent g e ≡ true → d ≡ e
unfolding touch_right touches
square-apart p {g} grid good {d} {e} sd se td te = elim (cases_eq d e) [
  | inl same ↦ same
  | inr other ↦
      let a = sd.row_low in let b = sd.row_high in let f = se.row_low in let h = se.row_high in
      let i = sd.column_low in let j = sd.column_high in let k = se.column_low in let l = se.column_high in
      let near = and_from _ _ (ap not (ne_eqb _ _ other)) (and_from _ _
      (and_from _ _ (le-leb (d / p.size.w) (e / p.size.w + 1) (omega arith)) (le-leb (e / p.size.w) (d / p.size.w + 1) (omega arith)))
      (and_from _ _ (le-leb (d % p.size.w) (e % p.size.w + 1) (omega arith)) (le-leb (e % p.size.w) (d % p.size.w + 1) (omega arith)))) in
      let some =
      any_below-here (λ f. (not
      (eqb d f) && (are_near (d / p.size.w) (f / p.size.w) && are_near (d % p.size.w)
      (f % p.size.w))) && tent g f) (tent_cells p) e
      (tent-in g e grid.each_cell te) (and_from _ _ near te) in
      absurd (true≢false (sym (and_from _ _ td some)
      ∙ not-true _ (all_below-at (touch_right p g) (tent_cells p) d (tents-parts p g good).touch
      (tent-in g d grid.each_cell td))))
]

square-distinct : (w c : ℕ) → 1 < w → AreDistinct (square_at w c)
unfolding has_place
square-distinct w c two = grind (arith, common_steps, ne_eqb)

square-kind : {p : Tents} (c : ℕ) → IsField p → c % p.size.w + 1 < p.size.w
    → c / p.size.w + 1 < p.size.h → IsMet (tent_cells p) (solves_tents p)
    (one_at_most (square_at p.size.w c))
square-kind {p} c field right bottom = met-from
    (λ d on. let s = in-square c d right on in let a = s.row_high in cell-in p.size.h field.some (omega arith))
    distinct (omega arith) (omega arith) (omega arith) (λ g grid good. (
      omega arith,
      count-one (tent g) (square_at p.size.w c) distinct (λ d e md me td te.
          square-apart p grid good (in-square c d right md) (in-square c e right me) td te),
    ))
  where
    distinct : AreDistinct (square_at p.size.w c)
    distinct = square-distinct p.size.w c (omega arith)

-- ---- all houses
each-met : (p : Tents) → IsField p → AllByRecursion (IsMet (tent_cells p) (solves_tents p)) (tent_houses p)
unfolding tent_houses
each-met p field =
    all-append _ _ _ (all-houses _ (column_of_tents p) _ (λ x lt. (column-kind p x field lt, tt)))
    (all-append _ _ _ (all-houses _ (row_of_tents p) _ (λ y lt. (row-kind p y field lt, tt)))
    (all-append _ _ _ (all-houses _ (tree_house p) _ (λ c lt. all-if _ (tree-kind field lt)))
    (all-houses _ (square_house p) _ (λ c lt. all-if _ (λ on. let w = and_parts _ _ on in square-kind c field (ltb-true _ _ w.0) (ltb-true _ _ w.1))))))

-- ---- a puzzle's field
line-few : (size : Extent) (line : ℕ) → size.w ≤ 256 → size.h ≤ 256 → line_cells size line ≤ 256
line-few size line w h = grind (arith, common_steps)

counts-few : (size : Extent) (line : ℕ) (counts : List ℕ) (k : ℕ) → size.w ≤ 256 → size.h ≤ 256 → AreCounts size line counts → slice_index counts k ≤ 256
counts-few size line [] k w h all = omega arith
counts-few size line (n ∷ counts) zero w h all = omega (arith, line-few size line w h)
counts-few size line (n ∷ counts) (suc k) w h all = counts-few size (line + 1) counts k w h all.1

pub tent-field : {p : Tents} → IsTents p → IsField p
tent-field is = grind (arith, common_steps, counts-few)

pub tent-counting : {p : Tents} → IsTents p → IsCounting (tent_cells p) (is_barred p) (tent_houses p) (solves_tents p)
unfolding is_barred
tent-counting {p} is = record {
  few_cells = let b = tent-field is in omega (arith, mul-le-mul_right p.size.h b.w_few);
  are_houses = λ h lt. (all-at _ _ (each-met p (tent-field is)) lt).is_house;
  blocked_zero = λ g grid good c lt bare. elim (or_cases _ _ bare) [
    | inl on ↦ tree-bare p g good lt on
    | inr alone ↦ zero-from (small-at grid c) (λ one.
        let w = tent-tree p grid good c (eq-eqb _ _ one) in true≢false (sym (any-here (tree p) _ w.0 w.2 w.1) ∙ not-true _ alone))
  ];
  meets_each = λ g grid good h lt. (all-at _ _ (each-met p (tent-field is)) lt).met g grid good;
}
  where
    zero-from : {v : ℕ} → v < 2 → (v ≡ 1 → ⊥) → v ≡ 0
    zero-from {v} lt none = grind (arith, common_steps, cases_eq v 0)

pub tent-lawful : {p : Tents} → IsTents p → IsLawful (tent_rules p)
tent-lawful is = count-lawful _ _ _ _ (tent-counting is)

-- Visits of the houses of Tents on planes.

-- ---- the houses of Tents are houses
module _ (p : Tents) (lawful : IsTents p) where
  pub column-is : {x : ℕ} → x < p.size.w → IsHouse (tent_cells p)
      (exactly (slice_index p.counts x) (column_places p.size x))
  unfolding tent_houses
  column-is {x} lt =
      among-house (tent_cells p) (tent-counting lawful).are_houses
      (among-front _ (among-below _ (column_of_tents p) lt (among-one _)))

  pub row-is : {y : ℕ} → y < p.size.h → IsHouse (tent_cells p)
      (exactly (slice_index p.counts (p.size.w + y)) (row_places p.size y))
  unfolding tent_houses
  row-is {y} lt =
      among-house (tent_cells p) (tent-counting lawful).are_houses
      (among-back (houses_below (column_of_tents p) p.size.w) (among-front _ (among-below _ (row_of_tents p) lt (among-one _))))

  pub tree-is : {c : ℕ} → c < tent_cells p → tree p c ≡ true → IsHouse (tent_cells p) (one_at_least (free_beside p c))
  unfolding tent_houses
  tree-is {c} lt is =
      among-house (tent_cells p) (tent-counting lawful).are_houses
      (among-back (houses_below (column_of_tents p) p.size.w)
      (among-back (houses_below (row_of_tents p) p.size.h)
      (among-front _
      (among-below _ (tree_house p) lt (rw is (among-one _))))))

  pub square-is : {c : ℕ} → c < tent_cells p → c % p.size.w + 1 < p.size.w → c / p.size.w + 1 < p.size.h
      → IsHouse (tent_cells p) (one_at_most (c ∷ (c + 1) ∷ (c + p.size.w) ∷ (c + p.size.w + 1) ∷ []))
  unfolding tent_houses
  square-is {c} lt wide tall =
      among-house (tent_cells p) (tent-counting lawful).are_houses
      (among-back (houses_below (column_of_tents p) p.size.w)
      (among-back (houses_below (row_of_tents p) p.size.h)
      (among-back (houses_below (tree_house p) (tent_cells p)) (among-below _ (square_house p) lt
      (rw (lt-ltb _ _ wide, lt-ltb _ _ tall) (among-one _))))))

-- what a visit says of each house of its pieces
abbrev pub IsVisitOfPieces : List Piece → ℕ → ℕ → Layers → Layers → Bool → Type 0
IsVisitOfPieces pieces least most from to fills = (house : CountHouse) → IsHouseOfPieces from.size pieces least most house
    → (fills ≡ true → planes_have to ≡ after_house house (planes_have from)) × (fills ≡ false → IsBroken house (planes_have from))

-- ---- lines
pub column-visited : {p : Tents} {x : ℕ} (bits ones : ℕ) {from to : Layers} (fills : Bool) → IsTents p
    → from.size ≡ p.size → x < p.size.w → ((k : ℕ) → has_bit bits k ≡ ltb k p.size.h) → ones ≡ slice_index p.counts x
    → IsVisitOfPieces (record { line = Column x; bits = bits } ∷ []) ones ones from to fills → ArePlanesAlive to
    → IsFurther from to → AreVisited (column_of_tents p x) from to fills
column-visited {p} {x} bits ones fills lawful size lt is count visit alive further =
    let told = visit (exactly (slice_index p.counts x) (column_places p.size x))
    (rw (size, count) (column-house p.size bits (slice_index p.counts x) lt is (column-is p lawful lt))) in
    visited-one (rw size (column-is p lawful lt))
    (let tall = lawful.size.extent.h_low in omega (arith, column-long p.size x)) told.0 told.1 alive further

pub row-visited : (p : Tents) (y bits ones : ℕ) (from to : Layers) (fills : Bool) → IsTents p
    → from.size ≡ p.size → y < p.size.h → ((k : ℕ) → k < p.size.w → has_bit bits k ≡ true)
    → ones ≡ slice_index p.counts (p.size.w + y)
    → IsVisitOfPieces (record { line = Row y; bits = bits } ∷ []) ones ones from to fills → ArePlanesAlive to
    → IsFurther from to → AreVisited (row_of_tents p y) from to fills
row-visited p y bits ones from to fills lawful size lt is count visit alive further =
    let pos = (tent-field lawful).some in
    let told = visit (exactly (slice_index p.counts (p.size.w + y)) (row_places p.size y))
    (rw (size, count) (row-house p.size y bits (slice_index p.counts (p.size.w + y)) pos is (row-is p lawful lt))) in
    visited-one (rw size (row-is p lawful lt)) (omega (arith, row-long p.size y)) told.0 told.1 alive further

-- the places of a square
abbrev pub square_places : ℕ → ℕ → List ℕ
square_places w c = c ∷ (c + 1) ∷ (c + w) ∷ (c + w + 1) ∷ []
