-- The houses of the runs of Light Up, line by line.
use Rattle.std.proofs.lemmas.Grind.{common_steps}
use Rattle.fields_core.proofs.Common.{[], AllByRecursion, AreIdle, ArePlanesAlive, AreRunsOf, AreVisited, Bool, Candidates, Column, CountHouse, IsColumnRun, IsInside, IsLight, IsRowRun, IsRunOf, Layers, Light, Line, List, Row, and_from, and_parts, any_below, any_below-here, any_below-some, ap, arith, cases_Bool, column_house, column_runs_of_column, crosses, div-lt_iff_lt-mul, div-mul-add, eq-eqb, eqb, eqb-true, planes_have, has_bit, has_place, houses_below, inl, inr, joined_in_column, joined_in_row, light_cells, list_any, lt-ltb, ltb, mod-lt, one_at_most, or_left, place-column, place-in, refl, row_house, row_runs_of_row, slice_index, subst, suc, sym, true, white, zero, ℕ, ◌%◌, ◌&&◌, ◌*◌, ◌+◌, ◌/◌, ◌<◌, ◌∙◌, ◌∷◌, ◌≡◌}
use Rattle.std.specs.Prelude.{if◌then◌else◌}
use Rattle.fields_core.specs.declared.planes.light_up.waits.RunKind.{RunKind}
use Rattle.fields_core.specs.declared.planes.light_up.waits.RunKind.TheVariants.{Columns, Rows}
use Rattle.fields_core.proofs.LightRuleLemmas.{IsLightBoard, in-column-run, in-row-run, light-board, line-kind, line-run-joined}
use Rattle.fields_core.proofs.LightHouseLaws.{begins_on, cell_on, joined_on, line-both, line-end, line-parts, line-run-on, line-self, line-start, mul-inj, own-cell, own_line, own_number, run_on, white-in}
use Rattle.fields_core.proofs.HouseLemmas.{all-houses, all-if, any-houses}
use Rattle.fields_core.proofs.HouseOrder.{AreSameHouses, IsSingle, singles-kept, visited-any-order}
use Rattle.fields_core.proofs.VisitLemmas.{IsBinaryAlive, below-rows}
use Rattle.fields_core.proofs.CellLemmas.{same-truth}
use Rattle.fields_core.proofs.LightRunLines.{each-more, some-of}

-- The houses of the runs of a row and of a column of Light Up, as runs of a line.

-- ---- where a run begins
pub line-begin : (p : Light) (kind : RunKind) (n c : ℕ) → c < n → 0 < p.size.w → white p c ≡ true
    → (b : ℕ) × (begins_on p kind b ≡ true) × (run_on p kind b ≡ run_on p kind c)
line-begin p kind zero c lt some on = absurd (omega arith)
line-begin p kind (suc n) c lt some on = elim (cases_Bool (begins_on p kind c)) [
  | inl here ↦ (c, here, refl)
  | inr off ↦
      let v = line-run-on p kind c some off on in
      let w = line-begin p kind n v.0 (omega (arith, v.1)) some v.2 in (w.0, w.1, w.2 ∙ v.3)
]

-- ---- the runs of a line: how many cells it planes_have, and the house of a run
abbrev pub cells_on : Light → RunKind → ℕ
cells_on p Rows = p.size.w
cells_on p Columns = p.size.h

abbrev house_on : Light → RunKind → ℕ → List CountHouse
house_on p kind c = if begins_on p kind c then one_at_most (run_on p kind c) ∷ [] else []

few-on : (p : Light) (kind : RunKind) (c : ℕ) → IsLightBoard p → white p c ≡ true → own_number p kind c < cells_on p kind
few-on p Rows c board on = mod-lt c board.some
few-on p Columns c board on = let lt = white-in p c board.long on in (div-lt_iff_lt-mul board.some).1 (omega arith)

in-run : (p : Light) (kind : RunKind) (c d : ℕ) → IsLightBoard p → joined_on p kind c d ≡ true → has_place (run_on p kind c) d ≡ true
in-run p Rows c d board on = in-row-run p c d board.some on
in-run p Columns c d board on = in-column-run p c board.some (white-in p d board.long (line-end p Columns c d on)) on

in-line : (p : Light) (kind : RunKind) (line c : ℕ) → own_line p kind c ≡ line → cell_on p kind line (own_number p kind c) ≡ c
in-line p kind line c e = rw (sym e) (own-cell p kind c)

line-joins : {p : Light} (kind : RunKind) (line b : ℕ) → IsLightBoard p → own_line p kind b ≡ line
    → (c d : ℕ) → has_place (run_on p kind b) c ≡ true → has_place (run_on p kind b) d ≡ true
    → (j : ℕ) × (k : ℕ) × (j < cells_on p kind) × (k < cells_on p kind) × (cell_on p kind line j ≡ c) × (cell_on p kind line k ≡ d)
    × (joined_on p kind (cell_on p kind line j) (cell_on p kind line k) ≡ true)
line-joins {p} kind line b board e c d in_c in_d =
    let joined_c = line-run-joined p kind b c in_c in let joined_d = line-run-joined p kind b d in_d in
    let few_c = few-on p kind c board (line-end p kind b c joined_c) in let few_d = few-on p kind d board (line-end p kind b d joined_d) in
    let at_c = in-line p kind line c (sym (line-parts p kind b c joined_c).0 ∙ e) in
    let at_d = in-line p kind line d (sym (line-parts p kind b d joined_d).0 ∙ e) in
    (own_number p kind c, own_number p kind d, few_c, few_d, at_c, at_d, rw (at_c, at_d) (line-both p kind b c d joined_c joined_d))

-- a word of what is joined to a cell tells which cells are in its run
pub line-run-has : {p : Light} (kind : RunKind) (cell bits : ℕ) → IsLightBoard p
    → ((k : ℕ) → has_bit bits k ≡ (ltb k (cells_on p kind) && joined_on p kind cell (cell_on p kind (own_line p kind cell) k)))
    → (c : ℕ) → has_place (run_on p kind cell) c ≡ (eqb (own_line p kind c) (own_line p kind cell) && has_bit bits (own_number p kind c))
line-run-has {p} kind cell bits board is c = same-truth _ _
    (λ there.
    let joined = line-run-joined p kind cell c there in let same = sym (line-parts p kind cell c joined).0 in
    and_from _ _ (eq-eqb _ _ same) (is (own_number p kind c) ∙ and_from _ _ (lt-ltb _ _ (few-on p kind c board (line-end p kind cell c joined)))
    (ap (joined_on p kind cell) (in-line p kind (own_line p kind cell) c same) ∙ joined)))
    (λ on.
    let parts = and_parts _ _ on in let joined = (and_parts _ _ (sym (is (own_number p kind c)) ∙ parts.1)).1 in
    in-run p kind cell c board (ap (joined_on p kind cell) (sym (in-line p kind (own_line p kind cell) c (eqb-true _ _ parts.0))) ∙ joined))

line-together : {p : Light} (kind : RunKind) (line c d : ℕ) → IsLightBoard p → own_line p kind c ≡ line → joined_on p kind c d ≡ true
    → list_any (λ house. has_place house.places c && has_place house.places d) (houses_below (λ k. house_on p kind (cell_on p kind line k)) (cells_on p kind)) ≡ true
line-together {p} kind line c d board e on =
    let white_c = line-start p kind c d on in let b = line-begin p kind (c + 1) c (omega arith) board.some white_c in
    let in_c : has_place (run_on p kind b.0) c ≡ true = rw b.2 (in-run p kind c c board (line-self p kind c white_c)) in
    let in_d : has_place (run_on p kind b.0) d ≡ true = rw b.2 (in-run p kind c d board on) in
    let joined = line-run-joined p kind b.0 c in_c in
    let at : cell_on p kind line (own_number p kind b.0) ≡ b.0 = in-line p kind line b.0 ((line-parts p kind b.0 c joined).0 ∙ e) in
    any-houses (λ house. has_place house.places c && has_place house.places d) (λ k. house_on p kind (cell_on p kind line k)) (cells_on p kind)
    ∙ any_below-here (λ k. list_any (λ house. has_place house.places c && has_place house.places d) (house_on p kind (cell_on p kind line k))) (cells_on p kind) (own_number p kind b.0)
    (few-on p kind b.0 board (line-start p kind b.0 c joined))
    (rw (at, b.1) (or_left _ _ (and_from _ _ in_c in_d)))

pub row-runs-of : (p : Light) (y : ℕ) → IsLight p
    → AreRunsOf p.size (Row y) p.size.w (λ k. y * p.size.w + k) (λ j k. joined_in_row p (y * p.size.w + j) (y * p.size.w + k)) (row_runs_of_row p y)
unfolding crosses planes_have
row-runs-of p y lawful = record {
  own = λ j k lj lk e. omega arith;
  at_cell = λ bits c on. let v = and_parts _ _ on in (c % p.size.w, in-line p Rows y c (eqb-true _ _ v.0), v.1);
  from_cell = λ bits k lt on. rw (div-mul-add y p.size.w k lt, place-column p.size.w y k lt) (and_from _ _ (eq-eqb y y refl) on);
  values = λ q v k size low lt. rw (size, lt-ltb _ _ low, div-mul-add y p.size.w k lt, place-column p.size.w y k lt) refl;
  each = all-houses _ (λ x. row_house p (y * p.size.w + x)) p.size.w (λ x lt. all-if _ (λ _. record {
    is = (line-kind p Rows (y * p.size.w + x) (light-board lawful)).is_house;
    least_is = refl;
    most_is = refl;
    joins = line-joins Rows y (y * p.size.w + x) (light-board lawful) (div-mul-add y p.size.w x lt);
  }));
  some = λ j k lj lk on. line-together Rows y (y * p.size.w + j) (y * p.size.w + k) (light-board lawful) (div-mul-add y p.size.w j lj) on;
}

pub column-runs-of : (p : Light) (x : ℕ) → IsLight p → x < p.size.w
    → AreRunsOf p.size (Column x) p.size.h (λ k. k * p.size.w + x) (λ j k. joined_in_column p (j * p.size.w + x) (k * p.size.w + x)) (column_runs_of_column p x)
unfolding crosses planes_have
column-runs-of p x lawful low = record {
  own = λ j k lj lk e. mul-inj (light-board lawful).some (omega arith);
  at_cell = λ bits c on. let u = and_parts _ _ on in (c / p.size.w, in-line p Columns x c (eqb-true _ _ u.0), u.1);
  from_cell = λ bits k lt on. rw (div-mul-add k p.size.w x low, place-column p.size.w k x low) (and_from _ _ (eq-eqb x x refl) on);
  values = λ q u k size small lt. rw (size, lt-ltb _ _ small, div-mul-add k p.size.w x low, place-column p.size.w k x low) refl;
  each = all-houses _ (λ y. column_house p (y * p.size.w + x)) p.size.h (λ y _. all-if _ (λ _. record {
    is = (line-kind p Columns (y * p.size.w + x) (light-board lawful)).is_house;
    least_is = refl;
    most_is = refl;
    joins = line-joins Columns x (y * p.size.w + x) (light-board lawful) (place-column p.size.w y x low);
  }));
  some = λ j k lj lk on. line-together Columns x (j * p.size.w + x) (k * p.size.w + x) (light-board lawful) (place-column p.size.w j x low) on;
}

-- ---- the words of the runs along a line
pub row-words : (p : Light) (y : ℕ) (words : List ℕ) {first len : ℕ} → first ≡ y * p.size.w → len ≡ p.size.w → y < p.size.h
    → ((c : ℕ) → c < light_cells p → IsRowRun p c (slice_index words c))
    → (j k : ℕ) → j < len → has_bit (slice_index words (first + j * 1)) k ≡ (ltb k len && joined_in_row p (y * p.size.w + j) (y * p.size.w + k))
row-words p y words e f low are j k lt =
    let inside : j < p.size.w = omega arith in let place : y * p.size.w + j * 1 ≡ y * p.size.w + j = omega arith in
    let cell : y * p.size.w + j < p.size.w * p.size.h = place-in p.size.w p.size.h y j low inside in
    rw (e, f, place) (are (y * p.size.w + j) cell k ∙ rw (div-mul-add y p.size.w j inside) refl)

pub column-words : (p : Light) {x : ℕ} (words : List ℕ) {first stride len : ℕ} → first ≡ x → stride ≡ p.size.w → len ≡ p.size.h → x < p.size.w
    → ((c : ℕ) → c < light_cells p → IsColumnRun p c (slice_index words c))
    → (j k : ℕ) → j < len → has_bit (slice_index words (first + j * stride)) k ≡ (ltb k len && joined_in_column p (j * p.size.w + x) (k * p.size.w + x))
column-words p {x} words e f h low are j k lt = grind (arith, common_steps, place-in, place-column)

-- The runs of Light Up line by line are all its runs.

-- ---- row by row
pub row-runs-are : (p : Light) → houses_below (row_runs_of_row p) p.size.h ≡ houses_below (row_house p) (light_cells p)
row-runs-are p = below-rows (row_house p) p.size.w p.size.h
    ∙ ap (houses_below (row_house p)) (let e : p.size.h * p.size.w ≡ p.size.w * p.size.h = omega arith in e)

-- ---- column by column
columns-same : (p : Light) → 0 < p.size.w → AreSameHouses (houses_below (column_runs_of_column p) p.size.w) (houses_below (column_house p) (light_cells p))
columns-same p pos test =
    any-houses test (column_runs_of_column p) p.size.w
    ∙ same-truth _ _ to back
    ∙ sym (any-houses test (column_house p) (light_cells p))
  where
    to : any_below (λ x. list_any test (column_runs_of_column p x)) p.size.w ≡ true
        → any_below (λ c. list_any test (column_house p c)) (light_cells p) ≡ true
    to on =
        let x = any_below-some (λ x. list_any test (column_runs_of_column p x)) p.size.w on in
        let y = any_below-some (λ y. list_any test (column_house p (y * p.size.w + x.0))) p.size.h
        (sym (any-houses test (λ y. column_house p (y * p.size.w + x.0)) p.size.h) ∙ x.2) in
        any_below-here (λ c. list_any test (column_house p c)) (light_cells p) (y.0 * p.size.w + x.0)
        (place-in p.size.w p.size.h y.0 x.0 y.1 x.1) y.2

    back : any_below (λ c. list_any test (column_house p c)) (light_cells p) ≡ true
        → any_below (λ x. list_any test (column_runs_of_column p x)) p.size.w ≡ true
    back on =
        let c = any_below-some (λ c. list_any test (column_house p c)) (light_cells p) on in
        let less = c.1 in let whole : c.0 / p.size.w * p.size.w + c.0 % p.size.w ≡ c.0 = omega arith in
        let low : c.0 / p.size.w < p.size.h = (div-lt_iff_lt-mul pos).1 (omega arith) in
        any_below-here (λ x. list_any test (column_runs_of_column p x)) p.size.w (c.0 % p.size.w) (mod-lt c.0 pos)
        (any-houses test (λ y. column_house p (y * p.size.w + c.0 % p.size.w)) p.size.h
        ∙ any_below-here (λ y. list_any test (column_house p (y * p.size.w + c.0 % p.size.w))) p.size.h (c.0 / p.size.w) low (rw whole c.2))

column-single : {p : Light} (c : ℕ) → IsLightBoard p → AllByRecursion (IsSingle (light_cells p)) (column_house p c)
column-single {p} c board = all-if _ (λ _. record { is = (line-kind p Columns c board).is_house; least_is = refl; most_is = refl })

-- visits of the runs of each column are visits of all runs of columns
pub column-runs-visited : {p : Light} {from to : Layers} {fills : Bool} → IsLight p → from.size ≡ p.size → ArePlanesAlive from
    → AreVisited (houses_below (column_runs_of_column p) p.size.w) from to fills
    → AreVisited (houses_below (column_house p) (light_cells p)) from to fills
column-runs-visited {p} {from} {to} {fills} lawful size alive visited =
    let board = light-board lawful in
    visited-any-order (houses_below (column_runs_of_column p) p.size.w) (houses_below (column_house p) (light_cells p)) from to fills alive
    (rw size (all-houses (IsSingle (light_cells p)) (column_runs_of_column p) p.size.w
    (λ x _. all-houses (IsSingle (light_cells p)) (λ y. column_house p (y * p.size.w + x)) p.size.h (λ y _. column-single (y * p.size.w + x) board))))
    (rw size (all-houses (IsSingle (light_cells p)) (column_house p) (light_cells p) (λ c _. column-single c board)))
    (columns-same p board.some) visited

-- ---- the runs of a line
module _ (p : Light) {line : Line} {n : ℕ} {cell : ℕ → ℕ} {joined : ℕ → ℕ → Bool} {houses : List CountHouse} (are : AreRunsOf p.size line n cell joined houses) where
  pub line-single : AllByRecursion (IsSingle (light_cells p)) houses
  line-single = each-more (IsRunOf (light_cells p) n cell joined) (IsSingle (light_cells p)) houses
      (λ house of. record { is = of.is; least_is = of.least_is; most_is = of.most_is }) are.each

  -- what takes nothing still takes nothing, where no cell of the line planes_have lost 0
  pub line-kept : {K L : Candidates} → IsBinaryAlive (light_cells p) K → IsBinaryAlive (light_cells p) L → IsInside L K
      → ((k : ℕ) → k < n → L (cell k) 0 ≡ K (cell k) 0) → AreIdle houses K → AreIdle houses L
  line-kept {K} {L} full still inside zeros = singles-kept (light_cells p) houses K L line-single full still inside (λ c on.
      let w = some-of (IsRunOf (light_cells p) n cell joined) (λ house. has_place house.places c) houses are.each on in
      let v = w.1.joins c c w.2 w.2 in subst (λ d. L d 0 ≡ K d 0) v.4 (zeros v.0 v.2))
