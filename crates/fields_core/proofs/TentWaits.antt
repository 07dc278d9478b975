-- Tents on planes: what waits, and what a closing asks.
use Rattle.fields_core.proofs.Common.{AllByRecursion, AreBare, AreIdle, AreLinesOf, ArePlanes, ArePlanesAlive, AreTentsRested, AreTentsWoken, AreTentsWritten, AreVisited, Bool, Candidates, Columns, CountHouse, HasBoard, IsClosed, IsClosedAround, IsClosedBut, IsFieldOf, IsFurther, IsHouse, IsInside, IsLostIn, IsSweep, IsTents, Layers, List, Option, Rows, Some, Squares, Tents, Touched, Trees, TentWaits, [], all_of, all_of_kind, and_parts, ap, append_assoc, arith, back_at, cases_Bool, cases_eq, plane_cells, column_of_tents, column_places, common_steps, eqb, eqb-true, exactly, false, false_from_ne_true, free_beside, get_or, get_or-append_right, planes_have, has_bit, houses_below, inl, inr, is_barred, kind_houses, kind_lines, length, length-append, lt-ltb, ltb, ltb-true, map, needs_of, no_count_house, not, one_at_least, one_at_most, or_cases, or_left, or_parts, place-filter, place-in, refl, row_of_tents, row_places, slice_index, solves_tents, square_house, squares_of_row, start_of, suc, sym, tent_cells, tent_counts, tent_houses, tent_rules, tree, tree_house, trees_of_row, true, true≢false, waits_of, zero, ℕ, ◌%◌, ◌&&◌, ◌*◌, ◌++◌, ◌+◌, ◌-◌, ◌/◌, ◌<◌, ◌∙◌, ◌∷◌, ◌≡◌, ◌≤◌, ◌⊎◌}
use Rattle.fields_core.specs.declared.planes.tents.waits.Kind.{Kind}
use Rattle.fields_core.proofs.HouseOrder.{IsSingle, single-keeps, singles-kept}
use Rattle.fields_core.proofs.VisitLemmas.{IsBinaryAlive}
use Rattle.fields_core.proofs.IdleLemmas.{AreLinesPassed, AreQuiet, IsPartOf, KeepsIdle, any-below, any-none, any-one, closed-idle, idle-far, in-back, in-below, in-front, keeps-apart, keeps-itself, passed-first}
use Rattle.fields_core.proofs.AtLeastLemmas.{IsAll, all-keeps, alls-kept}
use Rattle.fields_core.proofs.PartLemmas.{value-in}
use Rattle.fields_core.proofs.TentCounting.{column-is, row-is, square-is, square_places, tent-field, tree-is}
use Rattle.fields_core.proofs.TentSquareVisits.{square-has, squares-are}
use Rattle.fields_core.proofs.BesideLemmas.{cell-parts, step-lies, steps-some}
use Rattle.fields_core.proofs.TentTreeBoards.{trees-are}
use Rattle.fields_core.proofs.HouseLemmas.{all-houses, all-if, column-long, row-long}
use Rattle.fields_core.proofs.PlaneSweeps.{around-inside, around-lost, back-whole, cells-alive, full-around, full-before, spread-off, value-kept, visits-swept}
unfoldable use Rattle.fields_core.proofs.IdleLemmas.{any_has}
use Rattle.engine_core.proofs.JudgeLemmas.{scope_le-longest}
use Rattle.fields_core.specs.declared.planes.tents.tent_notes.TentNotes.{TentNotes}
use Rattle.fields_core.proofs.CellLemmas.{first-off, place-on}

-- What waits of Tents: where its houses lie, what stays idle while others of a kind are visited, and what is idle where a closing begins.

-- ---- where houses lie
module _ (p : Tents) (c : ℕ) (pos : 0 < p.size.w) where
  pub column-lies : {x : ℕ} → x < p.size.w → any_has (column_of_tents p x) c ≡ true → c % p.size.w ≡ x
  column-lies {x} lt on = let w = place-on (λ y. y * p.size.w + x) p.size.h c (any-one _ c on) in (cell-parts w.0 c lt (sym w.2)).1

  pub row-lies : {y : ℕ} → any_has (row_of_tents p y) c ≡ true → c / p.size.w ≡ y
  row-lies {y} on = let w = place-on (λ x. y * p.size.w + x) p.size.w c (any-one _ c on) in (cell-parts y c w.1 (sym w.2)).0

  trees-lie : {y : ℕ} → any_has (trees_of_row p y) c ≡ true
      → (c / p.size.w ≡ y) ⊎ ((c / p.size.w + 1 ≡ y) ⊎ (c / p.size.w ≡ y + 1))
  trees-lie {y} on =
      let w = any-below (λ x. tree_house p (y * p.size.w + x)) p.size.w c on in
      by w.0 w.1 (cases_Bool (tree p (y * p.size.w + w.0))) w.2
    where
      by : (x : ℕ) → x < p.size.w → (tree p (y * p.size.w + x) ≡ true) ⊎ (tree p (y * p.size.w + x) ≡ false)
          → any_has (tree_house p (y * p.size.w + x)) c ≡ true → (c / p.size.w ≡ y) ⊎ ((c / p.size.w + 1 ≡ y) ⊎ (c / p.size.w ≡ y + 1))
      by x lt (inr off) here = absurd (true≢false (sym (rw off at here) ∙ any-none c))
      by x lt (inl is) here =
          let there = any-one (one_at_least (free_beside p (y * p.size.w + x))) c (rw is at here) in
          let s = steps-some p.size (y * p.size.w + x) 4 c (place-filter (λ d. not (tree p d)) _ c there).0 in
          step-lies p.size c pos y x s.0 lt s.1 s.2

  squares-lie : {y : ℕ} → any_has (squares_of_row p y) c ≡ true → (c / p.size.w ≡ y) ⊎ (c / p.size.w ≡ y + 1)
  squares-lie {y} on =
      let w = any-below (λ x. square_house p (y * p.size.w + x)) p.size.w c on in
      by w.0 w.1 (cases_Bool (ltb ((y * p.size.w + w.0) % p.size.w + 1) p.size.w && ltb ((y * p.size.w + w.0) / p.size.w + 1) p.size.h)) w.2
    where
      by : (x : ℕ) → x < p.size.w → ((ltb ((y * p.size.w + x) % p.size.w + 1) p.size.w && ltb ((y * p.size.w + x) / p.size.w + 1) p.size.h) ≡ true)
          ⊎ ((ltb ((y * p.size.w + x) % p.size.w + 1) p.size.w && ltb ((y * p.size.w + x) / p.size.w + 1) p.size.h) ≡ false)
          → any_has (square_house p (y * p.size.w + x)) c ≡ true → (c / p.size.w ≡ y) ⊎ (c / p.size.w ≡ y + 1)
      by x lt (inr off) here = absurd (true≢false (sym (rw off at here) ∙ any-none c))
      by x lt (inl is) here =
          let own = (cell-parts y (y * p.size.w + x) lt refl).1 in
          let less : (y * p.size.w + x) % p.size.w + 1 < p.size.w = ltb-true _ _ (and_parts _ _ is).0 in
          let wide : x + 1 < p.size.w = rw own at less in
          let one = any-one (one_at_most (square_places p.size.w (y * p.size.w + x))) c (rw is at here) in
          let there = sym (square-has y x c wide) ∙ one in
          elim (or_cases _ _ (and_parts _ _ there).0) [
            | inl upper ↦ inl (eqb-true _ _ upper)
            | inr lower ↦ inr (eqb-true _ _ lower)
          ]

-- ---- a cell in lines that have changed, and what does not wait
-- a loss of the value can bind houses of the kind
abbrev pub minds : Kind → ℕ → Bool
minds Columns v = true
minds Rows v = true
minds Trees v = eqb v 1
minds Squares v = eqb v 0

-- where houses that mind the value do not wait, none of them has the cell
abbrev pub AreOff : {W : Type 0} → (W → ℕ) → Tents → TentWaits W → ℕ → ℕ → Type 0
AreOff bits p now v c = (kind : Kind) (k : ℕ) → k < kind_lines p kind → has_bit (waits_of bits now kind) k ≡ false → minds kind v ≡ true
    → any_has (kind_houses p kind k) c ≡ false

abbrev pub lines_of : {W : Type 0} → Touched W → Touched W → ℕ → Touched W
lines_of zeros ones zero = zeros
lines_of zeros ones (suc v) = ones

module _ {W : Type 0} (bits : W → ℕ) {room : ℕ} (p : Tents) {before now : TentWaits W} {zeros ones : Touched W}
    (pos : 0 < p.size.w) (low : p.size.h ≤ room) (woken : AreTentsWoken bits room before zeros ones now) where
  pub woken-off : {v : ℕ} (c : ℕ) → v < 2 → AreLinesOf bits (lines_of zeros ones v) (c / p.size.w) (c % p.size.w) → AreOff bits p now v c
  woken-off {v} c small on kind k lt off mind = false_from_ne_true _ (by v small kind on lt off mind)
    where
      square : AreLinesOf bits zeros (c / p.size.w) (c % p.size.w) → has_bit (bits now.squares) k ≡ false
          → (c / p.size.w ≡ k) ⊎ (c / p.size.w ≡ k + 1) → ⊥
      square on off (inl own) = true≢false (rw own at (sym on.1) ∙ (or_parts _ _ (or_parts _ _ (sym (woken.squares k) ∙ off)).1).0)
      square on off (inr below) = true≢false (rw below at (sym on.1) ∙ (or_parts _ _ (or_parts _ _ (sym (woken.squares k) ∙ off)).1).1)

      by : (v : ℕ) → v < 2 → (kind : Kind) → AreLinesOf bits (lines_of zeros ones v) (c / p.size.w) (c % p.size.w) → k < kind_lines p kind
          → has_bit (waits_of bits now kind) k ≡ false → minds kind v ≡ true → any_has (kind_houses p kind k) c ≡ true → ⊥
      by zero small Columns on lt off mind has =
          true≢false (rw (column-lies p c pos lt has) at (sym on.0) ∙ (or_parts _ _ (or_parts _ _ (sym (woken.columns k) ∙ off)).1).0)
      by zero small Rows on lt off mind has = true≢false (rw (row-lies p c pos has) at (sym on.1) ∙ (or_parts _ _ (or_parts _ _ (sym (woken.rows k) ∙ off)).1).0)
      by zero small Trees on lt off mind has = true≢false (sym mind)
      by zero small Squares on lt off mind has = square on off (squares-lie p c pos has)
      by (suc zero) small Columns on lt off mind has =
          true≢false (rw (column-lies p c pos lt has) at (sym on.0) ∙ (or_parts _ _ (or_parts _ _ (sym (woken.columns k) ∙ off)).1).1)
      by (suc zero) small Rows on lt off mind has = true≢false (rw (row-lies p c pos has) at (sym on.1) ∙ (or_parts _ _ (or_parts _ _ (sym (woken.rows k) ∙ off)).1).1)
      by (suc zero) small Trees on lt off mind has = spread-off bits before.trees (has_bit (bits ones.rows)) now.trees woken.trees on.1 (omega (arith, lt, low)) off (trees-lie p c pos has)
      by (suc zero) small Squares on lt off mind has = true≢false (sym mind)
      by (suc (suc v)) small kind on lt off mind has = absurd (omega arith)

  -- what does not wait did not wait before
  waited : (kind : Kind) (k : ℕ) → has_bit (waits_of bits now kind) k ≡ false → has_bit (waits_of bits before kind) k ≡ false
  waited Columns k off = (or_parts _ _ (sym (woken.columns k) ∙ off)).0
  waited Rows k off = (or_parts _ _ (sym (woken.rows k) ∙ off)).0
  waited Trees k off = (or_parts _ _ (sym (woken.trees k) ∙ off)).0
  waited Squares k off = (or_parts _ _ (sym (woken.squares k) ∙ off)).0

-- ---- the houses of trees and squares
pub trees-each : {p : Tents} {y : ℕ} → IsTents p → y < p.size.h → AllByRecursion (IsAll (tent_cells p)) (trees_of_row p y)
trees-each {p} {y} lawful lt = all-houses (IsAll (tent_cells p)) (λ x. tree_house p (y * p.size.w + x)) p.size.w
    (λ x less. all-if _ (λ is. record { is = tree-is p lawful (place-in p.size.w p.size.h y x lt less) is; same = refl }))

pub squares-each : {p : Tents} {y : ℕ} → IsTents p → y < p.size.h → AllByRecursion (IsSingle (tent_cells p)) (squares_of_row p y)
squares-each {p} {y} lawful lt = all-houses (IsSingle (tent_cells p)) (λ x. square_house p (y * p.size.w + x)) p.size.w (λ x less. all-if _ (λ is.
    let both = and_parts _ _ is in
    record {
      is = square-is p lawful (place-in p.size.w p.size.h y x lt less) (ltb-true _ _ both.0) (ltb-true _ _ both.1);
      least_is = refl;
      most_is = refl;
    }))

-- what does not wait on a board stays idle once cells of these lines have lost values
pub rested-board : {W : Type 0} {bits : W → ℕ} {room : ℕ} {p : Tents} {before now : TentWaits W} {zeros ones : Touched W} {K L : Candidates}
    → IsTents p → p.size.h ≤ room → AreTentsWoken bits room before zeros ones now → IsBinaryAlive (tent_cells p) K → IsBinaryAlive (tent_cells p) L → IsInside L K
    → IsLostIn bits p.size.w 0 K L zeros → IsLostIn bits p.size.w 1 K L ones → AreTentsRested bits p before K → AreTentsRested bits p now L
unfolding any_has
rested-board {bits} {room} {p} {before} {now} {zeros} {ones} {K} {L} lawful low woken full still inside lost_zero lost_one rested kind k lt off =
    by kind lt off (rested kind k lt (waited bits p pos low woken kind k off))
  where
    pos : 0 < p.size.w
    pos = (tent-field lawful).some

    lines : (v c : ℕ) → v < 2 → K c v ≡ true → L c v ≡ false → AreLinesOf bits (lines_of zeros ones v) (c / p.size.w) (c % p.size.w)
    lines zero c small on gone = lost_zero c on gone
    lines (suc zero) c small on gone = lost_one c on gone
    lines (suc (suc v)) c small on gone = absurd (omega arith)

    far : (kind : Kind) (c v : ℕ) → k < kind_lines p kind → has_bit (waits_of bits now kind) k ≡ false → minds kind v ≡ true
        → K c v ≡ true → L c v ≡ false → any_has (kind_houses p kind k) c ≡ false
    far kind c v lt off mind on gone =
        let small = full.low c v on in woken-off bits p pos low woken c small (lines v c small on gone) kind k lt off mind

    kept : (kind : Kind) (v c : ℕ) → k < kind_lines p kind → has_bit (waits_of bits now kind) k ≡ false → minds kind v ≡ true
        → any_has (kind_houses p kind k) c ≡ true → L c v ≡ K c v
    kept kind v c lt off mind there = value-kept c v inside (λ on gone. true≢false (sym there ∙ far kind c v lt off mind on gone))

    by : (kind : Kind) → k < kind_lines p kind → has_bit (waits_of bits now kind) k ≡ false → AreIdle (kind_houses p kind k) K → AreIdle (kind_houses p kind k) L
    by Columns lt off idle = idle-far (column_of_tents p k) K L inside (λ c v. far Columns c v lt off refl) idle
    by Rows lt off idle = idle-far (row_of_tents p k) K L inside (λ c v. far Rows c v lt off refl) idle
    by Trees lt off idle = alls-kept (tent_cells p) (trees_of_row p k) K L (trees-each lawful lt) full still inside (λ c. kept Trees 1 c lt off refl) idle
    by Squares lt off idle = singles-kept (tent_cells p) (squares_of_row p k) K L (squares-each lawful lt) full still inside (λ c. kept Squares 0 c lt off refl) idle

pub rested-woken : {W : Type 0} {bits : W → ℕ} {room : ℕ} {p : Tents} {before now : TentWaits W} {zeros ones : Touched W} {from to : Layers} {len : ℕ}
    → ArePlanes room to → IsLostIn bits to.size.w 0 (back_at to len) (planes_have to) zeros → IsLostIn bits to.size.w 1 (back_at to len) (planes_have to) ones
    → AreTentsWoken bits room before zeros ones now → IsTents p → from.size ≡ p.size → from.len ≡ len → ArePlanesAlive from → ArePlanesAlive to → IsFurther from to
    → AreTentsRested bits p before (planes_have from) → AreTentsRested bits p now (planes_have to)
rested-woken {room} {p} {zeros} {ones} {from} {to} {len} are lost_zeros lost_ones woken lawful size is alive after further =
    rested-board lawful (rw (← same) are.low) woken
    (record { low = value-in from; some = λ c lt. alive c (rw size lt) }) (record { low = value-in to; some = λ c lt. after c (rw same lt) }) further.inside
    (λ c on gone. rw same at (lost_zeros c (rw (back-whole is further) on) gone)) (λ c on gone. rw same at (lost_ones c (rw (back-whole is further) on) gone))
  where
    same : to.size ≡ p.size
    same = further.same_size ∙ size

-- ---- a board that is closed but around a cell
-- the houses of a kind at a line are among all
part-kind : (p : Tents) (kind : Kind) (k : ℕ) → k < kind_lines p kind → IsPartOf (kind_houses p kind k) (tent_houses p)
unfolding tent_houses
part-kind p Columns k lt = in-front _ _ _ (in-below (column_of_tents p) lt)
part-kind p Rows k lt = in-back (houses_below (column_of_tents p) p.size.w) (in-front _ _ _ (in-below (row_of_tents p) lt))
part-kind p Trees k lt = in-back (houses_below (column_of_tents p) p.size.w) (in-back (houses_below (row_of_tents p) p.size.h)
    (in-front _ _ _ (rw (trees-are p) at (in-below (trees_of_row p) lt))))
part-kind p Squares k lt = in-back (houses_below (column_of_tents p) p.size.w) (in-back (houses_below (row_of_tents p) p.size.h)
    (in-back {part = _} (houses_below (tree_house p) (tent_cells p)) {back = _} (rw (squares-are p) at (in-below (squares_of_row p) lt))))

-- all houses of a closed board are idle
closed-rested : {W : Type 0} (bits : W → ℕ) (p : Tents) (none : TentWaits W) (K : Candidates) → IsClosed (tent_rules p) K → AreTentsRested bits p none K
closed-rested bits p none K closed kind k lt off =
    closed-idle (tent_cells p) (is_barred p) (tent_houses p) (solves_tents p) K closed (part-kind p kind k lt)

-- a closing begins at a cell, which has lost a value
pub rested-at : {W : Type 0} {bits : W → ℕ} {room : ℕ} {p : Tents} {planes : Layers} {place : ℕ} {none now : TentWaits W} {zeros ones : Touched W}
    → IsTents p → ArePlanes room planes → planes.size ≡ p.size → IsClosedAround (tent_rules p) (planes_have planes) place
    → (planes_have planes place 0 ≡ false → AreLinesOf bits zeros (place / p.size.w) (place % p.size.w))
    → (planes_have planes place 1 ≡ false → AreLinesOf bits ones (place / p.size.w) (place % p.size.w))
    → AreTentsWoken bits room none zeros ones now → AreTentsRested bits p now (planes_have planes)
rested-at {bits} {p} {planes} {place} {none} {now} {zeros} {ones} lawful are size around no_zero no_one woken =
    rested-board lawful (rw (← size) are.low) woken (full-before (tent_counts p) around) (full-around (tent_counts p) around)
    (around-inside (tent_counts p) around) (around-lost (tent_counts p) around bits p.size.w 0 zeros no_zero) (around-lost (tent_counts p) around bits p.size.w 1 ones no_one)
    (closed-rested bits p none around.before around.closed)

pub place-in_planes : (p : Tents) (planes : Layers) {from : Option ℕ} {place : ℕ}
    → planes.size ≡ p.size → from ≡ Some place → IsClosedBut (tent_rules p) (planes_have planes) from → place < plane_cells planes
place-in_planes p planes {from} {place} size is closed = grind (arith, common_steps)

-- ---- the houses of a kind
abbrev tent_column : Tents → ℕ → CountHouse
tent_column p x = exactly (slice_index p.counts x) (column_places p.size x)

abbrev tent_row : Tents → ℕ → CountHouse
tent_row p y = exactly (slice_index p.counts (p.size.w + y)) (row_places p.size y)

abbrev IsOfKind : Tents → Kind → CountHouse → Type 0
IsOfKind p Columns house = (x : ℕ) × (x < p.size.w) × (house ≡ tent_column p x)
IsOfKind p Rows house = (y : ℕ) × (y < p.size.h) × (house ≡ tent_row p y)
IsOfKind p Trees house = IsAll (tent_cells p) house
IsOfKind p Squares house = IsSingle (tent_cells p) house

module _ (p : Tents) (lawful : IsTents p) where
  kind-is : (kind : Kind) (house : CountHouse) → IsOfKind p kind house → IsHouse (tent_cells p) house
  kind-is Columns house is = rw is.2 (column-is p lawful is.1)
  kind-is Rows house is = rw is.2 (row-is p lawful is.1)
  kind-is Trees house is = rw is.same is.is
  kind-is Squares house is = is.is

  pub kind-each : (kind : Kind) (k : ℕ) → k < kind_lines p kind → AllByRecursion (IsOfKind p kind) (kind_houses p kind k)
  kind-each Columns k lt = ((k, lt, refl), tt)
  kind-each Rows k lt = ((k, lt, refl), tt)
  kind-each Trees k lt = trees-each lawful lt
  kind-each Squares k lt = squares-each lawful lt

  kind-keeps : (kind : Kind) (visited house : CountHouse) → IsOfKind p kind visited → IsOfKind p kind house → KeepsIdle (tent_cells p) visited house
  unfolding any_has
  kind-keeps Columns visited house is other = rw (is.2, other.2) (elim (cases_eq is.0 other.0) [
    | inl same ↦ rw same (keeps-itself (tent_cells p) (tent_column p other.0))
    | inr ne ↦ keeps-apart (tent_cells p) (tent_column p is.0) (tent_column p other.0)
        (λ c on. false_from_ne_true _ (λ also. ne
        (sym (column-lies p c (tent-field lawful).some is.1 (or_left _ _ on)) ∙ column-lies p c (tent-field lawful).some other.1 (or_left _ _ also))))
  ])
  kind-keeps Rows visited house is other = rw (is.2, other.2) (elim (cases_eq is.0 other.0) [
    | inl same ↦ rw same (keeps-itself (tent_cells p) (tent_row p other.0))
    | inr ne ↦ keeps-apart (tent_cells p) (tent_row p is.0) (tent_row p other.0)
        (λ c on. false_from_ne_true _ (λ also. ne
        (sym (row-lies p c (tent-field lawful).some (or_left _ _ on)) ∙ row-lies p c (tent-field lawful).some (or_left _ _ also))))
  ])
  kind-keeps Trees visited house is other = all-keeps (tent_cells p) visited house is other
  kind-keeps Squares visited house is other = single-keeps (tent_cells p) visited house is other

  pub kind-quiet : (kind : Kind) → AreQuiet (tent_cells p) (IsOfKind p kind)
  kind-quiet kind = record { different = λ house is. (kind-is kind house is).different; keeps = kind-keeps kind }

-- planes stay those of a puzzle while they lose values
pub field-further : {room : ℕ} {p : Tents} {from to : Layers} {words : List ℕ} → IsFieldOf room p from words → IsFurther from to → ArePlanesAlive to
    → IsFieldOf room p to words
field-further field further alive = grind (arith, common_steps, false_from_ne_true)

-- ---- visits of the lines of a kind that wait
pub kind-first : {W : Type 0} (bits : W → ℕ) (p : Tents) (kind : Kind) (waits : TentWaits W) {left : ℕ → Bool} {from : Layers} → ArePlanesAlive from
    → AreTentsRested bits p waits (planes_have from) → ((k : ℕ) → left k ≡ (has_bit (waits_of bits waits kind) k && ltb k (kind_lines p kind)))
    → AreLinesPassed (kind_houses p kind) (kind_lines p kind) left from from
kind-first bits p kind waits alive rested is = grind (arith, common_steps, passed-first, ltb-true, and_parts, first-off, lt-ltb)

-- Tents on planes: the sides that the memory is for, and what a closing asks of planes.

-- ---- the sides that the memory is for
abbrev singles : (ℕ → CountHouse) → ℕ → List CountHouse
singles f = λ k. f k ∷ []

singles-long : (f : ℕ → CountHouse) (n : ℕ) → length (houses_below (singles f) n) ≡ n
unfolding houses_below
singles-long f zero = refl
singles-long f (suc n) = omega (arith, length-append (houses_below (singles f) n) (f n ∷ []), singles-long f n)

first-of : (f : ℕ → CountHouse) (n : ℕ) (rest : List CountHouse) → 0 < n → get_or (houses_below (singles f) n ++ rest) 0 no_count_house ≡ f 0
unfolding houses_below
first-of f zero rest pos = absurd (omega arith)
first-of f (suc zero) rest pos = refl
first-of f (suc (suc n)) rest pos = rw (append_assoc (houses_below (singles f) (suc n)) (f (suc n) ∷ []) rest) (first-of f (suc n) (f (suc n) ∷ rest) (omega arith))

pub sides-fit : (p : Tents) → 0 < p.size.w → 0 < p.size.h → (p.size.w ≤ (needs_of (tent_rules p)).scope) × (p.size.h ≤ (needs_of (tent_rules p)).scope)
unfolding tent_houses
sides-fit p wide high =
    let columns = houses_below (column_of_tents p) p.size.w in let rows = houses_below (row_of_tents p) p.size.h in
    let rest = houses_below (tree_house p) (tent_cells p) ++ houses_below (square_house p) (tent_cells p) in
    let long : length columns ≡ p.size.w = singles-long _ p.size.w in
    let long' : length rows ≡ p.size.h = singles-long _ p.size.h in
    let all : p.size.w < length (tent_houses p) =
    omega (arith, length-append columns (rows ++ rest), length-append rows rest, long, long') in
    let long_of : CountHouse → ℕ = λ house. length house.places in let none : p.size.w - p.size.w ≡ 0 = omega arith in
    let column = ap long_of (first-of (λ x. exactly (slice_index p.counts x) (column_places p.size x)) p.size.w (rows ++ rest) wide) ∙ column-long p.size 0 in
    let row = ap long_of
    (rw none at (get_or-append_right columns (rows ++ rest) p.size.w p.size.w no_count_house long (omega arith))
    ∙ first-of (λ y. exactly (slice_index p.counts (p.size.w + y)) (row_places p.size y)) p.size.h rest high) ∙ row-long p.size 0 in (
      rw row at (scope_le-longest (tent_rules p).scope (length (tent_houses p)) p.size.w all),
      rw column at (scope_le-longest (tent_rules p).scope (length (tent_houses p)) 0 (omega arith)),
    )

-- no cell with a tree can have a tent on a board inside the start
bare-inside : (p : Tents) {K : Candidates} → IsInside K (tent_rules p).start → AreBare p K
unfolding start_of is_barred
bare-inside p {K} inside c is = false_from_ne_true _ (λ on. true≢false (sym (inside c 1 on) ∙ rw is (grind (arith, common_steps, cases_Bool (all_of (tent_cells p) 2 c 1)))))

-- what a closing asks of planes
pub field-of : {W : Type 0} {bits : W → ℕ} {room : ℕ} {p : Tents} {notes : TentNotes W} {planes : Layers} → AreTentsWritten bits p notes
    → HasBoard (tent_rules p) p.size room planes → IsFieldOf room p planes (map bits notes.trees.items)
field-of {p = p} {planes = planes} written has_board = record {
  lawful = written.lawful;
  narrow = has_board.suited.0;
  low = has_board.suited.1;
  size = has_board.same_size;
  trees = written.trees;
  bare = bare-inside p has_board.board.inside;
  alive = cells-alive planes has_board.cells has_board.board.alive;
}

-- ---- sweeps of the houses
pub houses-swept : (p : Tents) {from to : Layers} {fills : Bool} → from.size ≡ p.size
    → AreVisited (all_of_kind p Columns ++ (all_of_kind p Rows ++ (all_of_kind p Trees ++ all_of_kind p Squares))) from to fills
    → IsSweep (tent_rules p) from to fills
unfolding tent_houses
houses-swept p {from} {to} {fills} size visited =
    let all : AreVisited (tent_houses p) from to fills = rw (trees-are p, squares-are p) at visited in
    visits-swept (tent_cells p) (is_barred p) (tent_houses p) (solves_tents p) (rw size refl) all
