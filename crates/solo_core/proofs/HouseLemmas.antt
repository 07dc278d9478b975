-- Houses and crossings: their places, how they decide, and the start.
use Rattle.solo_core.proofs.Common.{All, Block, Bool, Candidates, Column, Decision, Diagonal, FitsPlaces, House, IsDecided, IsSolo, IsSound, List, Listed, NamedHouse, Row, Solo, [], add-zero, all_below-from, all_houses, all_of, all_places, and_from, and_parts, ap, append-nil, append_assoc, arith, block-within, by_fillings-met, cases_Bool, common_steps, count_plain, count_x, crossing_scopes, crossings_of, deciding, div-mul-add, eqb, ext_get_or, false, filled_houses, fun_ext, get_or, get_or-append_right, get_or-map, get_or-map-range_with_len, get_or_append_left, given_stands, visited_house, house_by, house_count, house_of, house_places, houses_of, houses_rules, if◌then◌else◌, is_solo_solution, kept-decided, length, length-append, length-map, length-map-range_with_len, listed-different, listed-within, lists_house, ltb, map, map-append, map-map, map-range_with_len_more, mod-mul-add, mul-le, mul-le-mul_right, nat_tests, no_house, no_repeat, not, numbers_of, only, places_of, range_with_len, refl, solo_rules_of, scopes_of, setting_of, slice_index, solo_cells, solo_n, some_numbers, start, strikes_by_fillings, suc, sym, take, take-length, take_more, true, true≢false, zero, ℕ, ◌%◌, ◌&&◌, ◌*◌, ◌++◌, ◌+◌, ◌-◌, ◌/◌, ◌<◌, ◌||◌, ◌∙◌, ◌∷◌, ◌≡◌, ◌≤◌}
use Rattle.solo_core.specs.Work.{closed_lists}
use Rattle.engine_core.specs.Keeping.{AreSetsOf, IsKept}
use Rattle.solo_core.specs.declared.houses.visit.VisitName.{VisitName}
use Rattle.solo_core.specs.declared.houses.visit.VisitName.TheVariants as scope
use Rattle.grid_core.proofs.GridLemmas.{single-at}
use Rattle.engine_core.specs.PlaceLaws.{each_test}
use Rattle.engine_core.specs.RuleSystem.{IsClosedGrid}
use Rattle.grid_core.specs.Board.{Layout, has}

-- Houses that decide alike.
pub length-deciding : (decides : Decision) (p : Solo) → length (deciding decides p) ≡ length (houses_of p)
length-deciding decides p = length-map _ (house_by decides p)

module _ (decides : Decision) (p : Solo) {h : ℕ} (lt : h < length (deciding decides p)) where
  inside : h < length (houses_of p)
  inside = omega (arith, lt, length-deciding decides p)

  pub deciding-at : house_of (deciding decides p) h ≡ house_by decides p (get_or (houses_of p) h (Row 0))
  deciding-at = get_or-map (house_by decides p) _ h (Row 0) no_house inside

  pub decides-at : decides ≡ (house_of (deciding decides p) h).decides
  decides-at = sym (ap (λ house. house.decides) deciding-at)

  pub long-at : IsSolo p → length (house_of (deciding decides p) h).places ≡ solo_n p
  long-at ok = ap (λ (house : House). length house.places) deciding-at ∙ (lists_house ok (get_or (houses_of p) h (Row 0)) (all_houses p h (Row 0) inside)).len

-- what is kept of the sets of a house, where it is decided, or all of them are kept where nothing may be struck
pub kept-houses : (settled : Bool) (p : Solo) (houses : List House)
    → All (IsSound (setting_of settled p houses)) houses → {h : ℕ} → h < length houses
    → {K : Candidates} {sets kept : List ℕ}
    → AreSetsOf (solo_rules_of settled p houses) h K sets → (struck : Bool)
    → (struck ≡ true → IsDecided (solo_n p) (house_of houses h).decides sets kept)
    → (struck ≡ false → IsDecided (solo_n p) (house_of houses h).decides sets sets)
    → IsKept (solo_rules_of settled p houses) h K struck kept
kept-houses settled p houses sound {h} lt {K} {sets} {kept} are struck decided none = record {
  none = λ off. (is sets (none off) (λ _. refl)).none off;
  bits = λ on. (is kept (decided on) (λ off. absurd (true≢false (sym on ∙ off)))).bits on;
}
  where
    is : (left : List ℕ) → IsDecided (solo_n p) (house_of houses h).decides sets left → (struck ≡ false → left ≡ sets)
        → IsKept (solo_rules_of settled p houses) h K struck left
    is left = kept-decided (solo_rules_of settled p houses) h (house_of houses h).decides K struck sets left (λ L d v. refl) (sound h no_house lt).different are

pub kept-deciding : (settled : Bool) (p : Solo) {decides : Decision} → All (IsSound (setting_of settled p (deciding decides p))) (deciding decides p)
    → {h : ℕ} → h < length (deciding decides p) → (K : Candidates) {sets kept : List ℕ}
    → AreSetsOf (solo_rules_of settled p (deciding decides p)) h K sets → (struck : Bool)
    → (struck ≡ true → IsDecided (solo_n p) decides sets kept)
    → (struck ≡ false → IsDecided (solo_n p) decides sets sets)
    → IsKept (solo_rules_of settled p (deciding decides p)) h K struck kept
kept-deciding settled p {decides} sound lt K are struck decided none =
    kept-houses settled p (deciding decides p) sound lt are struck (rw (decides-at decides p lt) at decided) (rw (decides-at decides p lt) at none)

-- ---- crossings after the houses
pub listed-deciding : (decides : Decision) (p : Solo) {first second : Listed} → first ≡ closed_lists []
    → second ≡ closed_lists (first.closed ++ map (places_of p) (houses_of p)) → second.closed ≡ all_places (deciding decides p)
listed-deciding decides p none e = grind (arith, common_steps, map-map)

pub listed-crossings : (p : Solo) (none first second : Listed) → none ≡ closed_lists []
    → first ≡ closed_lists (none.closed ++ map (places_of p) (houses_of p))
    → second ≡ closed_lists (first.closed ++ all_places (crossings_of p))
    → second.closed ≡ all_places (filled_houses p ++ crossings_of p)
listed-crossings p none first second z a b = grind (arith, common_steps, listed-deciding, map-append)

-- Houses and crossings by their numbers, and lists of their places.

-- ---- a list that begins with the values of a function
module _ {X : Type 0} (f : ℕ → X) {n : ℕ} (rest : List X) {h : ℕ} (d : X) where
  pub part_first : h < n → get_or (map f (range_with_len 0 n) ++ rest) h d ≡ f h
  part_first lt = grind (arith, common_steps, get_or_append_left, length-map-range_with_len, get_or-map-range_with_len)

  pub part_later : n ≤ h → get_or (map f (range_with_len 0 n) ++ rest) h d ≡ get_or rest (h - n) d
  part_later le = get_or-append_right _ rest n h d (length-map-range_with_len f 0 n) le

pub diagonal_at : (x : Bool) (k : ℕ) (d : NamedHouse) → k < (if x then 2 else 0) → get_or (if x then Diagonal 0 ∷ Diagonal 1 ∷ [] else []) k d ≡ Diagonal k
diagonal_at true zero d lt = refl
diagonal_at true (suc zero) d lt = refl
diagonal_at true (suc (suc k)) d lt = absurd (omega arith)
diagonal_at false k d lt = absurd (omega arith)

-- ---- lists of places
pub listed-none : {old : Listed} (all : List (List ℕ)) → old.begun ≡ [] → old ≡ closed_lists (old.closed ++ take 0 all)
listed-none all e = rw (append-nil, ← e) refl

pub listed-more : {old new : Listed} (closed all : List (List ℕ)) (k : ℕ) {places : List ℕ} → k < length all → places ≡ get_or all k []
    → old ≡ closed_lists (closed ++ take k all) → new ≡ closed_lists (old.closed ++ places ∷ [])
    → new ≡ closed_lists (closed ++ take (k + 1) all)
listed-more closed all k lt is was e = e ∙ rw (was, is, take_more all k [] lt, append_assoc) refl

pub listed-all : {list : Listed} (closed all : List (List ℕ)) (k : ℕ) → length all ≡ k
    → list ≡ closed_lists (closed ++ take k all)
    → list ≡ closed_lists (closed ++ all)
listed-all closed all k long was = was ∙ rw (← long, take-length all) refl

-- the houses by their numbers
pub ruleset house_laws =
    (part_first, part_later, diagonal_at, house_count, count_x, count_plain)

-- ---- the crossings by their numbers
module _ {X : Type 0} (first second : ℕ → X) (n m : ℕ) where
  abbrev both : List X
  both = map first (range_with_len 0 n) ++ map second (range_with_len 0 m)

  pub both-length : length both ≡ n + m
  both-length = simp (length-append, length-map-range_with_len)

  pub first-at : (k : ℕ) (d : X) → k < n → first k ≡ get_or both k d
  first-at k d lt = sym (part_first first (map second (range_with_len 0 m)) d lt)

  pub second-at : (k : ℕ) (d : X) → n ≤ k → k - n < m → second (k - n) ≡ get_or both k d
  second-at k d le lt = grind (arith, common_steps, part_later, get_or-map-range_with_len)

module _ (p : Solo) where
  pub scopes-length : length (crossing_scopes p) ≡ solo_n p * p.c + solo_n p * p.r
  scopes-length = both-length _ _ _ (solo_n p * p.r)

  pub crossings-length : length (crossings_of p) ≡ solo_n p * p.c + solo_n p * p.r
  crossings-length = length-map (crossing_scopes p) (visited_house p) ∙ scopes-length

-- ---- houses and then others
pub first_at : (some more : List House) {h : ℕ} → h < length some → house_of some h ≡ house_of (some ++ more) h
first_at some more {h} lt = sym (get_or_append_left some more no_house h lt)

pub later_at : (some more : List House) {h : ℕ} → length some ≤ h → house_of more (h - length some) ≡ house_of (some ++ more) h
later_at some more {h} le = sym (get_or-append_right some more (length some) h no_house refl le)

-- ---- all scopes by their numbers
module _ (p : Solo) where
  pub filled-length : length (filled_houses p) ≡ length (houses_of p)
  filled-length = length-deciding _ p

  abbrev names : List VisitName
  names = map scope.House (houses_of p)

  names-length : length names ≡ length (houses_of p)
  names-length = length-map _ scope.House

  pub all-length : length (scopes_of p) ≡ length (houses_of p) + length (crossing_scopes p)
  all-length = omega (arith, length-append names (crossing_scopes p), names-length)

  pub house-named : (h : ℕ) (d : VisitName) (house : NamedHouse) → h < length (houses_of p)
      → get_or (scopes_of p) h d ≡ scope.House (get_or (houses_of p) h house)
  house-named h d house lt = get_or_append_left names _ d h (omega (arith, names-length)) ∙ get_or-map scope.House _ h house d lt

  pub crossing-after : (h : ℕ) (d : VisitName) → length (houses_of p) ≤ h → get_or (scopes_of p) h d ≡ get_or (crossing_scopes p) (h - length (houses_of p)) d
  crossing-after h d le = get_or-append_right names _ _ h d names-length le

  all-named : map (visited_house p) (scopes_of p) ≡ filled_houses p ++ crossings_of p
  all-named = grind (arith, common_steps, map-append, map-map)

  pub crossings-counted : length (filled_houses p ++ crossings_of p) ≡ length (scopes_of p)
  crossings-counted = ap length (sym all-named) ∙ length-map _ _

  pub scope-named : (h : ℕ) (d : VisitName) → h < length (scopes_of p) → house_of (filled_houses p ++ crossings_of p) h ≡ visited_house p (get_or (scopes_of p) h d)
  scope-named h d lt = ap (λ xs. house_of xs h) (sym all-named) ∙ get_or-map _ _ h d no_house lt

-- The places of the houses, as they are listed one after another.

-- one place more of a house
pub house-more : (old : Listed) {mid new : Listed} (places : List ℕ) (k place : ℕ) → k < length places → place ≡ get_or places k 0
    → mid ≡ record { closed = old.closed; begun = old.begun ++ take k places }
    → new ≡ record { closed = mid.closed; begun = mid.begun ++ place ∷ [] }
    → new ≡ record { closed = old.closed; begun = old.begun ++ take (k + 1) places }
house-more old places k place lt is was e = e ∙ rw (was, is, take_more places k 0 lt, append_assoc) refl

module _ (p : Solo) where
  -- the places of the first houses
  abbrev pub first_listed : ℕ → Listed
  first_listed k = record { closed = take k (house_places p); begun = [] }

  pub few-listed : IsSolo p → length (house_places p) ≤ 95
  few-listed ok = grind (arith, common_steps, length-map, cases_Bool, count_x, count_plain, ok.n_high)

  pub all-listed : (k : ℕ) {list : Listed} → length (houses_of p) ≡ k → list ≡ first_listed k → list ≡ record { closed = house_places p; begun = [] }
  all-listed k long was = was ∙ rw (← (length-map (houses_of p) (places_of p) ∙ long), take-length (house_places p)) refl

  pub house-listed : (k : ℕ) {places : List ℕ} {list mid new : Listed} → k < length (houses_of p)
      → places ≡ get_or (house_places p) k [] → list ≡ first_listed k
      → mid ≡ record { closed = list.closed; begun = list.begun ++ places }
      → new ≡ record { closed = mid.closed ++ mid.begun ∷ []; begun = [] } → new ≡ first_listed (k + 1)
  house-listed k lt is was grown e =
      let long = length-map (houses_of p) (places_of p) in
      e ∙ rw (grown, was, is, take_more (house_places p) k [] (omega arith)) refl

  -- the names by their numbers
  abbrev diagonals : List NamedHouse
  diagonals = if p.x then Diagonal 0 ∷ Diagonal 1 ∷ [] else []

  abbrev blocks : List NamedHouse
  blocks = map Block (range_with_len 0 (solo_n p)) ++ diagonals

  abbrev columns : List NamedHouse
  columns = map Column (range_with_len 0 (solo_n p)) ++ blocks

  column-after : (k : ℕ) (d : NamedHouse) → get_or (houses_of p) (solo_n p + k) d ≡ get_or columns k d
  column-after k d =
      let at : solo_n p + k - solo_n p ≡ k = omega arith in
      part_later Row {n = solo_n p} columns {h = solo_n p + k} d (omega arith) ∙ ap (λ j. get_or columns j d) at

  block-after : (k : ℕ) (d : NamedHouse) → get_or (houses_of p) (2 * solo_n p + k) d ≡ get_or blocks k d
  block-after k d =
      let is : 2 * solo_n p + k ≡ solo_n p + (solo_n p + k) = omega arith in
      let at : solo_n p + k - solo_n p ≡ k = omega arith in
      ap (λ j. get_or (houses_of p) j d) is ∙ column-after (solo_n p + k) d
      ∙ part_later Column {n = solo_n p} blocks {h = solo_n p + k} d (omega arith) ∙ ap (λ j. get_or blocks j d) at

  diagonal-after : (k : ℕ) (d : NamedHouse) → get_or (houses_of p) (3 * solo_n p + k) d ≡ get_or diagonals k d
  diagonal-after k d =
      let is : 3 * solo_n p + k ≡ 2 * solo_n p + (solo_n p + k) = omega arith in
      let at : solo_n p + k - solo_n p ≡ k = omega arith in
      ap (λ j. get_or (houses_of p) j d) is ∙ block-after (solo_n p + k) d
      ∙ part_later Block {n = solo_n p} diagonals {h = solo_n p + k} d (omega arith) ∙ ap (λ j. get_or diagonals j d) at

  pub row-name : (y : ℕ) (d : NamedHouse) → y < solo_n p → get_or (houses_of p) y d ≡ Row y
  row-name y d lt = part_first Row {n = solo_n p} columns {h = y} d lt

  pub column-name : (x : ℕ) (d : NamedHouse) → x < solo_n p → get_or (houses_of p) (solo_n p + x) d ≡ Column x
  column-name x d lt = column-after x d ∙ part_first Column {n = solo_n p} blocks {h = x} d lt

  pub block-name : (b : ℕ) (d : NamedHouse) → b < solo_n p → get_or (houses_of p) (2 * solo_n p + b) d ≡ Block b
  block-name b d lt = block-after b d ∙ part_first Block {n = solo_n p} diagonals {h = b} d lt

  pub diagonal-name : (k : ℕ) (d : NamedHouse) → p.x ≡ true → k < 2 → get_or (houses_of p) (3 * solo_n p + k) d ≡ Diagonal k
  diagonal-name k d is_x lt = diagonal-after k d ∙ diagonal_at p.x k d (rw is_x lt)

  places-at : (house : NamedHouse) (k : ℕ) → k < length (houses_of p) → get_or (houses_of p) k house ≡ house
      → places_of p house ≡ get_or (house_places p) k []
  places-at house k lt is = ap (places_of p) (sym is) ∙ sym (get_or-map _ _ k house [] lt)

  -- and their places
  pub row-listed : (y : ℕ) → y < solo_n p → places_of p (Row y) ≡ get_or (house_places p) y []
  row-listed y lt = places-at (Row y) y (omega (arith, house_count p)) (row-name y (Row y) lt)

  pub column-listed : (x : ℕ) → x < solo_n p → places_of p (Column x) ≡ get_or (house_places p) (solo_n p + x) []
  column-listed x lt = places-at (Column x) (solo_n p + x) (omega (arith, house_count p)) (column-name x (Column x) lt)

  pub block-listed : (b : ℕ) → b < solo_n p → places_of p (Block b) ≡ get_or (house_places p) (2 * solo_n p + b) []
  block-listed b lt = places-at (Block b) (2 * solo_n p + b) (omega (arith, house_count p)) (block-name b (Block b) lt)

  pub diagonal-listed : {h : ℕ} (d : ℕ) → h ≡ 3 * solo_n p + d → p.x ≡ true → d < 2 → places_of p (Diagonal d) ≡ get_or (house_places p) h []
  diagonal-listed d is is_x lt = rw is (places-at (Diagonal d) (3 * solo_n p + d) (omega (arith, count_x p is_x)) (diagonal-name d (Diagonal d) is_x lt))

-- A grid inside the start from which no house strikes anything is a solution.
module _ (p : Solo) (ok : IsSolo p) {g : List ℕ} (grid : IsClosedGrid (houses_rules p) g) where
  given : (place : ℕ) → place < solo_cells p → given_stands p g place ≡ true
  unfolding start
  given place lt =
      let own = grid.inside place (slice_index g place) (single-at g place (omega (arith, grid.fits.each_cell))) in
      (and_parts _ _ (and_parts _ _ own).1).1

  filled : (k : ℕ) (d : NamedHouse) → k < length (houses_of p) → no_repeat (numbers_of p g (get_or (houses_of p) k d)) ≡ true
  filled k d lt =
      let decides = strikes_by_fillings no_repeat in
      let house = get_or (houses_of p) k d in
      let lists = lists_house ok house (all_houses p k d lt) in
      let at = get_or-map (house_by decides p) (houses_of p) k d no_house lt in
      by_fillings-met (solo_n p) (places_of p house) no_repeat g (listed-different lists) (omega (arith, lists.len, some_numbers ok))
      (λ j less. omega (arith, grid.fits.each_cell, listed-within lists j less)) (λ c less. grid.fits.each_value c 0 less)
      (λ c v on. rw at at (grid.closed k c v (omega (arith, length-deciding decides p)) on))

  pub closed-solution : is_solo_solution p g ≡ true
  unfolding is_solo_solution
  closed-solution = and_from _ _ (all_below-from (given_stands p g) (solo_cells p) given)
      (each_test (λ house. no_repeat (numbers_of p g house)) (houses_of p) filled)

-- The start board, written cell by cell.

-- the start as far as the cells before `upto`
pub started : Solo → ℕ → Candidates
started p upto c v =
    ltb c (solo_cells p) && (ltb v (solo_n p) && (not (ltb c upto) || (eqb (slice_index p.givens c) 0 || eqb (v + 1) (slice_index p.givens c))))

pub started-none : (p : Solo) → all_of (solo_cells p) (solo_n p) ≡ started p 0
unfolding started all_of
started-none p = fun_ext λ c. fun_ext λ v. grind (arith, nat_tests)

pub started-all : (p : Solo) (b : Layout) (k : ℕ) → has b ≡ started p k → k ≡ solo_cells p → has b ≡ start p
unfolding started start
started-all p b k e all = e ∙ rw all (fun_ext λ c. fun_ext λ v. grind (arith, nat_tests))

-- a blank cell keeps all
pub started-blank : (p : Solo) (place : ℕ) → slice_index p.givens place ≡ 0 → started p place ≡ started p (place + 1)
unfolding started
started-blank p place blank = fun_ext λ c. fun_ext λ v. grind (arith, nat_tests)

-- a cell with a given keeps it alone
pub started-given : (p : Solo) (place value : ℕ) → value + 1 ≡ slice_index p.givens place → only (started p place) place value ≡ started p (place + 1)
unfolding started only
started-given p place value given = fun_ext λ c. fun_ext λ v. grind (arith, nat_tests)

pub started-there : (p : Solo) (b : Layout) {place value : ℕ} → has b ≡ started p place → place < solo_cells p → value < solo_n p → has b place value ≡ true
unfolding started
started-there p b e lt ltv = rw e (grind (arith, nat_tests))
