-- Tents: pairings, and that a grid without a fault is a solution.
use Rattle.fields_core.proofs.Common.{AllByRecursion, AreDistinct, AreIn, AreRight, Bool, FailsTents, Fills, IsGrid, IsKnown, IsKindMade, IsPairedBy, IsTentFault, IsTentSolution, TestKind, List, NoneFails, Option, Tents, [], all_below, all_below-at, all_below-from, and_from, and_parts, any_below-here, any_below-none, any_below-some, ap, arith, can_be_paired, cases_eq, column_right, common_steps, count_below, counted, different-from, distinct-filter, distinct-from, eq-eqb, eqb-true, false, false_from_ne_true, filter, get_or-map, get_or-map-range_with_len, get_or-range_with_len, has_place, has_place-here, has_value, inl, inr, is_some, known_tests, leaves_none_out, length, length-map, length-range_with_len, length-take, map, may_pair, names_none_twice, none_held, none_tells, not, not-false, not-true, or_cases, or_left, or_parts, or_right, place-filter, place-kept, range_with_len, right_none, row_right, slice_index, solves_tents, steps, subst, sym, take, tent, tent_cells, tent_tests, test_from_filling, touch_right, touches, tree, tree_count, tree_right, trees_beside, trees_of, true, true≢false, ℕ, ◌&&◌, ◌<◌, ◌∙◌, ◌∷◌, ◌≡◌, ◌≤◌}
use Rattle.grid_core.specs.Pairings.{IsPairing, IsShortSet}
use Rattle.grid_core.proofs.PairingLemmas.{no_choice}
use Rattle.fields_core.proofs.PlaceLists.{different-map, distinct-none-twice, each-named, few-below, index-is, index_of, none-twice-from, place-map}
use Rattle.fields_core.proofs.BesideLemmas.{beside-in}
use Rattle.fields_core.proofs.TentLines.{IsPassing, at-passing, passing-at, passing-long, some-wide}
use Rattle.fields_core.proofs.TentCounting.{IsGiven, given, in-range, tent-in, tents-parts, tents_of}
use Rattle.fields_core.specs.declared.tents.fault.TentFault.{TentFault}
use Rattle.fields_core.specs.declared.tents.fault.TentFault.TheVariants.{Column, Match, Row, Touch, Tree}

-- Tents and trees can be paired exactly if there are as many of both and each tent can have a tree of its own: then none is
-- left out. A pairing is a choice of a tree for each tent, which a short set rules out.

-- ---- the tents by place
pub tents-distinct : (p : Tents) (g : List ℕ) → AreDistinct (tents_of p g)
unfolding tents_of
tents-distinct p g = distinct-filter (tent g) _ (grind (arith, common_steps, distinct-from, length-range_with_len, get_or-range_with_len))

pub tent-listed : (p : Tents) (g : List ℕ) (c : ℕ) → length g ≡ tent_cells p → tent g c ≡ true → has_place (tents_of p g) c ≡ true
unfolding tents_of
tent-listed p g c long on = place-kept (tent g) (range_with_len 0 (tent_cells p)) c (in-range (tent-in g c long on)) on

pub listed-tent : (p : Tents) (g : List ℕ) (c : ℕ) → has_place (tents_of p g) c ≡ true → tent g c ≡ true
unfolding tents_of
listed-tent p g c on = (place-filter (tent g) _ c on).1

-- ---- a whole pairing of the cells pairs tents and trees
set-of : (p : Tents) {t : ℕ} (c : ℕ) → t < tent_cells p → tree p c ≡ true → has_place (steps p.size t 4) c ≡ true → has_value (trees_beside p t) c ≡ true
set-of p c inside on beside = grind (arith, common_steps, beside-in, some-wide, get_or-map-range_with_len, and_from)

pub pairs-from : {p : Tents} {g : List ℕ} {tree_of : ℕ → ℕ} → length g ≡ tent_cells p → IsPairedBy p g tree_of → can_be_paired p g ≡ true
unfolding can_be_paired tents_of
pairs-from {p} {g} {tree_of} long is =
    let none_out : leaves_none_out p chosen ≡ true = grind (arith, common_steps, all_below-from, or_right, place-map, tent-listed, or_left) in
    test_from_filling _
    (λ chosen. names_none_twice chosen && leaves_none_out p chosen) chosen fills
    (and_from _ _ twice none_out)
  where
    chosen : List ℕ
    chosen = map tree_of (tents_of p g)

    below : (t : ℕ) → tent g t ≡ true → t < tent_cells p
    below t on = tent-in g t long on

    fills : Fills (map (trees_beside p) (tents_of p g)) chosen
    fills = record {
      len = length-map _ tree_of ∙ sym (length-map _ _);
      each = λ k lt.
          let low : k < length (tents_of p g) = omega (arith, length-map (tents_of p g) (trees_beside p)) in
          let t = slice_index (tents_of p g) k in let on = listed-tent p g t (has_place-here _ k low) in
          rw (get_or-map (trees_beside p) (tents_of p g) k 0 [] low, get_or-map tree_of (tents_of p g) k 0 0 low)
          (set-of p (tree_of t) (below t on) (is.is_tree t (below t on) on) (is.is_beside t (below t on) on));
    }

    twice : names_none_twice chosen ≡ true
    twice = grind (arith, common_steps, none-twice-from, distinct-from, different-map, different-from, tents-distinct, listed-tent, below)

-- the number of a tree, and the tree of a number
tree-number : (p : Tents) {c : ℕ} → c < tent_cells p → tree p c ≡ true → (count_below (tree p) c < tree_count p)
    × (slice_index (trees_of p) (count_below (tree p) c) ≡ c)
tree-number p {c} lt on = (counted (tree p) c _ lt on, at-passing (tree p) _ lt on)

number-tree : (p : Tents) {r : ℕ} → r < tree_count p → IsPassing (tree p) (tent_cells p) r
number-tree p {r} lt = passing-at (tree p) _ r (omega (arith, passing-long (tree p) (tent_cells p)))

-- ---- each tent has a tree of its own, and there are as many trees
module _ (p : Tents) (g mates : List ℕ) (long : length g ≡ tent_cells p)
    (whole : IsPairing (may_pair p (tents_of p g)) (length (tents_of p g)) (tree_count p) mates)
    (as_many : length (tents_of p g) ≡ tree_count p) where
  tree_of : ℕ → ℕ
  tree_of c = slice_index (trees_of p) (slice_index mates (index_of (tents_of p g) c))

  -- a tent by its number
  listed : (c : ℕ) → tent g c ≡ true → (index_of (tents_of p g) c < length (tents_of p g)) × (slice_index (tents_of p g) (index_of (tents_of p g) c) ≡ c)
  listed c on = index-is _ c (tent-listed p g c long on)

  number-of : {l : ℕ} → l < length (tents_of p g) → IsPassing (tree p) (tent_cells p) (slice_index mates l)
  number-of {l} lt = number-tree p (whole.in_range l lt)

  near : {l : ℕ} → l < length (tents_of p g) → has_place (steps p.size (slice_index (tents_of p g) l) 4) (slice_index (trees_of p) (slice_index mates l)) ≡ true
  unfolding may_pair
  near {l} lt = whole.joined l lt

  each-paired : IsPairedBy p g tree_of
  unfolding tree_of
  each-paired = record {
    is_tree = λ c lt on. (number-of (listed c on).0).passes;
    is_beside = λ c lt on. let w = listed c on in subst (λ d. has_place (steps p.size d 4) (tree_of c) ≡ true) w.1 (near w.0);
    own = λ c d lc ld on_c on_d e.
        let v = listed c on_c in let w = listed d on_d in
        let a = (number-of v.0).before in let b = (number-of w.0).before in
        let same : slice_index mates (index_of (tents_of p g) c) ≡ slice_index mates (index_of (tents_of p g) d) = sym a ∙ ap (count_below (tree p)) e ∙ b in
        sym v.1 ∙ ap (slice_index (tents_of p g)) (whole.own (index_of (tents_of p g) c) (index_of (tents_of p g) d) v.0 w.0 same) ∙ w.1;
    none_out = λ d lt on. by d lt on;
  }
    where
      by : (d : ℕ) → d < tent_cells p → tree p d ≡ true → (c : ℕ) × (c < tent_cells p) × (tent g c ≡ true) × (tree_of c ≡ d)
      by d lt on =
          let n = tree-number p lt on in
          let w =
          each-named (slice_index mates) (count_below (tree p) d)
          (λ l low. let r = whole.in_range l low in omega arith) whole.own
          (omega (arith, n.0)) in
          let is_tent = listed-tent p g (slice_index (tents_of p g) w.0) (has_place-here (tents_of p g) w.0 w.1) in
          let v = listed (slice_index (tents_of p g) w.0) is_tent in
          let same : index_of (tents_of p g) (slice_index (tents_of p g) w.0) ≡ w.0 =
          different-from (tents_of p g) (tents-distinct p g)
          (index_of (tents_of p g) (slice_index (tents_of p g) w.0)) w.0 v.0 w.1 v.1 in (
            slice_index (tents_of p g) w.0,
            tent-in g (slice_index (tents_of p g) w.0) long is_tent,
            is_tent,
            ap (λ k. slice_index (trees_of p) (slice_index mates k)) same ∙ ap (slice_index (trees_of p)) w.2 ∙ n.1,
          )

  pub whole-pairs : can_be_paired p g ≡ true
  whole-pairs = pairs-from long each-paired

-- ---- a pairing is a choice of a tree for each tent
module _ (p : Tents) (g chosen : List ℕ) (is : IsGiven p g chosen) where
  abbrev right_of : ℕ → ℕ
  right_of l = count_below (tree p) (slice_index chosen l)

  right-in : (l : ℕ) → l < length (tents_of p g) → right_of l < tree_count p
  right-in l lt = let e = is.each l lt in (tree-number p e.0 e.1).0

  right-at : {l : ℕ} → l < length (tents_of p g) → slice_index (trees_of p) (right_of l) ≡ slice_index chosen l
  right-at {l} lt = let e = is.each l lt in (tree-number p e.0 e.1).1

  right-own : (l m : ℕ) → l < length (tents_of p g) → m < length (tents_of p g) → right_of l ≡ right_of m → l ≡ m
  right-own l m ll lm e =
      let long = is.long in
      (different-from chosen (distinct-none-twice chosen is.none_twice)) l m (omega arith) (omega arith) (sym (right-at ll) ∙ ap (slice_index (trees_of p)) e ∙ right-at lm)

  right-joined : (l : ℕ) → l < length (tents_of p g) → may_pair p (tents_of p g) l (right_of l) ≡ true
  unfolding may_pair
  right-joined l lt = grind (arith, common_steps, right-at)

  chosen-whole : {short : List ℕ} → IsShortSet (may_pair p (tents_of p g)) (length (tents_of p g)) (tree_count p) short → ⊥
  chosen-whole {short} few = no_choice _ _ _ short few right_of right-in right-joined right-own

  chosen-many : length (tents_of p g) ≡ tree_count p
  chosen-many =
      omega (arith, few-below right_of right-in right-own, few-below (λ r. index_of chosen (slice_index (trees_of p) r)) {m = length (tents_of p g)} (λ r lt. let w = at r lt in omega (arith, w.0)) own)
    where
      at : (r : ℕ) → r < tree_count p → (index_of chosen (slice_index (trees_of p) r) < length chosen)
          × (slice_index chosen (index_of chosen (slice_index (trees_of p) r)) ≡ slice_index (trees_of p) r)
      at r lt = let n = number-tree p lt in index-is chosen _ (is.none_out (slice_index (trees_of p) r) n.below n.passes)

      own : (r q : ℕ) → r < tree_count p → q < tree_count p → index_of chosen (slice_index (trees_of p) r) ≡ index_of chosen
          (slice_index (trees_of p) q) → r ≡ q
      own r q lr lq e =
          let same = sym (at r lr).1 ∙ ap (slice_index chosen) e ∙ (at q lq).1 in
          sym (number-tree p lr).before ∙ ap (count_below (tree p)) same ∙ (number-tree p lq).before

pub short-unpaired : (p : Tents) (g short : List ℕ)
    → IsShortSet (may_pair p (tents_of p g)) (length (tents_of p g)) (tree_count p) short
    → can_be_paired p g ≡ false
short-unpaired p g short few = false_from_ne_true _ (λ on. let w = given p g on in chosen-whole p g w.0 w.1 few)

pub others-unpaired : (p : Tents) (g : List ℕ) → (length (tents_of p g) ≡ tree_count p → ⊥) → can_be_paired p g ≡ false
others-unpaired p g differ = false_from_ne_true _ (λ on. let w = given p g on in differ (chosen-many p g w.0 w.1))

-- ---- the tents of the list
pub listed-tents : (p : Tents) (g : List ℕ) {tents : List ℕ} → tents ≡ filter (tent g) (range_with_len 0 (tent_cells p)) → tents ≡ tents_of p g
unfolding tents_of
listed-tents p g e = e

pub tents-in : (p : Tents) (g : List ℕ) → length g ≡ tent_cells p → AreIn p (tents_of p g)
tents-in p g long l lt =
    tent-in g (slice_index (tents_of p g) l) long
    (listed-tent p g _ (has_place-here _ l lt))

pub count-is : (p : Tents) (g tents : List ℕ) (count : ℕ) → take count tents ≡ tents_of p g → count ≤ length tents → count ≡ length (tents_of p g)
count-is p g tents count e few = omega (arith, length-take count tents, ap length e)

-- A grid of Tents without a fault is a solution, and one with a fault is not; and the rules' own table.
pub tents-from : (p : Tents) (g : List ℕ) → all_below (tree_right p g) (tent_cells p) ≡ true → all_below (touch_right p g) (tent_cells p) ≡ true
    → all_below (column_right p g) p.size.w ≡ true → all_below (row_right p g) p.size.h ≡ true → true ≡ can_be_paired p g → solves_tents p g ≡ true
unfolding solves_tents
tents-from p g a b c d e = grind (arith, common_steps, and_from)

-- ---- the test of a solution is the rule
gives-tree : {p : Tents} {g chosen : List ℕ} → length g ≡ tent_cells p → IsGiven p g chosen
    → IsPairedBy p g (λ c. slice_index chosen (index_of (tents_of p g) c))
gives-tree {p} {g} {chosen} long is = record {
  is_tree = λ c lt on. (is.each (place c) (stands c on).0).1;
  is_beside = λ c lt on. rw (stands c on).1 at (is.each (place c) (stands c on).0).2;
  own = λ c d lc ld on_c on_d e.
      let all = is.long in let a = stands c on_c in
      let b = stands d on_d in
      let same =
      different-from chosen (distinct-none-twice chosen is.none_twice) (place c) (place d)
      (omega arith) (omega arith) e in
      sym a.1 ∙ ap (slice_index (tents_of p g)) same ∙ b.1;
  none_out = λ d lt on.
      let all = is.long in let w = index-is chosen d (is.none_out d lt on) in
      let low : index_of chosen d < length (tents_of p g) = let i = w.0 in omega arith in
      let t = slice_index (tents_of p g) (index_of chosen d) in
      let here = has_place-here _ (index_of chosen d) low in let tent_on = listed-tent p g t here in
      let v = index-is _ t here in let same = different-from _ (tents-distinct p g) (place t) (index_of chosen d) v.0 low v.1 in
      (t, tent-in g t long tent_on, tent_on, ap (slice_index chosen) same ∙ w.1);
}
  where
    place : ℕ → ℕ
    place c = index_of (tents_of p g) c

    stands : (c : ℕ) → tent g c ≡ true → (index_of (tents_of p g) c < length (tents_of p g)) × (slice_index (tents_of p g) (index_of (tents_of p g) c) ≡ c)
    stands c on = index-is _ c (tent-listed p g c long on)

pub solution-from-tents : (p : Tents) (g : List ℕ) → IsGrid (tent_cells p) 2 g → solves_tents p g ≡ true → IsTentSolution p g
unfolding tree_right touch_right column_right row_right
solution-from-tents p g grid on =
    let parts = tents-parts p g on in let w = given p g parts.paired in
    record {
      grid = grid;
      none_on_trees =
          λ c lt tent_on. elim (or_cases _ _
          (all_below-at (tree_right p g) (tent_cells p) c parts.trees lt)) [
            | inl bare ↦ not-true _ bare
            | inr zero_at ↦ let a = eqb-true _ _ zero_at in let b = eqb-true _ _ tent_on in absurd (omega arith)
          ];
      none_touch = λ c d lc ld on_c on_d.
          let alone = not-true _ (all_below-at (touch_right p g) (tent_cells p) c parts.touch lc) in
          let none = any_below-none (λ d. touches p.size c d && tent g d) (tent_cells p) (rw on_c at alone) d ld in
          grind (arith, common_steps);
      columns = λ x lt. eqb-true _ _ (all_below-at (column_right p g) p.size.w x parts.columns lt);
      rows = λ y lt. eqb-true _ _ (all_below-at (row_right p g) p.size.h y parts.rows lt);
      tree_of = λ c. slice_index w.0 (index_of (tents_of p g) c);
      paired = gives-tree grid.each_cell w.1;
    }

-- ---- each test, as it is computed
module _ (p : Tents) (g : List ℕ) where
  abbrev pub trees : TestKind TentFault
  trees = record { test = Tree; count = tent_cells p; right = tree_right p g }

  abbrev pub touch : TestKind TentFault
  touch = record { test = Touch; count = tent_cells p; right = touch_right p g }

  abbrev pub columns : TestKind TentFault
  columns = record { test = Column; count = p.size.w; right = column_right p g }

  abbrev pub rows : TestKind TentFault
  rows = record { test = Row; count = p.size.h; right = row_right p g }

  abbrev pub match : TestKind TentFault
  match = record { test = λ _. Match; count = 1; right = λ _. can_be_paired p g }

  abbrev pub kinds : List (TestKind TentFault)
  kinds = trees ∷ touch ∷ columns ∷ rows ∷ match ∷ []

  module _ (grid : IsGrid (tent_cells p) 2 g) where
    tree-made : IsKindMade (FailsTents p g) trees
    unfolding tree_right
    tree-made = grind (arith, common_steps, or_parts, not-false, cases_eq, eq-eqb, or_cases, not-true, eqb-true)

    touch-made : IsKindMade (FailsTents p g) touch
    unfolding touch_right
    touch-made = record {
      failed = λ c lt off.
          let parts = and_parts _ _ (not-false _ off) in let w = any_below-some _ _ parts.1 in
          let both = and_parts _ _ w.2 in (parts.0, (w.0, w.1, both.1, both.0));
      held = λ c lt on (tent_on, (d, below, on_d, touched)).
          let none = not-true _ (rw tent_on at on) in
          true≢false (sym (any_below-here _ _ d below (and_from _ _ touched on_d)) ∙ none);
    }

    column-made : IsKindMade (FailsTents p g) columns
    unfolding column_right
    column-made = grind (arith, common_steps, eq-eqb, eqb-true)

    row-made : IsKindMade (FailsTents p g) rows
    unfolding row_right
    row-made = grind (arith, common_steps, eq-eqb, eqb-true)

    match-made : IsKindMade (FailsTents p g) match
    match-made = record {
      failed = λ k lt off tree_of is. true≢false (sym (pairs-from grid.each_cell is) ∙ off);
      held = λ k lt on none. let w = given p g on in none _ (gives-tree grid.each_cell w.1);
    }

    pub tents-made : AllByRecursion (IsKindMade (FailsTents p g)) kinds
    tents-made = (tree-made, (touch-made, (column-made, (row-made, (match-made, tt)))))

    none-right : AllByRecursion (AreRight (FailsTents p g)) kinds → solves_tents p g ≡ true
    none-right (a, (b, (c, (d, (e, _))))) =
        tents-from p g (all_below-from _ _ a) (all_below-from _ _ b) (all_below-from _ _ c) (all_below-from _ _ d) (sym (e 0 (omega arith)))

    -- no test fails a solution, and no other grid passes all
    pub tents-none : IsTentSolution p g → NoneFails (FailsTents p g) (tent_tests p)
    tents-none s = none_held _ kinds (
      (λ c lt (on, tree_on). true≢false (sym tree_on ∙ s.none_on_trees c lt on)),
      (
        (λ c lt (on, (d, below, on_d, touched)). true≢false (sym touched ∙ s.none_touch c d lt below on on_d)),
        ((λ x lt other. other (s.columns x lt)), ((λ y lt other. other (s.rows y lt)), ((λ k lt none. none s.tree_of s.paired), tt))),
      ),
    )

    pub tents-from-solution : IsTentSolution p g → solves_tents p g ≡ true
    tents-from-solution s = none-right (right_none _ kinds tents-made (tents-none s))

    pub tents-sound : NoneFails (FailsTents p g) (tent_tests p) → IsTentSolution p g
    tents-sound none = solution-from-tents p g grid (none-right (right_none _ kinds tents-made none))

    pub tents-known : AllByRecursion (IsKnown (FailsTents p g)) (tent_tests p)
    tents-known = known_tests _ kinds tents-made

    pub tents-tell : (fault : Option TentFault) {told : Bool} → IsTentFault p g fault → is_some fault ≡ not told → told ≡ solves_tents p g
    tents-tell fault {told} is e =
        none_tells _ _ tents-none told _
        (solution-from-tents p g grid) tents-from-solution fault is e
