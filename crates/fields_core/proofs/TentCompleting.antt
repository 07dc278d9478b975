-- A grid of Tents that meets each house with a cell is a solution exactly if its tents and trees can be paired.
use Rattle.std.proofs.lemmas.Grind.{common_steps}
use Rattle.fields_core.proofs.Common.{AreMet, IsGrid, IsTents, List, Tents, all_below-from, and_parts, any_below-some, ap, arith, can_be_paired, cases_Bool, column_of_tents, column_places, column_right, count_by, eq-eqb, eqb, exactly, false_from_ne_true, houses_below, is_barred, leb-true, lt-ltb, map, meets_house, nonzeros, not, one_at_most, or_left, or_right, refl, row_of_tents, row_places, row_right, slice_index, solves_tents, square_house, tent, tent_cells, tent_counts, tent_houses, touch_right, touches, tree_house, tree_right, true, ℕ, ◌%◌, ◌*◌, ◌+◌, ◌/◌, ◌<◌, ◌≡◌}
use Rattle.fields_core.proofs.HouseLemmas.{row-long, column-long}
use Rattle.fields_core.proofs.LightHouseLaws.{small-at}
use Rattle.fields_core.proofs.PlaceLists.{count-two, ones-bulbs}
use Rattle.fields_core.proofs.BesideLemmas.{cell-in, cell-parts}
use Rattle.fields_core.proofs.TentCounting.{square_places, tents-parts}
use Rattle.fields_core.proofs.TentRuleLemmas.{tents-from}
use Rattle.fields_core.proofs.TentTouching.{in-square}
use Rattle.fields_core.proofs.VisitLemmas.{among-back, among-below, among-front, among-met, among-one}

module _ (p : Tents) (g : List ℕ) (is : IsTents p) (grid : IsGrid (tent_cells p) 2 g) (met : AreMet (tent_counts p) g) where
  trees-right : (c : ℕ) → c < tent_cells p → tree_right p g c ≡ true
  unfolding tree_right is_barred
  trees-right c lt = grind (arith, common_steps, cases_Bool, or_right, eq-eqb, or_left)

  -- ---- lines
  exact : (n : ℕ) (places : List ℕ) → meets_house (exactly n places) g ≡ true → eqb (count_by (tent g) places) n ≡ true
  unfolding meets_house
  exact n places on = grind (arith, common_steps, and_parts, leb-true, eq-eqb, ones-bulbs, small-at)

  columns-right : (x : ℕ) → x < p.size.w → column_right p g x ≡ true
  unfolding column_right tent_houses
  columns-right x lt = exact (slice_index p.counts x) (column_places p.size x)
      (among-met met (among-front _
      (among-below _ (column_of_tents p) lt (among-one _))) (omega (arith, column-long p.size x, is.size.h_two)))

  rows-right : (y : ℕ) → y < p.size.h → row_right p g y ≡ true
  unfolding row_right tent_houses
  rows-right y lt = exact (slice_index p.counts (p.size.w + y)) (row_places p.size y)
      (among-met met (among-back (houses_below (column_of_tents p) p.size.w)
      (among-front _
      (among-below _ (row_of_tents p) lt (among-one _)))) (omega (arith, row-long p.size y, is.size.w_two)))

  -- ---- squares
  square-met : (c : ℕ) → c < tent_cells p → c % p.size.w + 1 < p.size.w → c / p.size.w + 1 < p.size.h → meets_house (one_at_most (square_places p.size.w c)) g ≡ true
  unfolding tent_houses
  square-met c lt wide tall = among-met met (among-back (houses_below (column_of_tents p) p.size.w)
      (among-back (houses_below (row_of_tents p) p.size.h) (among-back (houses_below (tree_house p) (tent_cells p))
      (among-below _ (square_house p) lt (rw (lt-ltb _ _ wide, lt-ltb _ _ tall) (among-one _)))))) (omega arith)

  -- two tents that touch would stand in one square
  apart : (c d : ℕ) → c < tent_cells p → d < tent_cells p → tent g c ≡ true → tent g d ≡ true → touches p.size c d ≡ true → ⊥
  unfolding touches meets_house
  apart c d lc ld tc td on =
      let w = p.size.w in let s = in-square p is lc ld on in
      let at = s.row * w + s.column in let own = cell-parts {w = w} s.row {r = s.column} at (omega (arith, s.wide)) refl in
      let wide : at % w + 1 < w = omega (arith, own.1, s.wide) in
      let tall : at / w + 1 < p.size.h = omega (arith, own.0, s.low) in
      let inside : at < tent_cells p = cell-in p.size.h (omega (arith, s.wide)) (omega (arith, own.0, s.low)) in
      let counts = and_parts _ _ (square-met at inside wide tall) in let few = leb-true (nonzeros (map (slice_index g) (square_places w at))) 1 counts.1 in
      omega (
        arith,
        few,
        ones-bulbs g (square_places w at) (small-at grid),
        count-two (tent g) (square_places w at) c d s.first_in s.second_in tc td s.apart,
      )

  touch-right : (c : ℕ) → c < tent_cells p → touch_right p g c ≡ true
  unfolding touch_right
  touch-right c lt = ap not (false_from_ne_true _ (λ both.
      let on = and_parts _ _ both in let w = any_below-some _ _ on.1 in
      let seen = and_parts _ _ w.2 in apart c w.0 lt w.1 on.0 seen.1 seen.0))

  pub completed : can_be_paired p g ≡ solves_tents p g
  completed = grind (arith, common_steps, tents-from, all_below-from, trees-right, touch-right, columns-right, rows-right, tents-parts)
