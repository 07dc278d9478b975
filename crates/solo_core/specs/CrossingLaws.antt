-- Laws of crossings: what they strike from larger sets they strike from smaller ones, from a block and a line of n
-- different numbers they strike nothing, and a second visit strikes nothing more.
use Rattle.std.proofs.lemmas.Grind.{common_steps}
use Rattle.std.proofs.Common.{◌≡◌, ℕ, ◌+◌, ◌-◌, ◌<◌, ◌≤◌, Bool, true, false, true≢false, List, [], map, length, get_or, slice_index, refl, sym, ap, ◌∙◌, inl, inr, arith, length-append}
use Rattle.solo_core.specs.Common.{cases_lt, and_parts, and_from, eq-eqb, not-true, not_from_false, false_from_ne_true, ltb-true, leb-true, lt-ltb, le-leb, get_or-map, length-map, get_or_append_left, get_or-append_right, any_below-here, any_below-some, has_place, has_place-at, has_place-here, place-filter, place-kept, different-filter, different-from, distinct-from, distinct-append, Set, has_value, IsMonotone, AreDifferent, IsSettled, Keeps, no_repeat}
use Rattle.solo_core.specs.SolutionLaws.{own_from_no_repeat, none_missing}
use Rattle.solo_core.specs.Crossing.{has_in_part, strikes_by_crossing, crossing_places, outside, is_shared, in_block_alone, in_line_alone}

-- ---- parts
part-some : (part : ℕ → Bool) (sets : List Set) (v : ℕ) → has_in_part part sets v ≡ true
    → (j : ℕ) × (j < length sets) × (part j ≡ true) × (has_value (get_or sets j []) v ≡ true)
part-some part sets v on = grind (arith, common_steps, any_below-some, and_parts)

part-here : (part : ℕ → Bool) (sets : List Set) (v j : ℕ) → j < length sets → part j ≡ true
    → has_value (get_or sets j []) v ≡ true → has_in_part part sets v ≡ true
part-here part sets v j lt in_part has = any_below-here _ (length sets) j lt (and_from _ _ in_part has)

module _ (block line : ℕ → Bool) where
  pub crossing-monotone : IsMonotone (strikes_by_crossing block line)
  crossing-monotone smaller larger k v inside on = grind (arith, stays block, stays line)
    where
      stays : (part : ℕ → Bool) → has_in_part part smaller v ≡ true → has_in_part part larger v ≡ true
      stays part has =
          let w = part-some part smaller v has in
          part-here part larger v w.0 (omega arith) w.2 (inside.inside w.0 v w.1 w.3)

  -- where the values of each part are those of the other, none is struck
  pub crossing-keeps : {filling : List ℕ}
      → ((k : ℕ) → k < length filling → line k ≡ true → (j : ℕ) × (j < length filling) × (block j ≡ true) × (get_or filling j 0 ≡ get_or filling k 0))
      → ((k : ℕ) → k < length filling → block k ≡ true → (j : ℕ) × (j < length filling) × (line j ≡ true) × (get_or filling j 0 ≡ get_or filling k 0))
      → Keeps (strikes_by_crossing block line) filling
  crossing-keeps {filling} in_block in_line sets k own lt = grind (arith, there block line (in_block k lt), there line block (in_line k lt))
    where
      there : (part other : ℕ → Bool)
          → (other k ≡ true → (j : ℕ) × (j < length filling) × (part j ≡ true) × (get_or filling j 0 ≡ get_or filling k 0))
          → other k ≡ true → has_in_part part sets (get_or filling k 0) ≡ true
      there part other found here =
          let (j, lj, in_part, same) = found here in
          part-here part sets (get_or filling k 0) j (omega arith) in_part (own.own j (get_or filling k 0) lj ∙ eq-eqb _ _ same)

  -- a value that is left in a part has a place in the other, which keeps it
  pub crossing-settles : IsSettled (strikes_by_crossing block line)
  crossing-settles old new k v a lt on =
      grind (arith, a.left k v lt, part-here block old v k lt, part-here line old v k lt, kept block, kept line)
    where
      kept : (part : ℕ → Bool) → has_in_part part old v ≡ true → has_in_part block old v ≡ true
          → has_in_part line old v ≡ true → has_in_part part new v ≡ true
      kept part had in_block in_line =
          let w = part-some part old v had in
          part-here part new v w.0 (omega arith) w.2 (grind (arith, a.left w.0 v w.1, w.3))

-- ---- houses of n different cells of a grid, with no number twice
pub record HoldsEach (n : ℕ) (g places : List ℕ) : Type 0 where
  pub long : length places ≡ n
  pub inside : (k : ℕ) → k < length places → slice_index places k < length g
  pub holds : no_repeat (map (slice_index g) places) ≡ true

module _ {n : ℕ} {g : List ℕ} (small : (c : ℕ) → c < length g → slice_index g c < n) where
  -- a house has each number at one place alone
  one_place : {places : List ℕ} → HoldsEach n g places → {c : ℕ} (d : ℕ) → has_place places c ≡ true
      → has_place places d ≡ true → slice_index g c ≡ slice_index g d
      → c ≡ d
  one_place {places} h {c} d on_c on_d same =
      let j = has_place-at places c on_c in
      let k = has_place-at places d on_d in
      let long = length-map places (slice_index g) in
      let e = own_from_no_repeat (map (slice_index g) places) h.holds j.0 k.0 (omega (arith, j.1)) (omega (arith, k.1))
      (get_or-map (slice_index g) places j.0 0 0 j.1 ∙ ap (slice_index g) j.2 ∙ same
      ∙ sym (get_or-map (slice_index g) places k.0 0 0 k.1 ∙ ap (slice_index g) k.2)) in
      sym j.2 ∙ ap (slice_index places) e ∙ k.2

  -- the number of a cell that the first house has alone stands in a cell that the second has alone
  other_cell : {first second : List ℕ} → HoldsEach n g first → HoldsEach n g second → (c : ℕ) → has_place first c ≡ true → has_place second c ≡ false
      → (d : ℕ) × (has_place second d ≡ true) × (has_place first d ≡ false) × (slice_index g d ≡ slice_index g c)
  other_cell {first} {second} h other c on off =
      let at = has_place-at first c on in
      let low = rw at.2 at (small (slice_index first at.0) (h.inside at.0 at.1)) in
      let w = none_missing n (map (slice_index g) second) (length-map second (slice_index g) ∙ other.long) other.holds
      (λ k lk. numbers k (omega (arith, other.long))) low in
      let lw : w.0 < length second = omega (arith, w.1, other.long) in
      let there = has_place-here second w.0 lw in
      let same = sym (get_or-map (slice_index g) second w.0 0 0 lw) ∙ w.2 in (
        slice_index second w.0,
        there,
        false_from_ne_true (has_place first (slice_index second w.0)) (λ here.
            true≢false (sym there ∙ ap (has_place second) (one_place h c here on same) ∙ off)),
        same,
      )
    where
      numbers : (k : ℕ) → k < length second → get_or (map (slice_index g) second) k 0 < n
      numbers k lk = rw (get_or-map (slice_index g) second k 0 0 lk) (small (slice_index second k) (other.inside k lk))

-- ---- a crossing of a block and a line
module _ (block line : List ℕ) where
  abbrev rest : List ℕ
  rest = outside block line

  abbrev places : List ℕ
  places = crossing_places block line

  at_block : {k : ℕ} → k < length block → slice_index places k ≡ slice_index block k
  at_block {k} lt = get_or_append_left block rest 0 k lt

  at_rest : (k : ℕ) → length block ≤ k → slice_index places k ≡ slice_index rest (k - length block)
  at_rest k le = get_or-append_right block rest _ k 0 refl le

  long : length places ≡ length block + length rest
  long = length-append block rest

  -- a place past the block's is the line's, and not the block's
  rest_is : (k : ℕ) → length block ≤ k → k < length places
      → (has_place line (slice_index places k) ≡ true) × (has_place block (slice_index places k) ≡ false)
  rest_is k le lt =
      let len = long in
      let w = place-filter _ line (slice_index rest (k - length block)) (has_place-here rest _ (omega arith)) in
      rw (at_rest k le) (w.0, not-true (has_place block (slice_index rest (k - length block))) w.1)

  pub crossing-within : {cells : ℕ} → ((k : ℕ) → k < length block → slice_index block k < cells) → ((k : ℕ) → k < length line → slice_index line k < cells)
      → (k : ℕ) → k < length places → slice_index places k < cells
  crossing-within in_block in_line k lt = elim (cases_lt k _) [
    | inl low ↦ rw (at_block low) (in_block k low)
    | inr high ↦ let w = has_place-at line _ (rest_is k high lt).0 in rw w.2 at (in_line w.0 w.1)
  ]

  pub crossing-different : AreDifferent block → AreDifferent line → AreDifferent places
  crossing-different in_block in_line =
      different-from _ (distinct-append block rest (distinct-from block in_block)
      (distinct-from rest (different-filter _ line in_line))
      (λ d here there. true≢false (sym here ∙ not-true _ (place-filter _ line d there).1)))

  -- where both hold each number, the numbers of each part are those of the other
  module _ (n : ℕ) (g : List ℕ) (small : (c : ℕ) → c < length g → slice_index g c < n) (in_block : HoldsEach n g block) (in_line : HoldsEach n g line) where
    abbrev values : List ℕ
    values = map (slice_index g) places

    value_at : (k : ℕ) → k < length places → get_or values k 0 ≡ slice_index g (slice_index places k)
    value_at k lt = get_or-map _ _ k 0 0 lt

    abbrev first : ℕ → Bool
    first = in_block_alone (length block) (is_shared block line)

    abbrev later : ℕ → Bool
    later = in_line_alone (length block)

    pub crossing-sound : Keeps (strikes_by_crossing first later) values
    crossing-sound = crossing-keeps first later from_line from_block
      where
        size : length values ≡ length block + length rest
        size = length-map _ _ ∙ long

        from_line : (k : ℕ) → k < length values → later k ≡ true
            → (j : ℕ) × (j < length values) × (first j ≡ true) × (get_or values j 0 ≡ get_or values k 0)
        from_line k lt here =
            let len = long in
            let s = size in
            let lk : k < length places = omega arith in
            let w = rest_is k (leb-true _ k here) lk in
            let d = other_cell small in_line in_block _ w.0 w.1 in
            let j = has_place-at block d.0 d.1 in
            let lj = j.1 in (
              j.0,
              omega arith,
              and_from _ _ (lt-ltb j.0 _ lj) (not_from_false _ (ap (has_place line) j.2 ∙ d.2)),
              value_at j.0 (omega arith) ∙ ap (slice_index g) (at_block lj ∙ j.2) ∙ d.3 ∙ sym (value_at k lk),
            )

        from_block : (k : ℕ) → k < length values → first k ≡ true
            → (j : ℕ) × (j < length values) × (later j ≡ true) × (get_or values j 0 ≡ get_or values k 0)
        from_block k lt here =
            let len = long in
            let s = size in
            let parts = and_parts _ _ here in
            let low = ltb-true k _ parts.0 in
            let d = other_cell small in_block in_line _ (has_place-here block k low)
            (not-true _ parts.1) in
            let j = has_place-at rest d.0 (place-kept _ line d.0 d.1 (not_from_false _ d.2)) in
            let lj = j.1 in
            let e : length block + j.0 - length block ≡ j.0 = omega arith in (
              length block + j.0,
              omega arith,
              le-leb _ _ (omega arith),
              value_at _ (omega arith) ∙ ap (slice_index g) (at_rest _ (omega arith) ∙ ap (slice_index rest) e ∙ j.2)
                  ∙ d.3
                  ∙ sym (value_at k (omega arith) ∙ ap (slice_index g) (at_block low)),
            )
