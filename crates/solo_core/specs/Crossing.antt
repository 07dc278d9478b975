-- Crossings of Solo: a block with a row or a column. Where one of the two has a value only in the cells that they share,
-- the other can't have it elsewhere.
use Rattle.std.specs.Prelude.{ℕ, Bool, not, ◌&&◌, ◌||◌, nat_lt, nat_le, List, [], ◌++◌, length, get_or, slice_index}
use Rattle.solo_core.specs.Common.{filter, any_below, has_place, Set, has_value, Decision, House, has_in}

-- the value has a place in this part of the house
abbrev pub has_in_part : (ℕ → Bool) → List Set → ℕ → Bool
has_in_part part sets value =
    any_below (λ j. part j && has_value (get_or sets j []) value) (length sets)

-- the same by the bits of the sets
abbrev pub part_has : (ℕ → Bool) → List ℕ → ℕ → Bool
part_has part sets value = any_below (λ j. part j && has_in sets j value) (length sets)

-- a value is struck from the line outside the block where it has no place in the block outside the line, and from the
-- block outside the line where it has no place in the line outside the block
abbrev pub strikes_by_crossing : (ℕ → Bool) → (ℕ → Bool) → Decision
strikes_by_crossing in_block in_line sets place value =
    (in_line place && not (has_in_part in_block sets value))
    || (in_block place && not (has_in_part in_line sets value))

-- the line's places outside the block
abbrev pub outside : List ℕ → List ℕ → List ℕ
outside block line = filter (λ c. not (has_place block c)) line

-- the block's places, and then those
abbrev pub crossing_places : List ℕ → List ℕ → List ℕ
crossing_places block line = block ++ outside block line

-- whether the block's k-th place is the line's too
abbrev pub is_shared : List ℕ → List ℕ → ℕ → Bool
is_shared block line k = has_place line (slice_index block k)

-- by their numbers in the list, where the block has so many cells: the cells in the block outside the line, and those in
-- the line outside the block
abbrev pub in_block_alone : ℕ → (ℕ → Bool) → ℕ → Bool
in_block_alone cells shared k = nat_lt k cells && not (shared k)

abbrev pub in_line_alone : ℕ → ℕ → Bool
in_line_alone cells k = nat_le cells k

abbrev pub strikes_by_parts : ℕ → (ℕ → Bool) → Decision
strikes_by_parts cells shared =
    strikes_by_crossing (in_block_alone cells shared) (in_line_alone cells)

abbrev pub crossing : List ℕ → List ℕ → House
crossing block line = record {
  places = crossing_places block line;
  decides = strikes_by_parts (length block) (is_shared block line);
}
