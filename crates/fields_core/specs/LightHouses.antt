-- The count houses of Light Up.
use Rattle.std.specs.Prelude.{ℕ, zero, suc, ◌+◌, ◌*◌, ◌-◌, ◌/◌, ◌%◌, Bool, not, ◌&&◌, ◌||◌, ◌==◌, if◌then◌else◌, List, [], ◌∷◌, ◌++◌, filter, slice_index_or}
use Rattle.fields_core.specs.Below.{Black, Light, LightCell, Numbered, RuleSystem, White, beside, column_places, row_places}
use Rattle.fields_core.specs.declared.light_up.light_house.LightHouse.{LightHouse}
use Rattle.fields_core.specs.declared.light_up.light_house.LightHouse.TheVariants.{Number, Row, Column, Lit}
use Rattle.fields_core.specs.CountHouse.{CountHouse, exactly, one_at_most, one_at_least, houses_below, CountPuzzle, rules_of}
use Rattle.fields_core.specs.Light.{light_cells, white, joined_in_row, joined_in_column, solves_lights}

-- the run of white cells of the row that the cell is in, from the left; and of the column, from the top
unfoldable pub row_run : Light → ℕ → List ℕ
row_run p c = filter (joined_in_row p c) (row_places p.size (c / p.size.w))

unfoldable pub column_run : Light → ℕ → List ℕ
column_run p c = filter (joined_in_column p c) (column_places p.size (c % p.size.w))

-- the cell and the cells that it sees: those of its row from the left, then the others of its column from the top
unfoldable pub seen_from : Light → ℕ → List ℕ
seen_from p c = row_run p c ++ filter (λ d. not (d == c)) (column_run p c)

-- a run begins at the cell: it is white, and the cell before it is black or past the edge
unfoldable pub begins_row_run : Light → ℕ → Bool
begins_row_run p c = white p c && ((c % p.size.w == 0) || not (white p (c - 1)))

unfoldable pub begins_column_run : Light → ℕ → Bool
begins_column_run p c = white p c && ((c / p.size.w == 0) || not (white p (c - p.size.w)))

-- the white cells beside a numbered black cell hold its number of bulbs
abbrev pub numbered : LightCell → List ℕ → List CountHouse
numbered White places = []
numbered Black places = []
numbered (Numbered n) places = exactly n places ∷ []

abbrev pub number_house : Light → ℕ → List CountHouse
number_house p c = numbered (slice_index_or p.cells c Black) (filter (white p) (beside p.size c))

-- a run of white cells of a row or a column holds one bulb at most; it is told by its first cell
abbrev pub row_house : Light → ℕ → List CountHouse
row_house p c = if begins_row_run p c then one_at_most (row_run p c) ∷ [] else []

abbrev pub column_house : Light → ℕ → List CountHouse
column_house p c = if begins_column_run p c then one_at_most (column_run p c) ∷ [] else []

-- a white cell and the cells that it sees hold a bulb
abbrev pub lit_house : Light → ℕ → List CountHouse
lit_house p c = if white p c then one_at_least (seen_from p c) ∷ [] else []

-- the house of a kind that a place tells, if there is one
abbrev pub light_house : Light → LightHouse → ℕ → List CountHouse
light_house p Number c = number_house p c
light_house p Row c = row_house p c
light_house p Column c = column_house p c
light_house p Lit c = lit_house p c

-- the kinds, by number
abbrev pub light_kind : ℕ → LightHouse
light_kind zero = Number
light_kind (suc zero) = Row
light_kind (suc (suc zero)) = Column
light_kind (suc (suc (suc _))) = Lit

-- the houses of one sort: that of a cell, those of a row, all by row, and all by place
abbrev pub light_house_at : Light → (Light → ℕ → List CountHouse) → ℕ → ℕ → List CountHouse
light_house_at p house y x = house p (y * p.size.w + x)

abbrev pub houses_in_row : Light → (Light → ℕ → List CountHouse) → ℕ → List CountHouse
houses_in_row p house y = houses_below (light_house_at p house y) p.size.w

abbrev pub houses_in_rows : Light → (Light → ℕ → List CountHouse) → List CountHouse
houses_in_rows p houses = houses_below (houses p) p.size.h

abbrev pub houses_in_grid : Light → (Light → ℕ → List CountHouse) → List CountHouse
houses_in_grid p house = houses_below (house p) (light_cells p)

-- the houses of numbers, of runs in rows, of runs in columns and of white cells
unfoldable pub light_houses : Light → List CountHouse
light_houses p =
    houses_in_grid p number_house ++ (houses_in_grid p row_house ++ (houses_in_grid p column_house ++ houses_in_grid p lit_house))

-- what Light Up counts
abbrev pub light_counts : Light → CountPuzzle
light_counts p = record {
  cells = light_cells p;
  blocked = λ c. not (white p c);
  houses = light_houses p;
  is_solution = solves_lights p;
}

-- what the rules of Light Up mean to a search
abbrev pub light_rules : Light → RuleSystem
light_rules p = rules_of (light_counts p)
