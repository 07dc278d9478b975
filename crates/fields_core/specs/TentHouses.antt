-- The count houses of Tents.
use Rattle.std.specs.Prelude.{ℕ, zero, suc, ◌+◌, ◌/◌, ◌%◌, Bool, not, ◌&&◌, ◌||◌, nat_lt, if◌then◌else◌, List, [], ◌∷◌, ◌++◌, filter, slice_index}
use Rattle.fields_core.specs.Below.{RuleSystem, Tents, beside, column_places, list_any, row_places}
use Rattle.fields_core.specs.declared.tents.tent_house.TentHouse.{TentHouse}
use Rattle.fields_core.specs.declared.tents.tent_house.TentHouse.TheVariants.{Column, Row, Tree, Square}
use Rattle.fields_core.specs.CountHouse.{CountHouse, exactly, one_at_most, one_at_least, houses_below, CountPuzzle, rules_of}
use Rattle.fields_core.specs.Tents.{tent_cells, tree, solves_tents}

-- a column, and a row, has its number of tents
abbrev pub column_of_tents : Tents → ℕ → List CountHouse
column_of_tents p x = exactly (slice_index p.counts x) (column_places p.size x) ∷ []

abbrev pub row_of_tents : Tents → ℕ → List CountHouse
row_of_tents p y = exactly (slice_index p.counts (p.size.w + y)) (row_places p.size y) ∷ []

-- the cells beside a cell that have no tree
abbrev pub free_beside : Tents → ℕ → List ℕ
free_beside p c = filter (λ d. not (tree p d)) (beside p.size c)

-- a tree has a tent beside it
abbrev pub tree_house : Tents → ℕ → List CountHouse
tree_house p c = if tree p c then one_at_least (free_beside p c) ∷ [] else []

-- a square of 2 by 2 cells, told by its top left cell, has one tent at most
abbrev pub square_house : Tents → ℕ → List CountHouse
square_house p c =
    if nat_lt (c % p.size.w + 1) p.size.w && nat_lt (c / p.size.w + 1) p.size.h
    then one_at_most (c ∷ (c + 1) ∷ (c + p.size.w) ∷ (c + p.size.w + 1) ∷ []) ∷ []
    else []

-- the house of a kind that a line or a place tells, if there is one
abbrev pub tent_house : Tents → TentHouse → ℕ → List CountHouse
tent_house p Column x = if nat_lt x p.size.w then column_of_tents p x else []
tent_house p Row y = if nat_lt y p.size.h then row_of_tents p y else []
tent_house p Tree c = tree_house p c
tent_house p Square c = square_house p c

-- the kinds by number, and how many places or lines may tell houses of one
abbrev pub tent_kind : ℕ → TentHouse
tent_kind zero = Column
tent_kind (suc zero) = Row
tent_kind (suc (suc zero)) = Tree
tent_kind (suc (suc (suc _))) = Square

abbrev pub tent_span : Tents → TentHouse → ℕ
tent_span p Column = p.size.w
tent_span p Row = p.size.h
tent_span p Tree = tent_cells p
tent_span p Square = tent_cells p

-- the houses of the columns, of the rows, of the trees by place, and of the squares by place
unfoldable pub tent_houses : Tents → List CountHouse
tent_houses p =
    houses_below (column_of_tents p) p.size.w
    ++ (houses_below (row_of_tents p) p.size.h
    ++ (houses_below (tree_house p) (tent_cells p)
    ++ houses_below (square_house p) (tent_cells p)))

-- a tree, and a cell with no tree beside it, has no tent
unfoldable pub is_barred : Tents → ℕ → Bool
is_barred p c = tree p c || not (list_any (tree p) (beside p.size c))

-- what Tents counts
abbrev pub tent_counts : Tents → CountPuzzle
tent_counts p = record {
  cells = tent_cells p;
  blocked = is_barred p;
  houses = tent_houses p;
  is_solution = solves_tents p;
}

-- what the rules of Tents mean to a search
abbrev pub tent_rules : Tents → RuleSystem
tent_rules p = rules_of (tent_counts p)
