-- What a rule set of Solo may visit: the houses, and then crossings of a block with a row or a column that it meets.
use Rattle.std.specs.Prelude.{◌≡◌, ℕ, ◌+◌, ◌*◌, ◌/◌, ◌%◌, List, ◌++◌, map, slice_index_or}
use Rattle.solo_core.specs.Common.{range_with_len, Solo, solo_n, NamedHouse, Row, Column, houses_of}
use Rattle.solo_core.specs.declared.houses.visit.VisitName.{VisitName}
use Rattle.solo_core.specs.declared.houses.visit.VisitName.TheVariants.{House, Crossing}

-- by number: the crossings of each block with each of the c rows that it meets, and with each of the r columns
abbrev pub row_scope : Solo → ℕ → VisitName
row_scope p m = Crossing (m / p.c) (Row (m / p.c / p.c * p.c + m % p.c))

abbrev pub column_scope : Solo → ℕ → VisitName
column_scope p m = Crossing (m / p.r) (Column (m / p.r % p.c * p.r + m % p.r))

abbrev pub crossing_scopes : Solo → List VisitName
crossing_scopes p =
    map (row_scope p) (range_with_len 0 (solo_n p * p.c))
    ++ map (column_scope p) (range_with_len 0 (solo_n p * p.r))

-- a crossing with its number
abbrev pub IsCrossingAt : Solo → ℕ → ℕ → NamedHouse → Type 0
IsCrossingAt p m block line =
    (other : VisitName) → Crossing block line ≡ slice_index_or (crossing_scopes p) m other

-- in the order of their numbers; a rule set without crossings visits the houses alone
abbrev pub scopes_of : Solo → List VisitName
scopes_of p = map House (houses_of p) ++ crossing_scopes p
