-- Houses that count the ones of their cells, and what is counted of these cells.
use Rattle.std.specs.Prelude.{Bool, List, [], nat_le, nat_lt, not, suc, zero, ℕ, ◌&&◌, ◌==◌, ◌||◌, ◌∷◌, ◌≡◌}
use Rattle.grid_core.specs.Candidates.{Candidates}
use Rattle.fields_core.specs.Below.{count_by}
use Rattle.fields_core.specs.declared.count.house.Bounds.{Bounds}
use Rattle.fields_core.specs.declared.count.tally.Tally.{Tally}

-- Houses that count the ones of their cells.

-- how many ones a filling has; any number but 0 counts as one
abbrev pub nonzeros : List ℕ → ℕ
nonzeros [] = 0
nonzeros (zero ∷ filling) = nonzeros filling
nonzeros (suc _ ∷ filling) = suc (nonzeros filling)

-- the condition of a count house
abbrev pub counts_between : ℕ → ℕ → List ℕ → Bool
counts_between least most filling =
    nat_le least (nonzeros filling) && nat_le (nonzeros filling) most

-- a cell with both of the values 0 and 1, and one with neither
abbrev pub is_open : Candidates → ℕ → Bool
is_open K c = K c 0 && K c 1

abbrev pub is_empty : Candidates → ℕ → Bool
is_empty K c = not (K c 0) && not (K c 1)

-- What is counted of the cells of count houses.

-- how many of the cells have no 0, how many have a 1, and how many have neither
pub record IsTally (K : Candidates) (places : List ℕ) (tally : Tally) : Type 0 where
  pub must_is : tally.must ≡ count_by (λ c. not (K c 0)) places
  pub may_is : tally.may ≡ count_by (λ c. K c 1) places
  pub empty_is : tally.empty ≡ count_by (is_empty K) places

-- the cells have no filling within the bounds: one is empty, or there are too few or too many ones
abbrev pub lacks_filling : Tally → Bounds → Bool
lacks_filling t b =
    nat_lt 0 t.empty
    || (nat_lt b.most b.least || (nat_lt t.may b.least || nat_lt b.most t.must))

-- a value of a cell stays, unless there is no filling, or the cell has both values and the value's bound is reached
abbrev pub value_stays : Tally → Bounds → Bool → ℕ → Bool
value_stays t b both v =
    not (lacks_filling t b)
    && not (both && (((v == 1) && (t.must == b.most)) || ((v == 0) && (t.may == b.least))))
