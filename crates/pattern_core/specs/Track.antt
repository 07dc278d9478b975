-- A clue spelled out as cells, and how a line goes along it. The places along the clue are numbered from 0, before its
-- first cell. A line that is at a place has passed what is spelled before it. No public contract uses these words.
use Rattle.std.specs.Prelude.{◌≡◌, ℕ, zero, suc, ◌+◌, ◌*◌, ◌<◌, ◌≤◌, Bool, true, false, ◌&&◌, ◌||◌, ◌==◌, List, [], ◌∷◌, ◌++◌, length, get_or, replicate, drop, map, if◌then◌else◌}
use Rattle.pattern_core.specs.Below.{Set, from_bool, has_bit, runs, set_of_bits, some_filling, used}
use Rattle.pattern_core.specs.Lines.{ArePositive}
use Rattle.pattern_core.specs.declared.track.Spelling.{Spelling}
use Rattle.pattern_core.specs.declared.track.TrackSlots.{TrackSlots}

-- 1 for each black cell of a run, and 0 for a white cell after it
unfoldable pub spelled : List ℕ → List ℕ
spelled [] = []
spelled (n ∷ clue) = replicate n 1 ++ (0 ∷ spelled clue)

-- at which places a line may have one more white cell and stay there, go on by a white cell, go on by a black one, and end
pub record Track : Type 0 where
  pub stay : ℕ → Bool
  pub white : ℕ → Bool
  pub black : ℕ → Bool
  pub ends : ℕ → Bool

-- before the first cell, and after each white one, a line may stay
unfoldable pub may_stay : List ℕ → ℕ → Bool
may_stay cells zero = true
may_stay cells (suc p) = get_or cells p 2 == 0

-- the track of spelled cells: a line ends after all of them, or before the last, which is white
unfoldable pub track_of : List ℕ → Track
track_of cells = record {
  stay = may_stay cells;
  white = λ p. get_or cells p 2 == 0;
  black = λ p. get_or cells p 2 == 1;
  ends = λ p. (p == length cells) || (suc p == length cells);
}

-- the places of a set, as the bits of a number
abbrev pub slots_of : {A : Type 0} → (A → ℕ) → A → ℕ → Bool
slots_of bits set = has_bit (bits set)

-- the steps along a clue, as sets of places, of which `has` tells what they have
abbrev pub along : {A : Type 0} → (A → ℕ → Bool) → TrackSlots A → Track
along has steps =
    record {
      stay = has steps.stay;
      white = has steps.white;
      black = has steps.black;
      ends = has steps.ends;
    }

-- no line goes on from so far a place
pub record IsBelow (n : ℕ) (t : Track) : Type 0 where
  pub first : 0 < n
  pub white : (p : ℕ) → t.white p ≡ true → suc p < n
  pub black : (p : ℕ) → t.black p ≡ true → suc p < n

-- whether the cells lead from the place to an end
unfoldable pub leads : Track → ℕ → List ℕ → Bool
leads t p [] = t.ends p
leads t p (zero ∷ cells) = (t.stay p && leads t p cells) || (t.white p && leads t (suc p) cells)
leads t p (suc _ ∷ cells) = t.black p && leads t (suc p) cells

-- whether some filling that passes the test leads from the place to an end
unfoldable pub some_leads : Track → List Set → (List ℕ → Bool) → ℕ → Bool
some_leads t sets test p = some_filling sets (λ cells. leads t p cells && test cells)

-- the set of a cell with this number: of white alone, or of black alone
abbrev pub set_for : ℕ → ℕ
set_for zero = 1
set_for (suc _) = 2

-- the places for a cell with this set, by those for a white cell and for a black one
abbrev pub by_set : (ℕ → Bool) → (ℕ → Bool) → ℕ → ℕ → Bool
by_set white black set p = (has_bit set 0 && white p) || (has_bit set 1 && black p)

-- the set of a cell that may be white, or black
abbrev pub set_with : Bool → Bool → ℕ
set_with white black = from_bool white + 2 * from_bool black

-- whether a line may stay at the place by a cell of this set, and whether it may go on from there
unfoldable pub can_stay : Track → ℕ → ℕ → Bool
can_stay t set p = has_bit set 0 && t.stay p

unfoldable pub goes_on : Track → ℕ → ℕ → Bool
goes_on t set = by_set t.white t.black set

-- whether there is a way from the place to an end by a cell of this set, where `after` tells it of what follows
unfoldable pub ahead : Track → ℕ → (ℕ → Bool) → ℕ → Bool
ahead t set after p = (can_stay t set p && after p) || (goes_on t set p && after (suc p))

abbrev pub AreAhead : {A : Type 0} → (A → ℕ → Bool) → TrackSlots A → ℕ → A → A → Type 0
AreAhead has steps set after result =
    (p : ℕ) → has result p ≡ ahead (along has steps) set (has after) p

-- each place one further on
unfoldable pub one_on : (ℕ → Bool) → ℕ → Bool
one_on places zero = false
one_on places (suc p) = places p

-- the places reached by a cell of this set from those that are reached before it
unfoldable pub led : Track → ℕ → (ℕ → Bool) → ℕ → Bool
led t set reached p = (can_stay t set p && reached p) || one_on (λ q. goes_on t set q && reached q) p

-- the places are those reached, of n
abbrev pub AreLed : {A : Type 0} → ℕ → (A → ℕ → Bool) → TrackSlots A → ℕ → A → A → Type 0
AreLed n has steps set reached result =
    (p : ℕ) → p < n → has result p ≡ led (along has steps) set (has reached) p

-- every filling passes
unfoldable pub any_cells : List ℕ → Bool
any_cells cells = true

-- the cell has the value
unfoldable pub cell_is : ℕ → ℕ → List ℕ → Bool
cell_is k v cells = get_or cells k 0 == v

-- the sets of a line
abbrev pub sets_of : List ℕ → List Set
sets_of sets = map (set_of_bits 2) sets

-- the rows of the table from `from` on: row i has the places along the clue from which there is a way to an end, by the
-- cells from i on
pub record AreRows {A : Type 0} (has : A → ℕ → Bool) (t : Track) (sets : List ℕ) (rows : List A)
    (from : ℕ) : Type 0 where
  pub room : length sets < length rows
  pub row : (i p : ℕ) (row : A) → from ≤ i → i ≤ length sets
      → has (get_or rows i row) p ≡ some_leads t (drop i (sets_of sets)) any_cells p

-- the rows of the table but the first, for steps along a clue
abbrev pub AreRowsAlong : {A : Type 0} → (A → ℕ) → TrackSlots A → List ℕ → List A → Type 0
AreRowsAlong bits steps sets rows = AreRows (slots_of bits) (along (slots_of bits) steps) sets rows 1

-- the bits kept of the cells are those that some filling shows
pub record AreRowsKept (t : Track) (sets kept : List ℕ) : Type 0 where
  pub as_many : length kept ≡ length sets
  pub bits : (k v : ℕ) → k < length sets → v < 2 → has_bit (get_or kept k 0) v
      ≡ (has_bit (get_or sets k 0) v && some_leads t (sets_of sets) (cell_is k v) 0)

-- what is spelled so far: its white places, its black ones, and the place after it
pub record IsSpelling {A : Type 0} (has : A → ℕ → Bool) (cells : List ℕ)
    (white black next : A) : Type 0 where
  pub whites : (p : ℕ) → has white p ≡ (get_or cells p 2 == 0)
  pub blacks : (p : ℕ) → has black p ≡ (get_or cells p 2 == 1)
  pub nexts : (p : ℕ) → has next p ≡ (p == length cells)

abbrev pub Spells : {A : Type 0} → (A → ℕ → Bool) → List ℕ → Spelling A → Type 0
Spells has cells s = IsSpelling has cells s.white s.black s.next

-- what is spelled gets these cells more, where it has room for so many and one
abbrev pub AddsCells : {A : Type 0} → (A → ℕ → Bool) → ℕ → ℕ → List ℕ → Spelling A → Spelling A
    → Type 0
AddsCells has room n more old new = (cells : List ℕ) → suc (length cells + n) < room
    → Spells has cells old → Spells has (cells ++ more) new

-- so many cells from a place on, 1 for a black one
unfoldable pub cells_from : (ℕ → Bool) → ℕ → ℕ → List ℕ
cells_from black zero p = []
cells_from black (suc n) p = (if black p then 1 else 0) ∷ cells_from black n (suc p)

-- the clue that a track spells: the runs of its black cells, of so many places
unfoldable pub clue_along : ℕ → Track → List ℕ
clue_along n t = runs (cells_from t.black n 0)

-- the track is that of a clue, whose places are so few
pub record IsTrack (n : ℕ) (t : Track) : Type 0 where
  pub spells : t ≡ track_of (spelled (clue_along n t))
  pub positive : ArePositive (clue_along n t)
  pub fits : used (clue_along n t) < n
