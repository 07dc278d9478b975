-- Lists of houses, tables of them, and rules whose houses are listed.
use Rattle.std.specs.Prelude.{List, [], drop, length, map, nat_lt, slice_index, slice_index_or, sum_by, ℕ, ◌&&◌, ◌*◌, ◌++◌, ◌+◌, ◌/◌, ◌<◌, ◌==◌, ◌^◌, ◌||◌, ◌∷◌, ◌≡◌, ◌≤◌}
use Rattle.std.specs.List.{between, range_with_len}
use Rattle.grid_core.specs.Pieces.{AreEnds, last_end, pieces}
use Rattle.engine_core.specs.RuleSystem.{RuleSystem, has_place}
use Rattle.engine_core.specs.HouseSets.{AreBelow, AreDifferent}
use Rattle.engine_core.specs.Sets.{AreWokenAt, is_waiting, words_of}
use Rattle.engine_core.specs.HouseRules.{House}

-- Lists of places, one after another in one list.

-- the lists that are closed, and what is begun of the next
pub record Listed : Type 0 where
  pub closed : List (List ℕ)
  pub begun : List ℕ

abbrev pub listed : List ℕ → List ℕ → Listed
listed places ends = record { closed = pieces places 0 ends; begun = drop (last_end 0 ends) places }

-- with one place more in the begun list, and with that list closed
abbrev pub with_place : Listed → ℕ → Listed
with_place list place = record list { begun = list.begun ++ place ∷ [] }

abbrev pub with_end : Listed → Listed
with_end list = record { closed = list.closed ++ list.begun ∷ []; begun = [] }

-- so many lists of so many places each, one after another
abbrev pub cut_evenly : ℕ → List ℕ → ℕ → List (List ℕ)
cut_evenly long places lists = map (λ k. between (k * long) (k * long + long) places) (range_with_len 0 lists)

-- the begun list may have so many places more: a list has fewer than 2^12
abbrev pub FitsPlaces : Listed → ℕ → Type 0
FitsPlaces list more = length list.begun + more < 2 ^ 12

-- so many lists more may be closed: fewer than 2^20 are
abbrev pub FitsLists : Listed → ℕ → Type 0
FitsLists list more = length list.closed + more < 2 ^ 20

-- ---- the places and ends of such lists. No public contract uses these words
pub record IsListed (places ends : List ℕ) : Type 0 where
  pub are_ends : AreEnds (length places) 0 ends
  pub few_lists : length ends < 2 ^ 20
  pub few_closed : last_end 0 ends ≤ 2 ^ 12 * length ends
  pub few_begun : length places < last_end 0 ends + 2 ^ 12

-- Tables of houses: which places each house has, and which houses have a place.

-- what callers see of a table of houses: how many cells the board has, and each house's places
pub record Table : Type 0 where
  pub cells : ℕ
  pub scopes : List (List ℕ)

abbrev pub scope_of : List (List ℕ) → ℕ → List ℕ
scope_of scopes h = slice_index_or scopes h []

-- different places of the board
pub record IsScope (cells : ℕ) (places : List ℕ) : Type 0 where
  pub within : AreBelow cells places
  pub different : AreDifferent places

abbrev pub AreScopes : ℕ → List (List ℕ) → Type 0
AreScopes cells scopes = (h : ℕ) → h < length scopes → IsScope cells (scope_of scopes h)

-- the marks of the houses that have the place
pub record AreMarksAt (scopes : List (List ℕ)) (place : ℕ) (marks : List ℕ) : Type 0 where
  pub as_many : length marks ≡ words_of (length scopes)
  pub each : (h : ℕ) → h < length scopes → is_waiting marks h ≡ has_place (scope_of scopes h) place

-- ---- one list of the marks of all places. No public contract uses these words
-- where the mark of a house at a place stands, where each place has so many words
abbrev pub place_bit : ℕ → ℕ → ℕ → ℕ
place_bit words place h = place * words * 64 + h

-- place by place the houses before the number that have it are marked
pub record AreMarked (cells : ℕ) (scopes : List (List ℕ)) (first : ℕ) (marks : List ℕ) : Type 0 where
  pub as_many : length marks ≡ cells * words_of (length scopes)
  pub each : (place h : ℕ) → place < cells → h / 64 < words_of (length scopes)
      → is_waiting marks (place_bit (words_of (length scopes)) place h)
      ≡ (nat_lt h first && has_place (scope_of scopes h) place)

-- there are so many words for each of the places
abbrev pub HasWordsAt : ℕ → List ℕ → List ℕ → Type 0
HasWordsAt words places marks = (k : ℕ) → k < length places → slice_index places k * words + words ≤ length marks

-- what is marked in the words is marked too
abbrev pub AreMarkedToo : List ℕ → List ℕ → List ℕ → Type 0
AreMarkedToo marks old new = (j : ℕ) → j / 64 < length marks → is_waiting new j ≡ (is_waiting old j || is_waiting marks j)

-- the marks of all places, of so many words each: where those of a place are joined to others, its houses are woken
pub record AreMarksOf (p : RuleSystem) (words : ℕ) (marks : List ℕ) : Type 0 where
  pub as_many : words ≡ words_of p.houses
  pub fit : (place : ℕ) → place < p.cells → place * words + words ≤ length marks
  pub wake : (place : ℕ) (before now : List ℕ) → place < p.cells
      → AreMarkedToo (between (place * words) (place * words + words) marks) before now
      → AreWokenAt p place before now

-- the house was marked at each of the places
pub record HasMarked (words house : ℕ) (places old new : List ℕ) : Type 0 where
  pub each : (place h : ℕ) → h / 64 < words → is_waiting new (place_bit words place h)
      ≡ (is_waiting old (place_bit words place h) || ((h == house) && has_place places place))

-- Rules whose houses are listed.

-- each house has the list's places
pub record AreScopesOf (p : RuleSystem) (scopes : List (List ℕ)) : Type 0 where
  pub as_many : p.houses ≡ length scopes
  pub each : (h : ℕ) → p.scope h ≡ scope_of scopes h

-- the table of the houses
abbrev pub table_of : RuleSystem → List (List ℕ) → Table
table_of p scopes = record { cells = p.cells; scopes = scopes }

-- the visits that they can call for: one of each house, and one more for each value of each of its cells
abbrev pub listed_visits : ℕ → List (List ℕ) → ℕ
listed_visits values scopes = sum_by length scopes * values + length scopes

-- the places of each of the houses
abbrev pub all_places : List House → List (List ℕ)
all_places houses = map (λ house. house.places) houses
