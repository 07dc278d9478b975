-- The states of a search for augmenting paths, over lists of numbers.
-- No public contract uses these words.
use Rattle.std.specs.Prelude.{◌≡◌, ℕ, ◌<◌, ◌≤◌, Bool, true, false, IsTrue, List, length, get_or, slice_index, Option, Some, None, ◌++◌, [], ◌∷◌, MatchOption, Contains}
use Rattle.grid_core.specs.declared.augmenting.Way.{Way}

-- whether a left is joined to a right
abbrev pub Joins : Type 0
Joins = ℕ → ℕ → Bool

-- the first `count` entries of a list differ from one another
pub record IsApart (xs : List ℕ) (count : ℕ) : Type 0 where
  pub differ : (i j : ℕ) → i < j → j < count → get_or xs i 0 ≡ get_or xs j 0 → ⊥

-- what contracts see of `Mates`: how many lefts and rights it has room for,
-- and the mates of the first lefts
pub record MatesView : Type 0 where
  pub room : ℕ
  pub mates : List ℕ

-- each right's owner is the left that has it for its mate
pub record AreOwners (owners : List (Option ℕ)) (mates : List ℕ) : Type 0 where
  pub owned : (l : ℕ) → l < length mates → get_or owners (slice_index mates l) None ≡ Some l
  pub own : (r l : ℕ) → get_or owners r None ≡ Some l
      → (l < length mates) × (slice_index mates l ≡ r)

-- no left has the right for its mate
abbrev pub IsFree : List ℕ → ℕ → Type 0
IsFree mates r = (l : ℕ) → l < length mates → slice_index mates l ≡ r → ⊥

-- each left that has a mate is joined to it
pub record AreMatesJoined (joins : Joins) (rights : ℕ) (mates : List ℕ) : Type 0 where
  pub in_range : (l : ℕ) → l < length mates → slice_index mates l < rights
  pub joined : (l : ℕ) → l < length mates → IsTrue (joins l (slice_index mates l))

-- what contracts see of `Reached`: how many lefts it has room for, the lefts in the order in which
-- they were reached, and for each the place of its parent
pub record FrontierView : Type 0 where
  pub room : ℕ
  pub lefts : List ℕ
  pub parents : List ℕ

-- different lefts, which are those seen
pub record AreLeftsReached (seen : List Bool) (lefts : List ℕ) : Type 0 where
  pub apart : IsApart lefts (length lefts)
  pub seen_each : (j : ℕ) → j < length lefts
      → get_or seen (slice_index lefts j) false ≡ true
  pub seen_only : (l : ℕ) → get_or seen l false ≡ true → Contains lefts l

-- the root, the first left without a mate, and lefts whose mates are joined to their parents
pub record IsFrontierOf (joins : Joins) (mates : List ℕ) (frontier : FrontierView) : Type 0 where
  pub some : 0 < length frontier.lefts
  pub root : slice_index frontier.lefts 0 ≡ length mates
  pub paired : (j : ℕ) → 0 < j → j < length frontier.lefts
      → slice_index frontier.lefts j < length mates
  pub as_many : length frontier.parents ≡ length frontier.lefts
  pub before : (j : ℕ) → 0 < j → j < length frontier.lefts
      → slice_index frontier.parents j < j
  pub joined : (j : ℕ) → 0 < j → j < length frontier.lefts
      → IsTrue (joins (slice_index frontier.lefts (slice_index frontier.parents j))
      (slice_index mates (slice_index frontier.lefts j)))

-- the left is joined to the right, which is free
pub record IsFreeFor (joins : Joins) (rights : ℕ) (mates : List ℕ)
    (left right : ℕ) : Type 0 where
  pub right_in : right < rights
  pub joined : IsTrue (joins left right)
  pub free : IsFree mates right

-- no right is free for the left
abbrev pub IsBlocked : Joins → ℕ → List ℕ → ℕ → Type 0
IsBlocked joins rights mates left = (r : ℕ) → IsFreeFor joins rights mates left r → ⊥

-- a left after the first has the right for its mate
abbrev pub IsMateOfLater : List ℕ → List ℕ → ℕ → Type 0
IsMateOfLater mates lefts r =
    (j : ℕ) × (0 < j) × (j < length lefts) × (slice_index mates (slice_index lefts j) ≡ r)

-- each right below `upto` that is joined to the left is free, or the mate of a left after the first
abbrev pub ReachesOwners : Joins → List ℕ → List ℕ → ℕ → ℕ → Type 0
ReachesOwners joins mates lefts left upto = (r : ℕ) → r < upto → IsTrue (joins left r)
    → (IsFree mates r → ⊥) → IsMateOfLater mates lefts r

-- a list begins with another
pub record Extends (xs ys : List ℕ) : Type 0 where
  pub grown : length xs ≤ length ys
  pub kept : (j : ℕ) → j < length xs → slice_index ys j ≡ slice_index xs j

-- each right that is joined to one of the first `count` lefts is the mate of a left after the first
abbrev pub IsExplored : Joins → ℕ → List ℕ → List ℕ → ℕ → Type 0
IsExplored joins rights mates lefts count = (j r : ℕ) → j < count → r < rights
    → IsTrue (joins (slice_index lefts j) r) → IsMateOfLater mates lefts r

-- ---- what contracts say of answers
-- no two of the first n lefts have the same mate
abbrev pub AreOwnMates : List ℕ → ℕ → Type 0
AreOwnMates mates n =
    (l m : ℕ) → l < n → m < n → slice_index mates l ≡ slice_index mates m → l ≡ m

-- the left that has the right for its mate, or none has
abbrev pub IsOwner : List ℕ → ℕ → Option ℕ → Type 0
IsOwner mates right owner = MatchOption owner (IsFree mates right)
    (λ l. (l < length mates) × (slice_index mates l ≡ right))

-- a right that is free for the left, or none is
abbrev pub IsFreeRight : Joins → ℕ → List ℕ → ℕ → Option ℕ → Type 0
IsFreeRight joins rights mates left right =
    MatchOption right (IsBlocked joins rights mates left) (IsFreeFor joins rights mates left)

-- one more left was reached
abbrev pub with_left : FrontierView → ℕ → ℕ → FrontierView
with_left frontier left parent = record {
  room = frontier.room;
  lefts = frontier.lefts ++ left ∷ [];
  parents = frontier.parents ++ parent ∷ [];
}

-- each right that is joined to the left at `head` is free, or the mate of a left that was reached
abbrev pub ReachesFrom : Joins → ℕ → MatesView → FrontierView → ℕ → Type 0
ReachesFrom joins rights mates frontier head =
    ReachesOwners joins mates.mates frontier.lefts (slice_index frontier.lefts head) rights

-- the right is free for the left at the place
abbrev pub IsFreeAt : Joins → ℕ → MatesView → FrontierView → Way → Type 0
IsFreeAt joins rights mates frontier way =
    IsFreeFor joins rights mates.mates (slice_index frontier.lefts way.place) way.right

-- such a way, or none: then each right that is joined to a left reached is the mate of another
abbrev pub IsAugmentingWay : Joins → ℕ → MatesView → FrontierView → Option Way → Type 0
IsAugmentingWay joins rights mates frontier answer = MatchOption answer
    (IsExplored joins rights mates.mates frontier.lefts (length frontier.lefts))
    (λ way. (way.place < length frontier.lefts) × IsFreeAt joins rights mates frontier way)
