-- What is drawn from a stream of random words, and the stream that is left; and the fillings that a maker tries.
use Rattle.std.specs.Prelude.{◌≡◌, ℕ, zero, suc, ◌^◌, ◌<◌, Bool, true, false, cond, List, [], ◌∷◌, ◌++◌, nat_lt, length, slice_index, ⊤, Vec, Result, Ok, Err}
use Rattle.maker_core.specs.Below.{Call, Stream, next_u32, range_with_len}
use Rattle.rand.specs.Uniform.{canon}
use Rattle.rand.specs.Shuffle.{shuffled}
use Rattle.maker_core.specs.declared.made.MakeFault.{MakeFault}
use Rattle.maker_core.specs.declared.made.MakeFault.TheVariants.{Exhausted, Memory, SizeRange}

-- each word that is asked for is below 2 ^ 32, as every generator's is
pub record HasWords (s : Stream) : Type 0 where
  pub below : (calls : List Call) → s.u32_after calls < 2 ^ 32

-- a number below n, as `random_range(0..n)` draws it over `u32`
abbrev pub draw_below : ℕ → Stream → ℕ × Stream
draw_below n = canon (2 ^ 32) next_u32 n

-- a list in the order that `SliceRandom::shuffle` brings it to
abbrev pub shuffled_list : List ℕ → Stream → List ℕ × Stream
shuffled_list items = shuffled items 0

-- the numbers below n in a shuffled order
abbrev pub shuffled_order : ℕ → Stream → List ℕ × Stream
shuffled_order n = shuffled_list (range_with_len 0 n)

-- for each of so many cells in turn, 1 for a black cell, where a draw below 100 is less than `black`, and else 0
unfoldable pub black_cells : ℕ → ℕ → Stream → List ℕ × Stream
black_cells black zero s = ([], s)
black_cells black (suc k) s =
    let before = black_cells black k s in
    let draw = draw_below 100 before.1 in
    (before.0 ++ cond (nat_lt draw.0 black) 1 0 ∷ [], draw.1)

-- each cell holds that number
abbrev pub AreAll : ℕ → List ℕ → Type 0
AreAll v cells = (k : ℕ) → k < length cells → slice_index cells k ≡ v

-- a filling made of a stream, and the stream that is left
abbrev pub Making : Type 0 → Type 0
Making A = Stream → A × Stream

-- it is made of a generator's stream, and the stream of the new generator is left; so a list is
abbrev pub IsDrawnBy : {A G : Type 0} → Making A → (G → Stream) → G → G → A → Type 0
IsDrawnBy make stream old new x = (x, stream new) ≡ make (stream old)

abbrev pub AreDrawnBy : {G Z : Type 0}
    → Making (List ℕ) → (G → Stream) → G → G → Vec ℕ Z → Type 0
AreDrawnBy make stream old new list = IsDrawnBy make stream old new list.items

-- the stream that is left after k fillings
unfoldable pub stream_after : {A : Type 0} → Making A → ℕ → Stream → Stream
stream_after make zero s = s
stream_after make (suc k) s = (make (stream_after make k s)).1

-- the k-th filling of a stream, from 0
abbrev pub filling_at : {A : Type 0} → Making A → ℕ → Stream → A
filling_at make k s = (make (stream_after make k s)).0

-- of the first so many fillings, the first that passes is the k-th
pub record IsFirstPassing {A : Type 0} (make : Making A) (passes : A → Bool) (s : Stream)
    (tries k : ℕ) : Type 0 where
  pub within : k < tries
  pub passing : passes (filling_at make k s) ≡ true
  pub failing : (j : ℕ) → j < k → passes (filling_at make j s) ≡ false

-- none of the first so many fillings passes
pub record NonePasses {A : Type 0} (make : Making A) (passes : A → Bool) (s : Stream)
    (tries : ℕ) : Type 0 where
  pub failing : (j : ℕ) → j < tries → passes (filling_at make j s) ≡ false

-- What a maker tries: how a filling is made of a stream, which fillings pass, how many may be made, and which stream is
-- left when a filling that passes was made to a puzzle.
pub record Tries (A : Type 0) : Type 0 where
  pub make : Making A
  pub passes : A → Bool
  pub count : ℕ
  pub ends : A → Stream → Stream

-- the filling is the first that passes, and that stream is left after it
pub record IsFirst {A : Type 0} (t : Tries A) (s : Stream) (filling : A) (left : Stream)
    : Type 0 where
  pub k : ℕ
  pub first : IsFirstPassing t.make t.passes s t.count k
  pub filled : filling ≡ filling_at t.make k s
  pub drawn : left ≡ stream_after t.make (suc k) s

-- so it is of a generator's stream
abbrev pub IsFirstDrawn : {A G : Type 0} → Tries A → (G → Stream) → G → G → A → Type 0
IsFirstDrawn t stream old new filling = IsFirst t (stream old) filling (stream new)

-- what is left is the stream after all of the tries
abbrev pub AllDrawn : {A G : Type 0} → Tries A → (G → Stream) → G → G → Type 0
AllDrawn t stream old new = stream new ≡ stream_after t.make t.count (stream old)

-- none of the tries passes
abbrev pub AllFail : {A : Type 0} → Tries A → Stream → Type 0
AllFail t s = NonePasses t.make t.passes s t.count

-- What is left of a stream: where a puzzle is made, that after the first filling that passes and what is drawn for its
-- puzzle; where the tries are used up, that after all of them. A size that is refused draws nothing.
abbrev pub LeavesStream : {A X : Type 0} → Tries A → Stream → Stream → Result X MakeFault → Type 0
LeavesStream t old new (Ok made) = (k : ℕ) → IsFirstPassing t.make t.passes old t.count k
    → new ≡ t.ends (filling_at t.make k old) (stream_after t.make (suc k) old)
LeavesStream t old new (Err SizeRange) = new ≡ old
LeavesStream t old new (Err Exhausted) = new ≡ stream_after t.make t.count old
LeavesStream t old new (Err Memory) = ⊤

-- so it is of a generator's stream
abbrev pub LeavesGenerator : {A X G : Type 0}
    → Tries A → (G → Stream) → G → G → Result X MakeFault → Type 0
LeavesGenerator t stream old new result = LeavesStream t (stream old) (stream new) result
