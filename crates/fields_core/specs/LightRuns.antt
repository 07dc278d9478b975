-- The runs that the cells of a line are in, and what a cell sees. No public contract uses these words.
use Rattle.std.specs.Prelude.{Bool, List, [], false, filter, if◌then◌else◌, length, map, nat_lt, not, slice_index, slice_index_or, suc, true, ℕ, ◌&&◌, ◌*◌, ◌+◌, ◌-◌, ◌<◌, ◌==◌, ◌||◌, ◌∷◌, ◌≡◌, ◌≢◌, ◌≤◌}
use Rattle.fields_core.specs.Below.{Black, Light, LightCell, Numbered, White, beside, range_with_len}
use Rattle.fields_core.specs.CountHouse.{CountHouse, one_at_most}
use Rattle.fields_core.specs.Light.{bulb, clear, white}
use Rattle.fields_core.specs.declared.light_up.line.WhiteLine.{WhiteLine}
use Rattle.grid_core.specs.Words.{has_bit}

-- The runs that the cells of a line are in.

-- the numbers of a line around `at` that pass, one after another: from `start` to the one before `end`
pub record IsAround (test : ℕ → Bool) (len at start end : ℕ) : Type 0 where
  pub low : start ≤ at
  pub past : at < end
  pub high : end ≤ len
  pub pass : (i : ℕ) → start ≤ i → i < end → test i ≡ true
  pub first : (i : ℕ) → suc i ≡ start → test i ≡ false
  pub last : end < len → test end ≡ false

-- the latest run before the number `at`: the one around it, if it reaches it. Else no run goes on there
abbrev pub IsLatest : (ℕ → Bool) → ℕ → ℕ → ℕ × ℕ → Type 0
IsLatest test len at run =
    (at < run.1 → (run.0 < at) × IsAround test len at run.0 run.1)
    × (run.1 ≤ at → at < len → test at ≡ true → (i : ℕ) → suc i ≡ at → test i ≡ false)

-- which cells of a line are white, by number
abbrev pub line_white : Light → ℕ → ℕ → ℕ → Bool
line_white p first stride i = white p (first + i * stride)

-- the line of that puzzle which begins at the place, with the cells that far apart, and so many of them
pub record IsLine (p : Light) (start step cells : ℕ) (line : WhiteLine) : Type 0 where
  pub puzzle : line.puzzle.now ≡ p
  pub first : line.first ≡ start
  pub stride : line.stride ≡ step
  pub len : line.len ≡ cells

-- which of its cells are white, by number
abbrev pub whites_of : WhiteLine → ℕ → Bool
whites_of line = line_white line.puzzle.now line.first line.stride

-- its cells from one number to the one before another
abbrev pub cells_along : ℕ → ℕ → ℕ → ℕ → List ℕ
cells_along first stride from to =
    map (λ k. first + from * stride + k * stride) (range_with_len 0 (to - from))

-- a run begins at a cell of a line: it is white, and the cell before it is black or past the edge
abbrev pub begins_at : Light → ℕ → ℕ → ℕ → Bool
begins_at p first stride at =
    white p (first + at * stride) && ((at == 0) || not (white p (first + at * stride - stride)))

-- the house of that run, if one begins there
abbrev pub run_house : Light → ℕ → ℕ → ℕ → ℕ → List CountHouse
run_house p first stride len at =
    if begins_at p first stride at
    then one_at_most (map (λ i. first + i * stride)
    (filter (clear (line_white p first stride) at) (range_with_len 0 len))) ∷ []
    else []

abbrev pub house_along : WhiteLine → ℕ → List CountHouse
house_along line at = run_house line.puzzle.now line.first line.stride line.len at

-- Words of runs along a line, as they are written one after another.

-- the bits are the run that number `at` of a line of so many is in: none where it does not pass
abbrev pub IsRunAt : (ℕ → Bool) → ℕ → ℕ → ℕ → Type 0
IsRunAt test len at bits = (k : ℕ) → has_bit bits k ≡ (nat_lt k len && clear test at k)

-- the bits stand at the places of the numbers of a line from `start` on and before `end`, and other
-- words are as they were
pub record AreWordsFilled (first stride start end bits : ℕ) (from to : List ℕ) : Type 0 where
  pub each : (i : ℕ) → start ≤ i → i < end → slice_index to (first + i * stride) ≡ bits
  pub others : (c : ℕ) → ((i : ℕ) → start ≤ i → i < end → first + i * stride ≢ c)
      → slice_index to c ≡ slice_index from c

-- the runs of the first n numbers of a line stand at their cells, and other words are as they were
pub record AreWordsWritten (test : ℕ → Bool) (len first stride n : ℕ) (from to : List ℕ) : Type 0 where
  pub each : (i : ℕ) → i < n → IsRunAt test len i (slice_index to (first + i * stride))
  pub others : (c : ℕ) → ((i : ℕ) → i < n → first + i * stride ≢ c)
      → slice_index to c ≡ slice_index from c
  pub long : length to ≡ length from

-- the same of a word that is filled in, and of all runs of a line with these white cells
abbrev pub IsFilledIn : {W : Type 0} → (W → ℕ) → W → ℕ → ℕ → ℕ → ℕ → List W → List W → Type 0
IsFilledIn bits word first stride start end from to =
    AreWordsFilled first stride start end (bits word) (map bits from) (map bits to)

abbrev pub AreRunsWritten : {W : Type 0} → (W → ℕ) → W → ℕ → ℕ → ℕ → List W → List W → Type 0
AreRunsWritten bits white first stride len from to =
    AreWordsWritten (has_bit (bits white)) len first stride len (map bits from) (map bits to)

-- Runs of numbers that pass a test, and whether a number of a line sees a bulb.

-- the numbers after `at` pass, up to the one before the end; the end does not, if it is below len
pub record RunsOn (test : ℕ → Bool) (len at end : ℕ) : Type 0 where
  pub past : at < end
  pub high : end ≤ len
  pub pass : (i : ℕ) → at < i → i < end → test i ≡ true
  pub edge : end < len → test end ≡ false

-- the numbers before `at` pass, from `start` on; the one before `start` does not, if there is one
pub record RunsBack (test : ℕ → Bool) (at start : ℕ) : Type 0 where
  pub low : start ≤ at
  pub pass : (i : ℕ) → start ≤ i → i < at → test i ≡ true
  pub edge : (i : ℕ) → suc i ≡ start → test i ≡ false

-- whether one of the other numbers below len has a bulb, and from `at` to it all are white
abbrev pub ShinesAlong : (ℕ → Bool) → (ℕ → Bool) → ℕ → ℕ → Bool → Type 0
ShinesAlong white bulb at len true =
    (i : ℕ) × (i < len) × (i ≢ at) × (clear white at i ≡ true) × (bulb i ≡ true)
ShinesAlong white bulb at len false =
    (i : ℕ) → i < len → i ≢ at → clear white at i ≡ true → bulb i ≡ false

-- of the cell of that number of a line, in a grid
abbrev pub ShinesInLine : WhiteLine → List ℕ → ℕ → Bool → Type 0
ShinesInLine line g at sees =
    ShinesAlong (whites_of line) (λ i. bulb g (line.first + i * line.stride)) at line.len sees

-- whether another cell that is joined to the cell has a bulb
abbrev pub SeesAlong : (ℕ → ℕ → Bool) → ℕ → List ℕ → ℕ → Bool → Type 0
SeesAlong joined cells g c true =
    (d : ℕ) × (d < cells) × (d ≢ c) × (joined c d ≡ true) × (bulb g d ≡ true)
SeesAlong joined cells g c false =
    (d : ℕ) → d < cells → d ≢ c → joined c d ≡ true → bulb g d ≡ false

-- Numbers of Light Up that no grid meets.

-- the cell has a number other than 0
abbrev pub asks : LightCell → Bool
asks White = false
asks Black = false
asks (Numbered n) = nat_lt 0 n

-- it has a number other than 0, and no white cell beside it
abbrev pub lonely : Light → ℕ → Bool
lonely p c =
    asks (slice_index_or p.cells c Black) && (length (filter (white p) (beside p.size c)) == 0)
