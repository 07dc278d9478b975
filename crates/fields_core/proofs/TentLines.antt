-- Tents: lines, the cells that a cell touches, and the next cell that passes.
use Rattle.fields_core.proofs.Common.{Bool, Extent, IsNext, IsTentAmong, IsWindow, List, MatchOption, None, Option, Some, Tents, [], add-one, and_from, and_left, and_parts, any_below, any_below-here, any_below-some, ap, append-nil, are_near, arith, bool_byte, cases_Bool, cases_eq, cases_lt, common_steps, cond, count_below, count_by, counted, div-add-mod', div-mul-add, eq-eqb, false, false_from_ne_true, get_or, get_or-append_right, get_or-set_other, get_or-set_same, get_or_append_left, inl, inr, is_barred, le-leb, leb-true, length, length-append, list_any, may_pair, min, mod-lt, mod-mul-add, ne_eqb, not, numbered, one_at_most, place-column, refl, set, slice_index, square_house, step, steps, suc, sym, take, tent, tent_cells, touches, tree, tree_beside, tree_count, trees_of, true, true≢false, zero, ℕ, ◌%◌, ◌&&◌, ◌*◌, ◌+◌, ◌-◌, ◌/◌, ◌<◌, ◌∙◌, ◌∷◌, ◌≡◌, ◌≤◌, ◌⊎◌}
use Rattle.fields_core.proofs.RunLemmas.{passing, passing-more, passing-suc}
use Rattle.fields_core.proofs.BesideLemmas.{ascends, some-inj, steps-has, steps-some}

-- The houses of lines and of squares of Tents.

-- the squares, by the column and the row of their top left cells
pub square-there : (p : Tents) (y x : ℕ) → x + 1 < p.size.w → y + 1 < p.size.h
    → square_house p (y * p.size.w + x) ≡ one_at_most ((y * p.size.w + x) ∷ (y * p.size.w + x + 1) ∷ (y * p.size.w + x + p.size.w) ∷ (y * p.size.w + x + p.size.w + 1) ∷ []) ∷ []
square-there p y x right low = grind (arith, common_steps, place-column, div-mul-add)

pub square-none : (p : Tents) (y x : ℕ) → x < p.size.w → ((x + 1 < p.size.w) → p.size.h ≤ y + 1) → square_house p (y * p.size.w + x) ≡ []
square-none p y x lt edge = grind (arith, common_steps, place-column, div-mul-add)

-- The tents of a line, and the cells that a cell can touch.

-- so many of the first cells of a line have a tent
pub record IsLineCounted (g line : List ℕ) (n tents : ℕ) : Type 0 where
  pub few : tents ≤ n
  pub same : tents ≡ count_by (tent g) (take n line)

pub line-start : (g line : List ℕ) → IsLineCounted g line 0 0
line-start g line = record { few = omega arith; same = refl }

pub line-skip : (g line : List ℕ) (n tents d v : ℕ) → IsLineCounted g line n tents → n < length line
    → d ≡ slice_index line n → v ≡ slice_index g d → (v ≡ 1 → ⊥)
    → IsLineCounted g line (n + 1) tents
line-skip g line n tents d v before lt at is none = grind (arith, common_steps, ne_eqb)

pub line-more : (g line : List ℕ) (n tents d v : ℕ) → IsLineCounted g line n tents → n < length line
    → d ≡ slice_index line n → v ≡ slice_index g d → v ≡ 1
    → IsLineCounted g line (n + 1) (tents + 1)
line-more g line n tents d v before lt at is one = grind (arith, common_steps, eq-eqb)

pub line-all : (g line : List ℕ) (n m tents : ℕ) → IsLineCounted g line n tents → length line ≡ m → m ≤ n → tents ≡ count_by (tent g) line
line-all g line n m tents before long ge = grind (arith, common_steps)

-- a cell touches only those that are no further than a row and a cell
near-parts : (a b : ℕ) → are_near a b ≡ true → (a ≤ b + 1) × (b ≤ a + 1)
near-parts a b on = let w = and_parts _ _ on in (leb-true _ _ w.0, leb-true _ _ w.1)

-- it lies in the row, and each of its cells is near
record HasEnds (w a first end : ℕ) : Type 0 where
  pub near_first : a ≤ first + 1
  pub at_first : first ≤ a
  pub at_end : a < end
  pub near_end : end ≤ a + 2
  pub row_first : a / w * w ≤ first
  pub row_end : end ≤ a / w * w + w

-- a cell of the window, or of the same columns in the row above or below
pub record IsNearWindow (w first end d : ℕ) : Type 0 where
  pub side : ((first ≤ d) × (d < end)) ⊎ (((first - w ≤ d) × (d < end - w)) ⊎ ((first + w ≤ d) × (d < end + w)))

near-from : (a b : ℕ) → a ≤ b + 1 → b ≤ a + 1 → are_near a b ≡ true
near-from a b p q = and_from _ _ (le-leb _ _ p) (le-leb _ _ q)

-- a cell of row v and column u is touched where both are near
pub touch-from : (size : Extent) (a d v u : ℕ) → d ≡ v * size.w + u → u < size.w → (d ≡ a → ⊥)
    → a / size.w ≤ v + 1 → v ≤ a / size.w + 1 → a % size.w ≤ u + 1 → u ≤ a % size.w + 1
    → touches size a d ≡ true
unfolding touches
touch-from size a d v u e lt other p q r s = grind (arith, common_steps, div-mul-add, mod-mul-add, near-from, and_from, ne_eqb)

row-before : (y w : ℕ) → 1 ≤ y → (y - 1) * w + w ≡ y * w
row-before (suc v) w p = let e : suc v - 1 ≡ v = omega arith in rw e (omega arith)
row-before zero w p = absurd (omega arith)

none-below : (test : ℕ → Bool) (n : ℕ) → ((k : ℕ) → k < n → test k ≡ false) → false ≡ any_below test n
none-below test n none = grind (arith, common_steps, false_from_ne_true, any_below-some)

-- a row that ends past the first is not the first
second-row : (y w : ℕ) → w < y * w + w → 1 ≤ y
second-row zero w lt = absurd (omega arith)
second-row (suc y) w lt = omega arith

one-row : (y w : ℕ) → 1 ≤ y → w ≤ y * w
one-row zero w p = absurd (omega arith)
one-row (suc y) w p = omega arith

module _ (size : Extent) {a first end : ℕ} (pos : 0 < size.w) (window : IsWindow size.w a first end) where
  here : a ≡ a / size.w * size.w + a % size.w
  here = sym (div-add-mod' a size.w)

  low : a % size.w < size.w
  low = mod-lt a pos

  ends : HasEnds size.w a first end
  ends = grind (arith, common_steps, here, low)

  pub touch-beside : (d : ℕ) → first ≤ d → d < end → (d ≡ a → ⊥) → touches size a d ≡ true
  touch-beside d p q other =
      let e = ends in
      touch-from size a d (a / size.w) (d - a / size.w * size.w) (omega arith) (omega arith) other
      (omega arith) (omega arith) (omega (arith, here)) (omega (arith, here))

  pub touch-above : (d : ℕ) → first - size.w ≤ d → d < end - size.w → touches size a d ≡ true
  touch-above d p q =
      let e = ends in let row = second-row _ size.w (omega arith) in
      let back = row-before _ size.w row in let third : size.w ≤ first = omega (arith, one-row (a / size.w) size.w row) in
      touch-from size a d (a / size.w - 1) (d - (a / size.w - 1) * size.w) (omega arith)
      (omega arith) (omega arith) (omega arith) (omega arith) (omega (arith, here))
      (omega (arith, here))

  pub touch-below : {d : ℕ} → first + size.w ≤ d → d < end + size.w → touches size a d ≡ true
  touch-below {d} p q =
      let e = ends in let next : (a / size.w + 1) * size.w ≡ a / size.w * size.w + size.w = omega arith in
      touch-from size a d (a / size.w + 1) (d - (a / size.w + 1) * size.w) (omega arith)
      (omega arith) (omega arith) (omega arith) (omega arith) (omega (arith, here))
      (omega (arith, here))

  -- the cells of another row at the same columns
  inside : {u : ℕ} → u < size.w → a % size.w ≤ u + 1 → u ≤ a % size.w + 1 → (first ≤ a / size.w * size.w + u) × (a / size.w * size.w + u < end)
  inside lt p q = grind (arith, common_steps, here)

  -- a cell that is touched is another one of the three windows
  pub is-touched : (d : ℕ) → touches size a d ≡ true → (d ≡ a → ⊥) × IsNearWindow size.w first end d
  unfolding touches
  is-touched d on =
      let w = and_parts _ _ on in let v = and_parts _ _ w.1 in
      let rows = near-parts (a / size.w) (d / size.w) v.0 in let columns = near-parts (a % size.w) (d % size.w) v.1 in
      let there : d ≡ d / size.w * size.w + d % size.w = sym (div-add-mod' d size.w) in
      let at = inside (mod-lt d pos) (omega arith) (omega arith) in (
        (λ e. grind (arith, common_steps)),
        elim (cases_lt (d / size.w) (a / size.w)) [
          | inl less ↦ let up = row-before (a / size.w) size.w (omega arith) in
              let same : d / size.w ≡ a / size.w - 1 = omega arith in
              let back : d / size.w * size.w + size.w ≡ a / size.w * size.w = rw same up in
              record { side = inr (inl (omega (arith, there), omega (arith, there))) }
          | inr more ↦ elim (cases_lt (a / size.w) (d / size.w)) [
            | inl less ↦ let next : d / size.w * size.w ≡ (a / size.w + 1) * size.w = ap (λ n. n * size.w) (omega arith) in
                record { side = inr (inr (omega (arith, there), omega (arith, there))) }
            | inr rest ↦ let next : d / size.w * size.w ≡ a / size.w * size.w = ap (λ n. n * size.w) (omega arith) in
                record { side = inl (omega (arith, there), omega (arith, there)) }
          ]
        ],
      )

  module _ {g : List ℕ} (n : ℕ) where
    pub touched : {from to : ℕ} {found : Bool} → IsTentAmong g a from to found → found ≡ true
        → to ≤ n → ((d : ℕ) → from ≤ d → d < to → (d ≡ a → ⊥) → touches size a d ≡ true)
        → found ≡ any_below (λ d. touches size a d && tent g d) n
    touched among is within near =
        let w = among.some is in
        is ∙ sym (any_below-here (λ d. touches size a d && tent g d) n w.0 (omega (arith, w.2)) (and_from _ _ (near w.0 w.1 w.2 w.3) w.4))

    pub untouched : {from to last : ℕ} {found : Bool} → IsTentAmong g a first end false
        → IsTentAmong g a from to false → IsTentAmong g a (first + size.w) last found
        → from ≡ first - size.w → to ≡ end - size.w → last ≡ min n (end + size.w) → found ≡ false → found ≡ any_below (λ d. touches size a d && tent g d) n
    untouched beside above below ef et el off = grind (arith, common_steps, none-below, cases_Bool, and_left, is-touched)

pub some-wide : (size : Extent) {a : ℕ} → a < size.w * size.h → 0 < size.w
some-wide size lt = grind (arith, common_steps)

-- Numbers below n that pass a test, by how many pass before them.
pub passing-long : (test : ℕ → Bool) (n : ℕ) → length (passing test n) ≡ count_below test n
unfolding count_below
passing-long test zero = refl
passing-long test (suc n) = grind (arith, common_steps, passing-suc, length-append, cases_Bool, passing-long test n)

-- the number of a place of the list
pub at-passing : (test : ℕ → Bool) (n : ℕ) {c : ℕ} → c < n → test c ≡ true → slice_index (passing test n) (count_below test c) ≡ c
at-passing test zero lt on = absurd (omega arith)
at-passing test (suc n) {c} lt on = ap (λ l. slice_index l (count_below test c)) (passing-suc test n) ∙ elim (cases_lt c n) [
  | inl low ↦ get_or_append_left (passing test n) (cond (test n) (n ∷ []) []) 0 (count_below test c)
      (omega (arith, counted test c n low on, passing-long test n)) ∙ at-passing test n low on
  | inr high ↦ grind (arith, common_steps, get_or-append_right, passing-long)
]

pub record IsPassing (test : ℕ → Bool) (n r : ℕ) : Type 0 where
  pub below : slice_index (passing test n) r < n
  pub passes : test (slice_index (passing test n) r) ≡ true
  pub before : count_below test (slice_index (passing test n) r) ≡ r

pub passing-at : (test : ℕ → Bool) (n r : ℕ) → r < length (passing test n) → IsPassing test n r
passing-at test n r lt =
    let w = numbered test n r (omega (arith, passing-long test n)) in
    let at : slice_index (passing test n) r ≡ w.0 = rw w.3 at (at-passing test n w.1 w.2) in
    record { below = rw at w.1; passes = rw at w.2; before = rw at w.3 }

-- ---- the tents of a grid, one after another
pub listed-skip : (g tents : List ℕ) (count n : ℕ) {v : ℕ} → take count tents ≡ passing (tent g) n
    → v ≡ slice_index g n → (v ≡ 1 → ⊥) → take count tents ≡ passing (tent g) (n + 1)
listed-skip g tents count n before at none = grind (arith, common_steps, passing-more, ne_eqb, append-nil)

pub listed-keep : (g tents : List ℕ) (count n v : ℕ) → take count tents ≡ passing (tent g) n
    → v ≡ slice_index g n → v ≡ 1 → count < length tents
    → take (count + 1) (set tents count n) ≡ passing (tent g) (n + 1)
listed-keep g tents count n v before at one lt = grind (arith, common_steps, passing-more, eq-eqb)

pub listed-all : (g tents : List ℕ) (count n cells : ℕ) → take count tents ≡ passing (tent g) n → n ≡ cells → take count tents ≡ passing (tent g) cells
listed-all g tents count n cells before e = before ∙ ap (passing (tent g)) e

-- ---- how many pass before each number
pub count-none : (test : ℕ → Bool) → 0 ≡ count_below test 0
unfolding count_below
count-none test = refl

pub count-more : (test : ℕ → Bool) (n k : ℕ) (on : Bool) → k ≡ count_below test n → on ≡ test n → k + bool_byte on ≡ count_below test (n + 1)
unfolding count_below
count-more test n k true e is = rw (add-one n, sym is) (omega arith)
count-more test n k false e is = rw (add-one n, sym is) (omega arith)

pub byte-few : (on : Bool) → bool_byte on ≤ 1
byte-few true = omega arith
byte-few false = omega arith

pub numbers-more : (test : ℕ → Bool) (numbers : List ℕ) (n : ℕ) {k : ℕ}
    → ((c : ℕ) → c < n → get_or numbers c 0 ≡ count_below test c) → k ≡ count_below test n
    → n < length numbers
    → (c : ℕ) → c < n + 1 → get_or (set numbers n k) c 0 ≡ count_below test c
numbers-more test numbers n before e lt c less = grind (arith, common_steps, cases_eq, get_or-set_same, get_or-set_other)

-- The next cell that a cell is joined to, and whether a tree is beside a cell: the cells beside a cell ascend by direction.
none-some : (d : ℕ) → None ≡ Some d → ⊥
none-some d e = grind (arith, common_steps)

-- no tree in the first n directions has the number `from` or a later one
pub record AreDirectionsPassed (p : Tents) (c from n : ℕ) : Type 0 where
  pub none : (k d : ℕ) → k < n → step p.size c k ≡ Some d → tree p d ≡ true → count_below (tree p) d < from

pub passed-start : (p : Tents) (c from : ℕ) → AreDirectionsPassed p c from 0
passed-start p c from = record { none = λ k d lt e on. absurd (omega arith) }

pub passed-edge : (p : Tents) (c from n : ℕ) → AreDirectionsPassed p c from n → None ≡ step p.size c n → AreDirectionsPassed p c from (n + 1)
passed-edge p c from n before edge = grind (arith, common_steps, cases_eq, none-some)

pub passed-bare : (p : Tents) (c from n other : ℕ) → AreDirectionsPassed p c from n → Some other ≡ step p.size c n → tree p other ≡ false → AreDirectionsPassed p c from (n + 1)
passed-bare p c from n other before at off = grind (arith, common_steps, cases_eq, some-inj)

pub passed-early : (p : Tents) (c from n other number : ℕ) → AreDirectionsPassed p c from n
    → Some other ≡ step p.size c n → number ≡ count_below (tree p) other → number < from
    → AreDirectionsPassed p c from (n + 1)
passed-early p c from n other number before at is early = grind (arith, common_steps, cases_eq, some-inj)

pub next-none : (p : Tents) (c from n : ℕ) → AreDirectionsPassed p c from n → 4 ≤ n → IsNext (tree_beside p c) (tree_count p) from None
next-none p c from n passed all = grind (arith, common_steps, false_from_ne_true, passing-at, passing-long, steps-some, slice_index)

pub next-found : {p : Tents} {c from n other number : ℕ} → 2 ≤ p.size.w → AreDirectionsPassed p c from n
    → n < 4 → Some other ≡ step p.size c n → other < tent_cells p → tree p other ≡ true
    → number ≡ count_below (tree p) other → from ≤ number
    → IsNext (tree_beside p c) (tree_count p) from (Some number)
next-found {p} {c} {n} {other} wide passed lt at inside on is ge = (
  ge,
  omega (arith, counted (tree p) other (tent_cells p) inside on),
  rw (is, at-passing (tree p) (tent_cells p) inside on) (steps-has p.size c 4 n lt (sym at)),
  λ j from_j less. false_from_ne_true _ (λ near.
      let u = counted (tree p) other _ inside on in
      let w = passing-at (tree p) _ j (omega (arith, passing-long (tree p) (tent_cells p))) in
      let s = steps-some p.size c 4 _ near in let b = w.before in
      elim (cases_lt s.0 n) [
        | inl early ↦ omega (arith, passed.none s.0 (slice_index (trees_of p) j) early s.2 w.passes)
        | inr late ↦ elim (cases_eq s.0 n) [
          | inl same ↦ let e : other ≡ slice_index (trees_of p) j = some-inj (at ∙ rw same at s.2) in omega (arith, ap (count_below (tree p)) e)
          | inr after ↦
              let up : other < slice_index (trees_of p) j = ascends p.size c other n s.0 (omega arith) (omega arith) s.1 (sym at) s.2 in omega (arith, counted (tree p) other (slice_index (trees_of p) j) up on)
        ]
      ]),
)

-- the next tree that a tent is joined to
abbrev pub IsNextPaired : Tents → List ℕ → ℕ → ℕ → Option ℕ → Type 0
IsNextPaired p tents l from o = MatchOption o ((r : ℕ) → from ≤ r → r < tree_count p → may_pair p tents l r ≡ true → ⊥)
    (λ r. (from ≤ r) × (r < tree_count p) × (may_pair p tents l r ≡ true) × ((q : ℕ) → from ≤ q → q < r → may_pair p tents l q ≡ true → ⊥))

pub next-joined : (p : Tents) (tents : List ℕ) (l from c : ℕ) (o : Option ℕ)
    → c ≡ slice_index tents l → IsNext (tree_beside p c) (tree_count p) from o
    → IsNextPaired p tents l from o
unfolding may_pair
next-joined p tents l from c None e next = λ r ge lt on. true≢false (sym (rw (sym e) at on) ∙ next r ge lt)
next-joined p tents l from c (Some d) e next = (next.0, next.1, rw (sym e) next.2, λ q ge lt on. true≢false (sym (rw (sym e) at on) ∙ next.3 q ge lt))

-- ---- whether a cell can have no tent
pub barred-tree : (p : Tents) (c : ℕ) → tree p c ≡ true → true ≡ is_barred p c
unfolding is_barred
barred-tree p c on = rw on refl

pub barred-alone : (p : Tents) (c : ℕ) {beside : Bool} → tree p c ≡ false → beside ≡ list_any (tree p) (steps p.size c 4) → not beside ≡ is_barred p c
unfolding is_barred
barred-alone p c off is = rw (off, is) refl
