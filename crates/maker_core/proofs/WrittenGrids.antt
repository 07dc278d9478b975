-- Ranges that are filtered, and grids of which a cell is written.
use Rattle.grid_core.proofs.PairingLemmas.{contains_from_member, member_of_filter}
use Rattle.maker_core.proofs.Common.{All-contains, All-from_recursion, All-replicate, All-set, AllByRecursion, Bool, Contains, IsGrid, List, [], ap, append-nil, arith, common_steps, cond, elements, eqb, false, filter, filter-append, get_or, get_or-replicate, get_or_past, length, length-replicate, length-set, lt-ltb, map-id, map-range_with_len_more, range_with_len, refl, replicate, set, set-get_or, set-set, slice_index, slice_set, sym, true, ℕ, ◌++◌, ◌+◌, ◌<◌, ◌==◌, ◌∙◌, ◌∷◌, ◌≡◌, ◌≢◌, ◌⊎◌}

-- A filter of a range grows by its end, and keeps each number that passes.

-- one more number of a range
pub range_more : (k : ℕ) → range_with_len 0 (k + 1) ≡ range_with_len 0 k ++ k ∷ []
range_more k = simp map-id at (map-range_with_len_more (λ x. x) 0 k k (omega arith))

filter_more : (p : ℕ → Bool) (k : ℕ) → filter p (range_with_len 0 (k + 1)) ≡ filter p (range_with_len 0 k) ++ cond (p k) (k ∷ []) []
filter_more p k = rw range_more (filter-append p _ (k ∷ []))

pub filter_kept : (p : ℕ → Bool) (k : ℕ) (xs ys : List ℕ) → p k ≡ true → xs ≡ filter p (range_with_len 0 k) → ys ≡ xs ++ k ∷ []
    → ys ≡ filter p (range_with_len 0 (k + 1))
filter_kept p k xs ys passes before more = grind (arith, filter_more p k)

pub filter_skipped : (p : ℕ → Bool) (k : ℕ) (xs : List ℕ) → p k ≡ false → xs ≡ filter p (range_with_len 0 k) → xs ≡ filter p (range_with_len 0 (k + 1))
filter_skipped p k xs fails before = grind (arith, filter_more p k, append-nil (filter p (range_with_len 0 k)))

-- a number of the range that passes is kept
pub passes_kept : (p : ℕ → Bool) (n q : ℕ) → q < n → p q ≡ true → Contains (filter p (range_with_len 0 n)) q
passes_kept p n q lt on = contains_from_member _ q (member_of_filter p n q ∙ rw (lt-ltb q n lt, on) refl)

-- no number after the head is the head
pub head_apart : (xs : List ℕ) {x q : ℕ} → AllByRecursion (λ y. eqb x y ≡ false) xs → Contains xs q → q ≢ x
head_apart xs {x} {q} apart held = grind (arith, common_steps, All-contains, All-from_recursion)

-- what the listing of cells that pass cites
pub ruleset filter_laws = (filter_kept, filter_skipped)

-- Grids of 0 and 1, of which a cell is written.

pub zeros-grid : {n : ℕ} → IsGrid n 2 (replicate n 0)
zeros-grid {n} = grind (arith, common_steps, length-replicate, All-replicate)

pub grid_with : {n : ℕ} (c v : ℕ) {g h : List ℕ} → v < 2 → h ≡ slice_set g c v → IsGrid n 2 g → IsGrid n 2 h
grid_with c v {g} few e grid = grind (arith, common_steps, length-set, All-set)

pub no_one : (n c : ℕ) → (slice_index (replicate n 0) c == 1) ≡ true → ⊥
no_one n c on = grind (arith, common_steps, length-replicate, get_or-replicate, get_or_past)

-- the cells that hold 1 when one more does: that one, and those that held it before
pub new_or_old : (g : List ℕ) (c d : ℕ) → (slice_index (slice_set g c 1) d == 1) ≡ true → (d ≡ c) ⊎ ((slice_index g d == 1) ≡ true)
new_or_old g c d on = grind (arith, elements)

pub old_stays : (g : List ℕ) (c d : ℕ) → c < length g → (slice_index g d == 1) ≡ true → (slice_index (slice_set g c 1) d == 1) ≡ true
old_stays g c d lt on = grind (arith, elements)

pub set_back : {X : Type 0} (xs : List X) (i : ℕ) (gone x d : X) → get_or xs i d ≡ x → set (set xs i gone) i x ≡ xs
set_back xs i gone x d is = set-set xs i gone x ∙ ap (set xs i) (sym is) ∙ set-get_or xs i d
