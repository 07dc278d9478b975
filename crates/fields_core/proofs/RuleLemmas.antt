-- Where a search of count houses starts, and the first test that fails.
use Rattle.fields_core.proofs.Common.{AllByRecursion, AreRight, Bool, Candidates, IsFirstFailed, IsKindMade, IsNext, Layout, List, None, Option, Row, SameShape, Some, TestKind, [], all_of, and-true, arith, cases_eq, cases_lt, common_steps, covers, crosses, div-add-mod', div-lt_iff_lt-mul, eq-eqb, eqb, first_in, fun_ext, has_bit, le-ltb, lt-ltb, ltb, mod-lt, ne_eqb, not, not-false, not-true, or-false, or-true, start_of, tests, true, without, without_taking, ℕ, ◌&&◌, ◌*◌, ◌++◌, ◌+◌, ◌<◌, ◌∙◌, ◌∷◌, ◌≡◌, ◌≤◌}

-- The board that a search of count houses starts from.

-- ---- the start, with the cells below a place blocked
pub record IsStarted (cells : ℕ) (blocked : ℕ → Bool) (n : ℕ) (K : Candidates) : Type 0 where
  pub sets : (c v : ℕ) → K c v ≡ (all_of cells 2 c v && not ((ltb c n && blocked c) && eqb v 1))

pub started : (cells : ℕ) {blocked : ℕ → Bool} (K : Candidates) → K ≡ all_of cells 2 → IsStarted cells blocked 0 K
started cells K e = grind (arith, common_steps, le-ltb, and-true)

pub start-blocked : {cells : ℕ} {blocked : ℕ → Bool} (n : ℕ) (K K' : Candidates)
    → IsStarted cells blocked n K → blocked n ≡ true → K' ≡ without K n 1
    → IsStarted cells blocked (n + 1) K'
unfolding without
start-blocked n K K' before is left = grind (arith, common_steps, cases_eq, eq-eqb, lt-ltb, or-true, ne_eqb, or-false, cases_lt, le-ltb)

-- the cells of one row more, with the blocked ones of the row taken from
pub row-blocked : {cells : ℕ} {blocked : ℕ → Bool} {w w' : ℕ} (y bits : ℕ) {K K' : Candidates} → 0 < w → w' ≡ w → IsStarted cells blocked (y * w) K
    → K' ≡ without_taking w' K (record { line = Row y; value = 1; bits = bits }) → ((x : ℕ) → has_bit bits x ≡ (ltb x w && blocked (y * w + x)))
    → IsStarted cells blocked ((y + 1) * w) K'
unfolding without_taking covers crosses
row-blocked {cells} {blocked} {w} y bits pos e before left is = grind (arith, common_steps, ltb, div-lt_iff_lt-mul, div-add-mod', mod-lt)

pub start-all : {cells : ℕ} {blocked : ℕ → Bool} {n : ℕ} {K : Candidates} → IsStarted cells blocked n K → cells ≤ n → K ≡ start_of cells blocked
unfolding start_of all_of
start-all before ge = grind (arith, common_steps, fun_ext, cases_lt, lt-ltb, le-ltb)

pub same-shape : {a b c : Layout} → SameShape a b → SameShape b c → SameShape a c
same-shape p q = record { same_values = q.same_values ∙ p.same_values; same_cells = q.same_cells ∙ p.same_cells }

-- The first test of a kind that fails, as a search for it tells.

-- so a search for a wrong one of this kind comes out
abbrev pub IsFirstWrong : {F : Type 0} → TestKind F → Option ℕ → Type 0
IsFirstWrong k found = IsNext (λ n. not (k.right n)) k.count 0 found

module _ {F : Type 0} (fails : F → Type 0) where
  pub all-right : (kinds : List (TestKind F)) → AllByRecursion (λ k. IsFirstWrong k None) kinds → AllByRecursion (AreRight fails) kinds
  all-right [] none = tt
  all-right (k ∷ kinds) none = (λ c lt. not-false _ (none.0 c (omega arith) lt), all-right kinds none.1)

  pub first-wrong : (front : List (TestKind F)) (k : TestKind F) (rest : List (TestKind F)) → AllByRecursion (IsKindMade fails) (front ++ k ∷ rest)
      → AllByRecursion (λ k. IsFirstWrong k None) front → {c : ℕ} → IsFirstWrong k (Some c) → IsFirstFailed fails (tests (front ++ k ∷ rest)) (k.test c)
  first-wrong front k rest made none {c} next =
      first_in fails front k rest made (all-right front none) c next.1 (not-true _ next.2) (λ d low. not-false _ (next.3 d (omega arith) low))
