-- Tests in their order, and the first of them that fails. A test is named by the fault that it finds.
use Rattle.std.specs.Prelude.{◌≡◌, ◌⊎◌, ℕ, List, [], ◌∷◌, ◌++◌, map, Option, Some, None}
use Rattle.std.specs.List.{AllByRecursion, range_with_len}

-- of these tests the first that fails
abbrev pub IsFirstFailed : {F : Type 0} → (F → Type 0) → List F → F → Type 0
IsFirstFailed fails [] fault = ⊥
IsFirstFailed fails (test ∷ tests) fault =
    ((test ≡ fault) × fails test) ⊎ ((fails test → ⊥) × IsFirstFailed fails tests fault)

-- none of these tests fails
abbrev pub NoneFails : {F : Type 0} → (F → Type 0) → List F → Type 0
NoneFails fails tests = AllByRecursion (λ test. fails test → ⊥) tests

-- the tests of these kinds, so many of each: kind by kind, and of one kind from 0 on
abbrev pub tests_of : {F : Type 0} → List ((ℕ → F) × ℕ) → List F
tests_of [] = []
tests_of (kind ∷ kinds) = map kind.0 (range_with_len 0 kind.1) ++ tests_of kinds

-- what a check answers: nothing of a solution, and else the first test that fails
abbrev pub IsAnswerOfCheck : {F : Type 0} → Type 0 → (F → Type 0) → List F → Option F → Type 0
IsAnswerOfCheck solution fails tests None = solution
IsAnswerOfCheck solution fails tests (Some fault) = IsFirstFailed fails tests fault

-- the first of these tests that fails, or none
abbrev pub IsFirstOf : {F : Type 0} → (F → Type 0) → List F → Option F → Type 0
IsFirstOf fails tests fault = IsAnswerOfCheck (NoneFails fails tests) fails tests fault
