-- What fewer givens change.
use Rattle.maker_core.specs.Below.{IsSoloSolution, Solo, Solves, all_below-at, all_below-from, and_from, and_parts, cases_lt, common_steps, get_or-set_other, get_or-set_same, get_or_past, houses_rules, is_solo_solution, le_refl, length-set, slice_index, slice_set, solo_puzzle}
use Rattle.std.proofs.Common.{◌≡◌, ℕ, zero, suc, ◌+◌, ◌<◌, ◌≤◌, true, Some, List, length, refl, sym, ◌∙◌, ap, subst, arith}
use Rattle.std.proofs.lemmas.Option.{none-some}
use Rattle.solo_core.specs.declared.houses.house.NamedHouse.{NamedHouse}
use Rattle.solo_core.specs.Houses.{IsSoloHouse, lies_in_house}
use Rattle.solo_core.specs.SolutionLaws.{given_from_test, test_from_given}
use Rattle.maker_core.specs.SoloFilling.{all_given}
use Rattle.maker_core.specs.Thinning.{IsThinnedFrom, IsGame}
use Rattle.maker_core.specs.SoloMaking.{given_clue, SameSolo, solo_game}

-- the second puzzle, with the first one's size
resized : (p q : Solo) → SameSolo p q → q ≡ solo_puzzle p.c p.r p.x q.givens
resized p q same = grind (arith, common_steps)

pub clue_is : (v n : ℕ) → given_clue v ≡ Some n → v ≡ n
clue_is zero n e = absurd (none-some n e)
clue_is (suc v) n e = let same = e in cc

pub is_clue : (v : ℕ) → 1 ≤ v → given_clue v ≡ Some v
is_clue zero low = absurd (omega arith)
is_clue (suc v) low = refl

pub given_in : (givens : List ℕ) {place n : ℕ} → given_clue (slice_index givens place) ≡ Some n → place < length givens
given_in givens {place} e = grind (arith, get_or_past givens place 0)

-- ---- solutions
-- puzzles of one size have the same houses
pub house_stays : (p : Solo) (givens : List ℕ) (house : NamedHouse) → IsSoloHouse p house → IsSoloHouse (solo_puzzle p.c p.r p.x givens) house
house_stays p givens house is = grind arith

pub lies_alike : (p : Solo) (givens : List ℕ) (house : NamedHouse) (place : ℕ) → lies_in_house p house place ≡ lies_in_house (solo_puzzle p.c p.r p.x givens) house place
lies_alike p givens house place = grind arith

-- the clues of p are clues of the puzzle with these givens
abbrev pub HasClues : Solo → List ℕ → Type 0
HasClues p givens = (place n : ℕ) → given_clue (slice_index p.givens place) ≡ Some n → given_clue (slice_index givens place) ≡ Some n

given_stays : (p : Solo) (givens g : List ℕ) (place : ℕ) → HasClues p givens
    → (1 ≤ slice_index givens place → slice_index g place + 1 ≡ slice_index givens place)
    → 1 ≤ slice_index p.givens place → slice_index g place + 1 ≡ slice_index p.givens place
given_stays p givens g place clues stands low =
    let same = clue_is _ _ (clues place (slice_index p.givens place) (is_clue _ low)) in
    stands (omega (arith, low, same)) ∙ same

-- what differs in a puzzle of the same size differs in the puzzle
pub solution_stays : (p : Solo) (givens g : List ℕ) → HasClues p givens → IsSoloSolution (solo_puzzle p.c p.r p.x givens) g → IsSoloSolution p g
solution_stays p givens g clues s = record {
  grid = s.grid;
  givens = λ place below. given_stays p givens g place clues (s.givens place below);
  different = λ house is j k lj lk ne a b. s.different house (house_stays p givens house is) j k lj lk ne
      (sym (lies_alike p givens house j) ∙ a) (sym (lies_alike p givens house k) ∙ b);
}

-- each solution of a puzzle with more givens is one of the puzzle
pub solved_by_fewer : (p q : Solo) (g : List ℕ) → IsThinnedFrom solo_game p q → IsSoloSolution q g → IsSoloSolution p g
solved_by_fewer p q g w s = solution_stays p q.givens g w.clues (subst (λ x. IsSoloSolution x g) (resized p q w.frame) s)

test_stays : (p : Solo) (givens g : List ℕ) → HasClues p givens → is_solo_solution (solo_puzzle p.c p.r p.x givens) g ≡ true → is_solo_solution p g ≡ true
unfolding is_solo_solution
test_stays p givens g clues on =
    let q = solo_puzzle p.c p.r p.x givens in
    let parts = and_parts _ _ on in
    and_from _ _ (all_below-from _ _ (λ place below. test_from_given p g place
    (given_stays p givens g place clues
    (given_from_test q g place (all_below-at _ _ place parts.0 below))))) parts.1

solutions_stay : (p q : Solo) (g : List ℕ) → IsThinnedFrom solo_game p q → Solves (houses_rules q) g → Solves (houses_rules p) g
solutions_stay p q g w s =
    let same = subst (λ x. Solves (houses_rules x) g) (resized p q w.frame) s in
    record { grid = same.grid; good = test_stays p q.givens g w.clues same.good }

cleared : (givens : List ℕ) (place : ℕ) → slice_index (slice_set givens place 0) place ≡ 0
cleared givens place = grind (arith, common_steps, cases_lt, get_or-set_same, get_or_past, length-set)

pub solo_is_game : IsGame solo_game
solo_is_game = record {
  same_itself = λ p. record { c = refl; r = refl; x = refl; cells = refl };
  same_back = λ p q same. record { c = sym same.c; r = sym same.r; x = sym same.x; cells = sym same.cells };
  same_through = λ p q r a b. record { c = a.c ∙ b.c; r = a.r ∙ b.r; x = a.x ∙ b.x; cells = a.cells ∙ b.cells };
  clue_in = λ p place n e. given_in p.givens e;
  same_cells = λ p q same. same.cells;
  same_all = λ p q g same. ap (λ c. all_given c p.r p.x g) same.c ∙ ap (λ r. all_given q.c r p.x g) same.r ∙ ap (λ x. all_given q.c q.r x g) same.x;
  solutions_stay = solutions_stay;
  without_frame = λ p place n e. record { c = refl; r = refl; x = refl; cells = length-set p.givens place 0 };
  without_it = λ p place. ap given_clue (cleared p.givens place);
  others_stay = λ p place other apart. ap given_clue (get_or-set_other p.givens place other 0 0 apart);
  needs_less = λ p place n e. record { same_cells = refl; same_values = refl; houses_in = le_refl _; bound_in = le_refl _; scope_in = le_refl _ };
}
