-- Light Up with fewer numbers: lists from which some houses are left out, and what fewer numbers change.
use Rattle.maker_core.specs.Below.{Black, Extent, IsGrid, IsLightSolution, Light, LightCell, Numbered, Solves, White, all_below-at, all_below-from, begins_column_run, begins_row_run, beside, black_right, bulb_right, cases_eq, cases_lt, column_house, column_run, common_steps, filter, get_or-set_other, get_or-set_same, get_or_past, is_white, joined_in_column, joined_in_row, le_refl, length-append, length-map, length-set, light_houses, light_rules, lit_house, lit_right, longest, max-le, number_house, number_is, number_right, numbered, row_house, row_run, seen_from, sees, sees_bulb, slice_index_or, slice_set, solves_lights, white}
use Rattle.fields_core.proofs.LightRuleLemmas.{rule-from-test, test-from-rule}
use Rattle.std.proofs.Common.{List, Some, [], ap, arith, false, get_or, inl, inr, length, map, refl, set, subst, suc, sym, true, zero, ℕ, ◌*◌, ◌++◌, ◌<◌, ◌∷◌, ◌∙◌, ◌≡◌, ◌≢◌, ◌≤◌, ◌⊎◌}
use Rattle.engine_core.proofs.JudgeLemmas.{scope_le-longest}
use Rattle.fields_core.specs.CountHouse.{CountHouse, count_house_of, houses_below, no_count_house}
use Rattle.fields_core.proofs.HouseLemmas.{all-append, all-at}
use Rattle.fields_core.proofs.LightHouseLaws.{lit-from, lit-parts}
use Rattle.std.proofs.lemmas.List.Elements.{All-from_get_or, recursion_from_All}
use Rattle.std.specs.List.{AllByRecursion}
use Rattle.std.proofs.Math.Path.{fun_ext}
use Rattle.std.proofs.Math.ListN.{get_or-map}
use Rattle.std.proofs.Math.Seq.{map-set_same}
use Rattle.maker_core.specs.Thinning.{IsGame, IsThinnedFrom}
use Rattle.maker_core.specs.LightMaking.{SameLight, light_game, number_clue, with_numbers}

-- A list of houses from which some are left out is no longer, and has no longer house.

-- the house has at most m cells
abbrev pub HasFewCells : ℕ → CountHouse → Type 0
HasFewCells m house = length house.places ≤ m

pub record IsFewer (xs ys : List CountHouse) : Type 0 where
  pub fewer : length xs ≤ length ys
  pub short : (m : ℕ) → AllByRecursion (HasFewCells m) ys → AllByRecursion (HasFewCells m) xs

pub fewer_itself : {xs : List CountHouse} → IsFewer xs xs
fewer_itself = record { fewer = le_refl _; short = λ m each. each }

fewer_none : {xs : List CountHouse} → IsFewer [] xs
fewer_none = grind (arith, common_steps)

both : (P : CountHouse → Type 0) (xs ys : List CountHouse) → AllByRecursion P (xs ++ ys) → AllByRecursion P xs × AllByRecursion P ys
both P [] ys each = (tt, each)
both P (x ∷ xs) ys (is, each) = let parts = both P xs ys each in ((is, parts.0), parts.1)

pub fewer_append : {xs ys us vs : List CountHouse} → IsFewer xs ys → IsFewer us vs → IsFewer (xs ++ us) (ys ++ vs)
fewer_append {xs} {ys} {us} {vs} first second = record {
  fewer = omega (arith, first.fewer, second.fewer, length-append xs us, length-append ys vs);
  short = λ m each. let parts = both (HasFewCells m) ys vs each in all-append (HasFewCells m) xs us (first.short m parts.0) (second.short m parts.1);
}

fewer_at : {xs ys : List CountHouse} → (xs ≡ ys) ⊎ (xs ≡ []) → IsFewer xs ys
fewer_at {xs} (inl same) = subst (λ zs. IsFewer xs zs) same fewer_itself
fewer_at {ys} (inr none) = subst (λ zs. IsFewer zs ys) (sym none) fewer_none

-- at each number the same houses or none
pub fewer_below : (f f' : ℕ → List CountHouse) (n : ℕ) → ((c : ℕ) → (f c ≡ f' c) ⊎ (f c ≡ [])) → IsFewer (houses_below f n) (houses_below f' n)
unfolding houses_below
fewer_below f f' zero each = fewer_itself
fewer_below f f' (suc n) each = fewer_append (fewer_below f f' n each) (fewer_at (each n))

longest_at_most : (scope : ℕ → List ℕ) (n : ℕ) {m : ℕ} → ((h : ℕ) → h < n → length (scope h) ≤ m) → longest scope n ≤ m
unfolding longest
longest_at_most scope zero each = omega arith
longest_at_most scope (suc n) each = max-le (longest_at_most scope n (λ h lt. each h (omega arith))) (each n (omega arith))

pub longest_of_fewer : {xs ys : List CountHouse} → IsFewer xs ys
    → longest (λ h. (count_house_of xs h).places) (length xs) ≤ longest (λ h. (count_house_of ys h).places) (length ys)
longest_of_fewer {xs} {ys} less =
    let m = longest (λ h. (count_house_of ys h).places) (length ys) in
    let all = recursion_from_All (HasFewCells m) ys (All-from_get_or (HasFewCells m) ys no_count_house (λ h lt. scope_le-longest _ (length ys) h lt)) in
    longest_at_most _ (length xs) (λ h lt. all-at (HasFewCells m) xs (less.short m all) lt)

-- What fewer numbers change.

with_cells : Extent → List LightCell → Light
with_cells size cells = record { size = size; cells = cells }

-- the second puzzle, of the first one's size
resized : {p q : Light} → SameLight p q → q ≡ with_cells p.size q.cells
unfolding with_cells
resized {q} same = ap (λ size. with_cells size q.cells) (sym same.size)

-- ---- which cells are white decides all but the numbers
white_map : (p : Light) (c : ℕ) → white p c ≡ get_or (map is_white p.cells) c false
unfolding white
white_map p c = sym (get_or-map is_white p.cells c Black)

same_white : (p q : Light) → map is_white p.cells ≡ map is_white q.cells → white p ≡ white q
same_white p q same = grind (arith, common_steps, white_map)

-- ---- fewer numbers
pub numbered_is : {cell : LightCell} {n : ℕ} → number_clue cell ≡ Some n → cell ≡ Numbered n
numbered_is e = grind arith

number_stays : (a b : LightCell) (bulbs : ℕ) → ((n : ℕ) → number_clue a ≡ Some n → number_clue b ≡ Some n) → number_is b bulbs ≡ true → number_is a bulbs ≡ true
number_stays White b bulbs clues right = refl
number_stays Black b bulbs clues right = refl
number_stays (Numbered n) b bulbs clues right = ap (λ cell. number_is cell bulbs) (sym (numbered_is (clues n refl))) ∙ right

lit_stays : (p : Light) (cells : List LightCell) (g : List ℕ) → map is_white p.cells ≡ map is_white cells
    → ((place n : ℕ) → number_clue (slice_index_or p.cells place Black) ≡ Some n → number_clue (slice_index_or cells place Black) ≡ Some n)
    → solves_lights (with_cells p.size cells) g ≡ true → solves_lights p g ≡ true
unfolding with_cells number_right black_right bulb_right lit_right sees_bulb sees joined_in_row joined_in_column
lit_stays p cells g same clues lit =
    let parts = lit-parts (with_cells p.size cells) g lit in
    let q = with_cells p.size cells in
    lit-from p g (all_below-from _ _ (λ c below. simp whites (all_below-at _ _ c parts.black below)))
    (all_below-from _ _ (λ c below.
    number_stays (slice_index_or p.cells c Black) (slice_index_or cells c Black) _ (clues c)
    (all_below-at _ _ c parts.number below)))
    (all_below-from _ _ (λ c below. simp whites (all_below-at _ _ c parts.seen below)))
    (all_below-from _ _ (λ c below. simp whites (all_below-at _ _ c parts.lit below)))
  where
    whites : (c : ℕ) → white p c ≡ white (with_cells p.size cells) c
    whites c = ap (λ wh. wh c) (same_white p (with_cells p.size cells) same)

-- each solution of a puzzle with more numbers is one of the puzzle
lit_by_fewer : (p q : Light) (g : List ℕ) → IsThinnedFrom light_game p q → solves_lights q g ≡ true → solves_lights p g ≡ true
lit_by_fewer p q g w lit = lit_stays p q.cells g w.frame.black w.clues (subst (λ x. solves_lights x g ≡ true) (resized w.frame) lit)

pub lights_by_fewer : (p q : Light) (g : List ℕ) → IsThinnedFrom light_game p q → IsLightSolution q g → IsLightSolution p g
lights_by_fewer p q g w s = rule-from-test p g (subst (λ size. IsGrid (size.w * size.h) 2 g) (sym w.frame.size) s.grid)
    (lit_by_fewer p q g w (test-from-rule q g s.grid s))

solutions_stay : (p q : Light) (g : List ℕ) → IsThinnedFrom light_game p q → Solves (light_rules q) g → Solves (light_rules p) g
unfolding with_cells
solutions_stay p q g w s = grind (arith, common_steps, resized, lit_by_fewer)

-- ---- houses and needs
without_number : Light → ℕ → Light
without_number p place = record p { cells = set p.cells place Black }

cleared : (cells : List LightCell) (place : ℕ) → slice_index_or (slice_set cells place Black) place Black ≡ Black
cleared cells place = grind (arith, common_steps, cases_lt, get_or-set_same, get_or_past, length-set)

not_white : (cell : LightCell) {n : ℕ} → number_clue cell ≡ Some n → is_white cell ≡ false
not_white cell e = ap is_white (numbered_is e)

same_without : (p : Light) (place n : ℕ) → number_clue (slice_index_or p.cells place Black) ≡ Some n → SameLight (without_number p place) p
unfolding without_number
same_without p place n e = grind (arith, common_steps, map-set_same, not_white)

fewer_houses : (p : Light) (place n : ℕ) → number_clue (slice_index_or p.cells place Black) ≡ Some n
    → IsFewer (light_houses (without_number p place)) (light_houses p)
unfolding without_number light_houses row_run column_run seen_from begins_row_run begins_column_run joined_in_row joined_in_column
fewer_houses p place n e =
    fewer_append (fewer_below (number_house (without_number p place)) _ _ (λ c. by c (cases_eq c place)))
    (fewer_append (fewer_below (row_house (without_number p place)) _ _ (λ c. inl (simp (joined_row, white_at))))
    (fewer_append (fewer_below (column_house (without_number p place)) _ _ (λ c. inl (simp (joined_column, white_at))))
    (fewer_below (lit_house (without_number p place)) _ _ (λ c. inl (simp (joined_row, joined_column, white_at))))))
  where
    whites : white (without_number p place) ≡ white p
    whites = same_white (without_number p place) p (same_without p place n e).black

    white_at : (c : ℕ) → white (without_number p place) c ≡ white p c
    white_at c = ap (λ wh. wh c) whites

    joined_row : (a : ℕ) → joined_in_row (without_number p place) a ≡ joined_in_row p a
    joined_row a = fun_ext λ b. simp white_at

    joined_column : (a : ℕ) → joined_in_column (without_number p place) a ≡ joined_in_column p a
    joined_column a = fun_ext λ b. simp white_at

    by : (c : ℕ) → (c ≡ place) ⊎ (c ≢ place) → (number_house (without_number p place) c ≡ number_house p c) ⊎ (number_house (without_number p place) c ≡ [])
    by c (inl same) =
        inr (ap (λ cell. numbered cell (filter (white (without_number p place)) (beside p.size c)))
        (ap (λ k. slice_index_or (set p.cells place Black) k Black) same ∙ cleared p.cells place))
    by c (inr apart) =
        inl (ap (λ cell. numbered cell (filter (white (without_number p place)) (beside p.size c)))
        (get_or-set_other p.cells place c Black Black apart)
        ∙ ap (λ wh. numbered (slice_index_or p.cells c Black) (filter wh (beside p.size c))) whites)

clue_in : (cells : List LightCell) {place n : ℕ} → number_clue (slice_index_or cells place Black) ≡ Some n → place < length cells
clue_in cells {place} e = grind (arith, get_or_past cells place Black)

same_length : (p q : Light) → map is_white p.cells ≡ map is_white q.cells → length p.cells ≡ length q.cells
same_length p q same = grind (arith, common_steps, length-map)

told_same : (p : Light) (cells : List LightCell) (g : List ℕ) → map is_white p.cells ≡ map is_white cells
    → light_game.all_clues p g ≡ light_game.all_clues (with_cells p.size cells) g
unfolding with_cells with_numbers
told_same p cells g same = grind (arith, common_steps, with_cells, same_white)

pub light_is_game : IsGame light_game
unfolding without_number
light_is_game = record {
  same_itself = λ p. record { size = refl; black = refl };
  same_back = λ p q same. record { size = sym same.size; black = sym same.black };
  same_through = λ p q r a b. record { size = a.size ∙ b.size; black = a.black ∙ b.black };
  clue_in = λ p place n e. clue_in p.cells e;
  same_cells = λ p q same. same_length p q same.black;
  same_all = λ p q g same. told_same p q.cells g same.black ∙ ap (λ x. light_game.all_clues x g) (sym (resized same));
  solutions_stay = solutions_stay;
  without_frame = same_without;
  without_it = λ p place. ap number_clue (cleared p.cells place);
  others_stay = λ p place other apart. ap number_clue (get_or-set_other p.cells place other Black Black apart);
  needs_less = λ p place n e. let less = fewer_houses p place n e in
      record {
        same_cells = refl;
        same_values = refl;
        houses_in = less.fewer;
        bound_in = le_refl _;
        scope_in = longest_of_fewer less;
      };
}
