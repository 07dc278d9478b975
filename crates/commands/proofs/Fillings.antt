-- Fillings of Solo and Light Up, and puzzles that are thinned.
use Rattle.commands.proofs.Common.{All-from_get_or, AllByRecursion, AreReasons, Black, Bool, CluedGame, Extent, HasWords, IfSome, IsAsked, IsFirstPassing, IsGame, IsLawful, IsLeft, IsLight, IsLightCell, IsLightSolution, IsLineOrder, IsLit, IsOnly, IsPermutation, IsPermutation-refl, IsSolo, IsSoloMade, IsSoloSize, IsSoloSolution, IsThinnedFrom, IsThinning, IsTrueOf, IsWide, Kept, Light, LightCell, List, Making, None, Numbered, Option, Outcome, Outcome.GaveUp, Outcome.NoSolution, Outcome.OneSolution, Outcome.SeveralSolutions, Solo, Solves, Some, Stream, TellsOne, White, [], add-one, all_given, ap, arith, black_cells, black_cells-grid, bulbs_after, bulbs_beside, cases_eq, cases_lt, clue_places, common_steps, cond_both, count_by-le-length, draw_is, false, filling_at, flipped_by_draw, get_or, get_or_past, houses_lawful, houses_rules, inl, inr, is_some, is_white, length, length-filter, length-map, length-map-range_with_len, length-range_with_len, light_cells, light_filling, light_game, light_is_game, light_passes, light_puzzle_of, light_rules, lights_of, line_order, lines_of_groups, lit_up, lt-ltb, mul-le, nat_lt, none-some, number_clue, numbered_cell, order_is, outcome-true, plain_filling, reasons_from, recursion_from_All, refl, replicate, shuffled_list, shuffled_order, solo_filling, solo_game, solo_is_game, solo_passes, subst, suc, swaps_are, sym, top_row_given, true, true≢false, verdict_of, white, white_places, with_numbers, words_later, x_filling, zero, ℕ, ◌*◌, ◌-◌, ◌<◌, ◌^◌, ◌∙◌, ◌∷◌, ◌≡◌, ◌≤◌}
use Rattle.maker_core.specs.declared.made.Why.{Why}
use Rattle.maker_core.specs.declared.made.Why.TheVariants.{Budget, Needed}
use Rattle.maker_core.proofs.ThinningTurns.{answer_left, contains_head, reasons_left, some_of, thinning_start, thinning_turn, turn}
use Rattle.maker_core.proofs.SoloSolution.{all_given-found, all_given-only, found_passes, is_solution_of_all, only_by_rules, same_given, thinned-solo}
use Rattle.maker_core.proofs.Shuffles.{AreGrouped, AreGrouped-more, grouped-none, line_order_from_groups}
use Rattle.maker_core.proofs.SoloXSearch.{first_solves, flipped-found, top-solo}
use Rattle.maker_core.specs.LightMaking.{IsLightMade}
use Rattle.maker_core.proofs.LightMakings.{all_numbers, bulbs_after-grid, bulbs_few, lit_one, lit_solved, number_at, size_is}
use Rattle.commands.proofs.SearchedPuzzles.{has_one, light_searched, right_of}

-- A shuffle brings any list into another order, and leaves a stream of words; and so many draws of black cells leave one.

-- ---- a list in a shuffled order
pub record IsShuffled (items : List ℕ) (p : List ℕ × Stream) : Type 0 where
  pub permutation : IsPermutation items p.0
  pub words : HasWords p.1

pub shuffled_is : {items : List ℕ} (s : Stream) → length items < 2 ^ 32 - 1 → HasWords s → IsShuffled items (shuffled_list items s)
shuffled_is {items} s few words =
    let swapped = swaps_are items s words few _ (omega arith) in
    cond_both (nat_lt (length items) (2 ^ 32 - 1)) _ _ (IsShuffled items)
    (λ narrow. record { permutation = swapped.permutation; words = swapped.words })
    (λ wide. absurd (true≢false (sym (lt-ltb _ _ few) ∙ wide)))

-- ---- black cells
pub black_words : (black cells : ℕ) {s : Stream} → HasWords s → HasWords (black_cells black cells s).1
unfolding black_cells
black_words black zero words = words
black_words black (suc k) {s} words = (draw_is 100 (black_cells black k s).1 (omega arith) (omega arith) (black_words black k words)).words

-- A puzzle with all its clues can be thinned: a clue is taken away where the verdict without it is one, and else left for the reason
-- that the verdict tells.

module _ {A : Type 0} (game : CluedGame A) (laws : IsGame game) (budget : ℕ) (all : A) (answer : List ℕ) where
  without_in : (p : A) (place n : ℕ) → IsThinnedFrom game p all → game.clue p place ≡ Some n → IsThinnedFrom game (game.without p place) all
  without_in p place n w e = grind (arith, common_steps, cases_eq, none-some, w.clues)

  -- what becomes of a clue
  record IsTried (place : ℕ) (p : A) : Type 0 where
    new : A
    why : Option Why
    left : IsLeft game place p new why
    asked : IsAsked game budget place p why

  by_verdict : {place : ℕ} (p : A) → Solves (game.rules (game.without p place)) answer → (o : Outcome)
      → verdict_of (game.rules (game.without p place)) budget ≡ o → IsTrueOf (game.rules (game.without p place)) o → IsTried place p
  by_verdict p solves NoSolution is sound = absurd (sound answer solves)
  by_verdict {place} p solves (OneSolution g) is sound =
      record { new = game.without p place; why = None; left = refl; asked = record { answer = g; found = is; only = sound } }
  by_verdict p solves (SeveralSolutions g h) is sound = record {
    new = p;
    why = Some Needed;
    left = refl;
    asked = record { first = g; second = h; first_solves = sound.0; second_solves = sound.1; differ = sound.2 };
  }
  by_verdict p solves (GaveUp found) is sound =
      record { new = p; why = Some Budget; left = refl; asked = record { found = found; verdict = is } }

  module _ (lawful : (p : A) → IsThinnedFrom game p all → IsLawful (game.rules p)) (only : IsOnly (game.rules all) answer) where
    tried : (place : ℕ) (rest : List ℕ) (p : A) (whys : List (Option Why)) → IsThinning game budget all p whys (place ∷ rest) → IsTried place p
    tried place rest p whys now =
        let n = some_of (game.clue p place) (now.waiting place (contains_head rest place)) in
        let thinner = without_in p place n.0 now.within n.1 in
        by_verdict p (laws.solutions_stay (game.without p place) all answer thinner only.0) _ refl
        (outcome-true (game.rules (game.without p place)) (lawful (game.without p place) thinner) budget)

    thin : (rest : List ℕ) {p : A} {whys : List (Option Why)} → IsThinning game budget all p whys rest
        → (q : A) × (ends : List (Option Why)) × IsThinning game budget all q ends []
    thin [] {p} {whys} now = (p, whys, now)
    thin (place ∷ rest) {p} {whys} now =
        let t = tried place rest p whys now in
        thin rest (thinning_turn laws now (turn laws now t.why t.left t.asked))

-- some of the clues are left, each for a reason, and the answer is still the one solution
pub record IsThinnedTo {A : Type 0} (game : CluedGame A) (budget : ℕ) (all : A) (answer : List ℕ) (p : A) (kept : List Kept) : Type 0 where
  pub within : IsThinnedFrom game p all
  pub only : IsOnly (game.rules p) answer
  pub found : TellsOne (game.rules p) budget answer
  pub reasons : AreReasons game budget (game.all_clues p answer) p kept

pub thinned : {A : Type 0} {game : CluedGame A} → IsGame game → (budget : ℕ) (all : A) (answer : List ℕ)
    → ((p : A) → IsThinnedFrom game p all → IsLawful (game.rules p)) → all ≡ game.all_clues all answer
    → IsOnly (game.rules all) answer → TellsOne (game.rules all) budget answer
    → (p : A) × (kept : List Kept) × IsThinnedTo game budget all answer p kept
thinned {game} laws budget all answer lawful whole only found =
    let start = thinning_start laws budget all answer (replicate (game.cells all) None) only found (IsPermutation-refl (clue_places game all)) refl in
    let t = thin game laws budget all answer lawful only (clue_places game all) start in
    let left = answer_left laws answer t.2 only in (
      t.0,
      reasons_from 0 t.1,
      record {
        within = t.2.within;
        only = left.0;
        found = left.1;
        reasons = reasons_left laws answer t.2 whole refl;
      },
    )

-- Each filling of Solo over a stream of words is a grid that keeps to the rules; and the first that is there can be thinned.

-- ---- plain Solo
record AreGroupsDrawn (size : ℕ) (groups : List ℕ) (k : ℕ) (q : List ℕ × Stream) : Type 0 where
  grouped : AreGrouped size groups k q.0
  words : HasWords q.1

groups_are : {size : ℕ} {groups : List ℕ} {s : Stream} → 0 < size → size < 2 ^ 32 - 1 → HasWords s → (k : ℕ)
    → AreGroupsDrawn size groups k (lines_of_groups size groups k s)
unfolding lines_of_groups
groups_are {size} {groups} some few words zero = record { grouped = grouped-none size groups [] refl; words = words }
groups_are {size} {groups} {s} some few words (suc k) =
    let q = lines_of_groups size groups k s in
    let before = groups_are some few words k in
    let inner = order_is size q.1 few before.words in
    record {
      grouped = rw add-one at (AreGrouped-more size groups k q.0 (shuffled_order size q.1).0 some before.grouped inner.order);
      words = inner.words;
    }

record IsLinesDrawn (count size : ℕ) (q : List ℕ × Stream) : Type 0 where
  order : IsLineOrder count size q.0
  words : HasWords q.1

lines_are : (count size : ℕ) (s : Stream) → 0 < size → size < 2 ^ 32 - 1 → count < 2 ^ 32 - 1 → HasWords s → IsLinesDrawn count size (line_order count size s)
lines_are count size s some few few_groups words =
    let outer = order_is count s few_groups words in
    let groups : List ℕ = (shuffled_order count s).0 in
    let all =
    groups_are some few outer.words count in
    record { order = line_order_from_groups count size groups _ some outer.order all.grouped; words = all.words }

-- a filling that keeps to the rules where it is there, and words after it
record IsFillingDrawn (c r : ℕ) (x : Bool) (q : Option (List ℕ) × Stream) : Type 0 where
  solution : IfSome q.0 (λ g. IsSoloSolution (all_given c r x g) g)
  words : HasWords q.1

module _ (c r : ℕ) (size : IsSoloSize c r) where
  few : (c < 2 ^ 32 - 1) × (r < 2 ^ 32 - 1) × (c * r < 2 ^ 32 - 1)
  few = grind (arith, common_steps, mul-le)

  plain_is : (s : Stream) → HasWords s → IsFillingDrawn c r false (let plain = plain_filling c r s in (Some plain.0, plain.1))
  plain_is s words =
      let c_low = size.c_low in
      let r_low = size.r_low in
      let numbers = order_is (c * r) s few.2 words in
      let t : Stream = (shuffled_order (c * r) s).1 in
      let rows = lines_are r c t (omega arith) few.0 few.1 numbers.words in
      let u : Stream = (line_order r c t).1 in
      let columns = lines_are c r u (omega arith) few.1 few.0 rows.words in
      record {
        solution = is_solution_of_all c r (shuffled_order (c * r) s).0 (line_order r c t).0 (line_order c r u).0 (record {
          c_some = omega arith;
          r_some = omega arith;
          few = size.n_high;
          number_order = numbers.order;
          row_order = rows.order;
          column_order = columns.order;
        });
        words = columns.words;
      }

  -- ---- Solo X
  flipped_words : (found : Option (List ℕ)) (t : Stream) → HasWords t → HasWords (flipped_by_draw (c * r) found t).1
  flipped_words None t words = words
  flipped_words (Some g) t words = (draw_is 4 t (omega arith) (omega arith) words).words

  x_is : (budget : ℕ) (s : Stream) → HasWords s → IsFillingDrawn c r true (x_filling c r budget s)
  x_is budget s words =
      let numbers = order_is (c * r) s few.2 words in
      let row : List ℕ = (shuffled_order (c * r) s).0 in
      let t : Stream = (shuffled_order (c * r) s).1 in
      let p = top_row_given c r row in
      let said = verdict_of (houses_rules p) budget in
      let sound = outcome-true _ (houses_lawful p (top-solo c r row size numbers.order)) budget in
      record {
        solution = flipped-found c r row size numbers.order _ t (first_solves _ said sound);
        words = flipped_words _ t numbers.words;
      }

  filling_is : (x : Bool) (budget : ℕ) {s : Stream} → HasWords s → IsFillingDrawn c r x (solo_filling c r x budget s)
  filling_is false budget {s} words = plain_is s words
  filling_is true budget {s} words = x_is budget s words

  module _ (x : Bool) (budget : ℕ) {s : Stream} (words : HasWords s) where
    -- the k-th filling
    pub solo_filled : (k : ℕ) → IfSome (filling_at (solo_filling c r x budget) k s) (λ g. IsSoloSolution (all_given c r x g) g)
    solo_filled k = (filling_is x budget (words_later (solo_filling c r x budget) (λ t w. (filling_is x budget w).words) words k)).solution

    -- one that doesn't pass isn't there
    pub solo_missing : (k : ℕ) → solo_passes c r x budget
        (filling_at (solo_filling c r x budget) k s) ≡ false
        → filling_at (solo_filling c r x budget) k s ≡ None
    solo_missing k fails =
        by (filling_at (solo_filling c r x budget) k s)
        (found_passes c r x budget (filling_at (solo_filling c r x budget) k s) size (solo_filled k) ∙ fails)
      where
        by : (o : Option (List ℕ)) → is_some o ≡ false → o ≡ None
        by None e = refl
        by (Some g) e = absurd (true≢false e)

    -- what the first that passes is thinned to
    pub solo_thinned : {tries : ℕ} (k : ℕ) (g : List ℕ) → IsFirstPassing (solo_filling c r x budget) (solo_passes c r x budget) s tries k
        → filling_at (solo_filling c r x budget) k s ≡ Some g
        → (p : Solo) × (kept : List Kept) × IsSolo p × IsSoloMade c r x budget tries s p g kept
    solo_thinned k g first filled =
        let solution : IsSoloSolution (all_given c r x g) g = rw filled at (solo_filled k) in
        let t = thinned solo_is_game budget (all_given c r x g) g
        (λ q w. houses_lawful q (thinned-solo c r x q g size solution w)) refl
        (all_given-only c r x g size solution) (all_given-found c r x g size solution budget) in
        let p = t.0 in
        let is = t.2 in
        let frame = is.within.frame in
        let ok = thinned-solo c r x p g size solution is.within in (
          p,
          t.1,
          ok,
          record {
            k = k;
            first = first;
            filled = filled;
            columns = frame.c;
            rows = frame.r;
            diagonals = frame.x;
            givens = is.within;
            only = only_by_rules p g ok is.only;
            verdict = is.found;
            reasons =
                subst (λ all. AreReasons solo_game budget all p t.1)
                {x = all_given p.c p.r p.x g} (same_given p c r x g frame.c frame.r frame.x)
                is.reasons;
          },
        )

-- Each filling of Light Up over a stream of words solves its puzzle; and the first that passes can be thinned.

-- what fillings of Light Up are; `maker_core` keeps the name of their type to itself
abbrev MadeBy : {A : Type 0} → (Extent → ℕ → Making A) → Type 0
MadeBy {A = A} make = A

abbrev DrawnLights : Type 0
DrawnLights = MadeBy light_filling

-- ---- one filling
whites_few : (p : Light) → length (white_places p) ≤ light_cells p
unfolding white_places
whites_few p = grind (arith, common_steps, count_by-le-length, white, length-filter, length-range_with_len)

module _ (size : Extent) (wide : IsWide size) (black : ℕ) where
  lit_words : (p : Light) {s : Stream} → light_cells p < 2 ^ 32 - 1 → HasWords s → IsShuffled (white_places p) (shuffled_list (white_places p) s)
  lit_words p {s} few words = shuffled_is s (let w = whites_few p in omega arith) words

  few_cells : size.w * size.h < 2 ^ 32 - 1
  few_cells = grind (arith, common_steps, mul-le)

  filling_words : {s : Stream} → HasWords s → HasWords (light_filling size black s).1
  unfolding light_filling lit_up lights_of
  filling_words {s} words =
      let drawn = black_cells black (size.w * size.h) s in
      (lit_words (lights_of size drawn.0) few_cells (black_words black (size.w * size.h) words)).words

  filling_lit : {s : Stream} → HasWords s → IsLit size (light_filling size black s).0
  unfolding light_filling lit_up lights_of light_puzzle_of
  filling_lit {s} words =
      let drawn = black_cells black (size.w * size.h) s in
      let grid = black_cells-grid black (size.w * size.h) s in
      let p = lights_of size drawn.0 in
      let mixed = lit_words p few_cells (black_words black (size.w * size.h) words) in
      let order : List ℕ = (shuffled_list (white_places p) drawn.1).0 in
      let long = length-map drawn.0 _ ∙ grid.each_cell in
      record {
        black = grid;
        bulbs = bulbs_after-grid p order (length order);
        solved = lit_solved p order (bulbs_after p order (length order)) long mixed.permutation refl;
      }

  module _ (s : Stream) (words : HasWords s) where
    pub light_lit : (k : ℕ) → IsLit size (filling_at (light_filling size black) k s)
    light_lit k = filling_lit (words_later (light_filling size black) (λ t w. filling_words w) words k)

-- ---- the puzzle of a filling, and what is left of it
numbers_small : (cells : List LightCell) → ((place n : ℕ) → number_clue (get_or cells place Black) ≡ Some n → n ≤ 4) → AllByRecursion IsLightCell cells
numbers_small cells small =
    recursion_from_All IsLightCell cells
    (All-from_get_or IsLightCell cells Black
    (λ place lt. by (get_or cells place Black) (small place)))
  where
    by : (cell : LightCell) → ((n : ℕ) → number_clue cell ≡ Some n → n ≤ 4) → IsLightCell cell
    by White low = tt
    by Black low = tt
    by (Numbered n) low = low n refl

numbered_small : (p : Light) (g : List ℕ) (place n : ℕ) → number_clue (get_or (with_numbers p g).cells place Black) ≡ Some n → n ≤ 4
unfolding with_numbers
numbered_small p g place n e = elim (cases_lt place _) [
  | inl lt ↦ by (white p place) refl (ap number_clue (sym (number_at p g place lt)) ∙ e)
  | inr over ↦ absurd (none-some n (ap number_clue (sym (get_or_past (with_numbers p g).cells place Black
      (omega (arith, length-map-range_with_len (numbered_cell p g) 0 (light_cells p))))) ∙ e))
]
  where
    some_is : (m : ℕ) → ◌≡◌ {A = Option ℕ} (Some m) (Some n) → m ≡ n
    some_is m same = cc

    by : (b : Bool) → white p place ≡ b → number_clue (numbered_cell p g place) ≡ Some n → n ≤ 4
    by true on is = absurd (none-some n (rw on at is))
    by false off is = omega (arith, bulbs_few p g place, some_is (bulbs_beside p g place) (rw off at is))

-- with fewer numbers it is a puzzle still
light_thinner : (p q : Light) → IsLight p
    → ((place n : ℕ) → number_clue (get_or p.cells place Black) ≡ Some n → n ≤ 4)
    → IsThinnedFrom light_game q p → IsLight q
light_thinner p q ok small w = record {
  size = subst IsWide (sym w.frame.size) ok.size;
  count = sym (length-map q.cells is_white) ∙ ap length w.frame.black ∙ length-map p.cells is_white
      ∙ ok.count ∙ ap (λ e. e.w * e.h) (sym w.frame.size);
  each = numbers_small q.cells (λ place n e. small place n (w.clues place n e));
}

module _ (size : Extent) (wide : IsWide size) (black budget tries : ℕ) (s : Stream) (words : HasWords s) where
  filled_light : (f : DrawnLights) → IsLight (light_puzzle_of size f)
  unfolding light_puzzle_of lights_of with_numbers
  filled_light f = record {
    size = wide;
    count = length-map-range_with_len (numbered_cell (lights_of size f.black) f.bulbs) 0 (size.w * size.h);
    each = numbers_small (with_numbers (lights_of size f.black) f.bulbs).cells (numbered_small (lights_of size f.black) f.bulbs);
  }

  filled_small : (f : DrawnLights) (place n : ℕ) → number_clue (get_or (light_puzzle_of size f).cells place Black) ≡ Some n → n ≤ 4
  unfolding light_puzzle_of
  filled_small f = numbered_small (lights_of size f.black) f.bulbs

  -- what the first filling that passes is thinned to
  pub light_thinned : (k : ℕ) → IsFirstPassing (light_filling size black) (light_passes size budget) s tries k
      → (p : Light) × (kept : List Kept) × IsLight p × IsLightMade size black budget tries s p (filling_at (light_filling size black) k s).bulbs kept
  light_thinned k first =
      let f : DrawnLights = filling_at (light_filling size black) k s in
      let all : Light = light_puzzle_of size f in
      let lit : IsLit size f = light_lit size wide black s words k in
      let ok : IsLight all = filled_light f in
      let one = has_one (light_rules all) (light_searched ok).lawful budget first.passing in
      let found = lit_one size f budget all refl lit one in
      let t = thinned light_is_game budget all f.bulbs
      (λ q w. (light_searched (light_thinner all q ok (filled_small f) w)).lawful) (all_numbers size f all refl lit) found.0 found.1 in
      let p : Light = t.0 in
      let is : IsThinnedTo light_game budget all f.bulbs p t.1 = t.2 in
      let left : IsLight p = light_thinner all p ok (filled_small f) is.within in
      let right = right_of (IsLightSolution p) (OneSolution f.bulbs) (light_searched left).accepted is.only in (
        p,
        t.1,
        left,
        record {
          k = k;
          first = first;
          numbers = is.within;
          filled = refl;
          size_asked = is.within.frame.size ∙ size_is size f all refl;
          only = (right.0, λ h solves. sym (right.1 h solves));
          verdict = is.found;
          reasons = is.reasons;
        },
      )
