-- What makings rest on: each has an answer, and two answers to one differ only in which clues are left.
use Rattle.commands.proofs.Fillings.{light_thinned, solo_missing, solo_thinned}
use Rattle.commands.proofs.SearchedPuzzles.{first_once, first_or_none, has_one, tents_searched}
use Rattle.commands.proofs.Common.{AllowsMade, AllowsOfSize, Answer, Bool, DifferInClues, Err, Extent, Game, HandOutAlike, HasOneAnswer, HasWords, IsExtent, IsFirstPassing, IsGrid, IsHandedOut, IsSoloSize, IsTents, IsWide, Light, List, MadePuzzle, Making, None, NonePasses, Ok, Option, PuzzleFacts, SameLight, SameSolo, SizeRange, SizeRead, Some, Text, Wanted, [], all_given, and_parts, ap, arith, bind_ok, black_cells-grid, cases_eq, chosen, common_steps, exhausted_answer, extent_of, false, filling_at, game_of, handed_out, if◌then◌else◌, in_range, inl, inr, is_solution-from, is_solution-is, leb-true, light_facts, light_filling, light_is_game, light_is_written, light_passes, light_puzzle_of, line_rules-lawful, nat_le, ok_is, pattern_facts, pattern_is_written, puzzle_type, refl, size_of, size_take, solo_facts, solo_filling, solo_is_game, solo_is_written, solo_passes, stream_after, subst, suc, sym, taken, tents_facts, tents_is_written, tents_sizes, true, true≢false, zero, ℕ, ◌&&◌, ◌*◌, ◌↔◌, ◌∙◌, ◌≡◌, ◌≢◌, ◌≤◌}
use Rattle.fields_core.proofs.TentRuleLemmas as tents
use Rattle.gameid_core.proofs.LineLaws.{ones_lawful, runs_lawful}
use Rattle.gameid_core.specs.Lines.{lines_ones, lines_runs}
use Rattle.gameid_core.specs.declared.id.game.Game.TheVariants as game
use Rattle.maker_core.proofs.FirstTries.{one_is}
use Rattle.maker_core.proofs.PatternMakings.{pattern_solved}
use Rattle.maker_core.proofs.TentsSolved.{filling_at_solves, tents_size}
use Rattle.maker_core.specs.PatternMaking.{clued_by, pattern_filling, pattern_passes}
use Rattle.maker_core.specs.TentMaking.{tent_filling, tents_pass, tents_puzzle_of}
use Rattle.commands.proofs.Readings.{both_answers, id_some, one_of_same, size_reading}

module _ {P : Type 0} {play : PuzzleFacts P} {alike : P → P → Type 0} where
  -- answers that are the same differ in no clue, where nothing is handed out
  same_differ : {one other said : Answer} → one ≡ said → other ≡ said → said.status ≢ 0 → DifferInClues play alike one other
  same_differ first second none = grind (arith, common_steps)

  handed_differ : {one other : Answer} → HandOutAlike play alike one other → DifferInClues play alike one other
  handed_differ handed = grind (arith, common_steps, handed.first_said, handed.second_said)

-- What is made of a size is made of the first filling that passes, and is handed out; two puzzles that are made of one filling
-- are alike, with one solution. None is made where none passes.

record IsMaking {P : Type 0} (play : PuzzleFacts P) (alike : P → P → Type 0) (w : Wanted) (size : SizeRead) : Type 1 where
  filling : Type 0
  make : Making filling
  passes : filling → Bool
  first : (m : MadePuzzle P) → play.game.makes size w m → (k : ℕ) × IsFirstPassing make passes w.stream w.tries k
  same : (m n : MadePuzzle P) (x : play.game.makes size w m) (y : play.game.makes size w n) → (first m x).0 ≡ (first n y).0
      → alike m.puzzle n.puzzle × (m.solution ≡ n.solution)
  some : (k : ℕ) → IsFirstPassing make passes w.stream w.tries k → (a : Answer) × IsHandedOut play w size a
  none : NonePasses make passes w.stream w.tries ↔ play.game.makes_none size w

module _ {P : Type 0} {play : PuzzleFacts P} {alike : P → P → Type 0} {w : Wanted} {size : SizeRead} (is : IsMaking play alike w size) where
  making_some : (a : Answer) × AllowsOfSize play w size a
  making_some = elim (first_or_none is.make is.passes w.stream w.tries) [
    | inl first ↦ let handed = is.some first.0 first.1 in (handed.0, inl handed.1)
    | inr none ↦ (exhausted_answer, inr (record { none = is.none.0 none; said = refl }))
  ]

  not_none : (m : MadePuzzle P) → play.game.makes size w m → play.game.makes_none size w → ⊥
  not_none m made none = grind (arith, common_steps)

  making_differs : (one other : Answer) → AllowsOfSize play w size one → AllowsOfSize play w size other → DifferInClues play alike one other
  making_differs one other (inl x) (inl y) =
      let same =
      is.same x.made y.made x.is_made y.is_made (first_once is.make is.passes w.stream (is.first x.made x.is_made).1 (is.first y.made y.is_made).1) in
      handed_differ (record {
        first = x.made.puzzle;
        second = y.made.puzzle;
        solution = x.made.solution;
        same = same.0;
        first_said = x.said;
        second_said = y.said ∙ ap (handed_out play y.made.puzzle) (sym same.1);
      })
  making_differs one other (inl x) (inr y) = absurd (not_none x.made x.is_made y.none)
  making_differs one other (inr x) (inl y) = absurd (not_none y.made y.is_made x.none)
  making_differs one other (inr x) (inr y) = same_differ x.said y.said (omega arith)

-- where what is handed out is the same, so are the answers
told_same : {P : Type 0} {play : PuzzleFacts P} {one other : Answer} → DifferInClues play (λ p q. p ≡ q) one other → one ≡ other
told_same {play} {one} differ = grind (arith, common_steps, cases_eq)

-- sizes within the limits
pattern_extent : {w h : ℕ} → in_range game.Pattern w h ≡ true → IsExtent (record { w = w; h = h })
pattern_extent range = grind (arith, common_steps)

fields_wide : {w h : ℕ} → in_range game.LightUp w h ≡ true → IsWide (record { w = w; h = h })
fields_wide range = grind (arith, common_steps)

pub solo_sized : {c r : ℕ} → in_range game.Solo c r ≡ true → IsSoloSize c r
solo_sized range = grind (arith, common_steps)

-- ---- a filling of Pattern that passes is the one solution of its puzzle
pattern_making : (w : Wanted) (text : Text) (read : SizeRead) → size_of game.Pattern text ≡ Ok read → IsMaking pattern_facts (λ p q. p ≡ q) w read
pattern_making w text read is = record {
  filling = List ℕ;
  make = pattern_filling size w.black;
  passes = pattern_passes size w.budget;
  first = λ m made. (made.k, made.first);
  same = λ m n x y e.
      let same = x.filled ∙ ap grid e ∙ sym y.filled in
      (x.clues ∙ ap (clued_by size) same ∙ sym y.clues, same);
  some = λ k first. (handed_out pattern_facts (clued_by size (grid k)) (grid k), handed k first);
  none = (λ none. none, λ none. none);
}
  where
    size : Extent
    size = extent_of read

    extent : IsExtent size
    extent = pattern_extent (size_take game.Pattern text read is).1

    grid : ℕ → List ℕ
    grid k = filling_at (pattern_filling size w.black) k w.stream

    handed : (k : ℕ) → IsFirstPassing (pattern_filling size w.black) (pattern_passes size w.budget) w.stream w.tries k
        → IsHandedOut pattern_facts w read (handed_out pattern_facts (clued_by size (grid k)) (grid k))
    handed k first =
        let p = clued_by size (grid k) in
        let solved = pattern_solved size (grid k) p refl
        (black_cells-grid w.black (size.w * size.h) (stream_after (pattern_filling size w.black) k w.stream)) in
        let only = one_is _ _ (λ h s. s.grid) (λ h cells. (is_solution-is p h cells, is_solution-from p h))
        (has_one _ (line_rules-lawful p extent) w.budget first.passing) solved in
        record {
          made = record { puzzle = p; solution = grid k; kept = [] };
          is_made = record { k = k; first = first; filled = refl; clues = refl; only = only.0; verdict = only.1; unthinned = refl };
          spelled = (pattern_is_written p (runs_lawful size (grid k) (lines_runs size (grid k)) extent refl)).spells;
          said = refl;
        }

-- ---- so is a filling of Tents
record IsTentsExtent (size : Extent) : Type 0 where
  extent : IsExtent size
  w_four : 4 ≤ size.w
  h_four : 4 ≤ size.h

tents_extent : (text : Text) (read : SizeRead) → tents_sizes text ≡ Ok read → IsTentsExtent (extent_of read)
tents_extent text read e =
    let sized = bind_ok (size_of game.Tents text) (λ s. if nat_le 4 s.w && nat_le 4 s.h then taken s else Err SizeRange) read e in
    let large = chosen (nat_le 4 sized.0.w && nat_le 4 sized.0.h) (taken sized.0) (Err SizeRange) (taken read) sized.2 in
    elim large [
      | inl four ↦ subst (λ (s : SizeRead). IsTentsExtent (extent_of s)) (ok_is sized.0 read four.1) (record {
        extent = (fields_wide (size_take game.Tents text sized.0 sized.1).1).extent;
        w_four = leb-true _ _ (and_parts (nat_le 4 sized.0.w) (nat_le 4 sized.0.h) four.0).0;
        h_four = leb-true _ _ (and_parts (nat_le 4 sized.0.w) (nat_le 4 sized.0.h) four.0).1;
      })
      | inr small ↦ absurd (let bad : Err SizeRange ≡ taken read = small.1 in cc)
    ]

-- what fillings of Tents are; `maker_core` keeps the name of their type to itself
abbrev MadeBy : {A : Type 0} → (Extent → Making A) → Type 0
MadeBy {A = A} make = A

abbrev DrawnTents : Type 0
DrawnTents = MadeBy tent_filling

tents_lawful : (size : Extent) (filling : DrawnTents) → IsTentsExtent size → IsGrid (size.w * size.h) 2 filling.trees → IsTents (tents_puzzle_of size filling)
unfolding tents_puzzle_of
tents_lawful size filling large trees =
    let w = large.w_four in
    let h = large.h_four in
    ones_lawful size filling.trees filling.tents (lines_ones size filling.tents) filling.trees large.extent (omega arith) (omega arith) trees refl refl

tents_making : (w : Wanted) → HasWords w.stream → (text : Text) (read : SizeRead) → tents_sizes text ≡ Ok read
    → IsMaking tents_facts (λ p q. p ≡ q) w read
tents_making w words text read is = record {
  filling = DrawnTents;
  make = tent_filling size;
  passes = tents_pass size w.budget;
  first = λ m made. (made.k, made.first);
  same = λ m n x y e. (
    x.clues ∙ ap (λ k. tents_puzzle_of size (filling k)) e ∙ sym y.clues,
    x.filled ∙ ap (λ k. (filling k).tents) e ∙ sym y.filled,
  );
  some = λ k first. (handed_out tents_facts (tents_puzzle_of size (filling k)) (filling k).tents, handed k first);
  none = (λ none. none, λ none. none);
}
  where
    size : Extent
    size = extent_of read

    large : IsTentsExtent size
    large = tents_extent text read is

    filling : ℕ → DrawnTents
    filling k = filling_at (tent_filling size) k w.stream

    handed : (k : ℕ) → IsFirstPassing (tent_filling size) (tents_pass size w.budget) w.stream w.tries k
        → IsHandedOut tents_facts w read (handed_out tents_facts (tents_puzzle_of size (filling k)) (filling k).tents)
    handed k first =
        let p = tents_puzzle_of size (filling k) in
        let solved = filling_at_solves large.extent words k in
        let ok = tents_lawful size (filling k) large solved.trees in
        let only = one_is _ _ (λ h s. s.grid)
        (λ h cells. (tents.solution-from-tents p h cells, tents.tents-from-solution p h cells))
        (has_one _ (tents_searched ok).lawful w.budget first.passing) solved.solves in
        record {
          made = record { puzzle = p; solution = (filling k).tents; kept = [] };
          is_made = record {
            k = k;
            first = first;
            clues = refl;
            filled = refl;
            size_asked = tents_size size (filling k) p refl;
            only = only.0;
            verdict = only.1;
            unthinned = refl;
          };
          spelled = (tents_is_written p ok).spells;
          said = refl;
        }

-- ---- the first filling of Solo that is there, and of Light Up, is thinned
solo_making : (w : Wanted) → HasWords w.stream → (text : Text) (read : SizeRead) → size_of game.Solo text ≡ Ok read
    → IsMaking solo_facts SameSolo w read
solo_making w words text read is = record {
  filling = Option (List ℕ);
  make = solo_filling read.w read.h read.x w.budget;
  passes = solo_passes read.w read.h read.x w.budget;
  first = λ m made. (made.k, made.first);
  same = λ m n x y e.
      let same : n.solution ≡ m.solution = let filled : Some n.solution ≡ Some m.solution = sym y.filled ∙ ap filling (sym e) ∙ x.filled in cc in (
        solo_is_game.same_through m.puzzle (all_given read.w read.h read.x m.solution) n.puzzle x.givens.frame
            (solo_is_game.same_back n.puzzle (all_given read.w read.h read.x m.solution)
            (subst (λ g. SameSolo n.puzzle (all_given read.w read.h read.x g)) same y.givens.frame)),
        sym same,
      );
  some = λ k first. handed k first (filling k) refl;
  none = (
    λ none. record { none = λ k lt. solo_missing read.w read.h size read.x w.budget words k (none.failing k lt); plain = untried w.tries none },
    λ none. record { failing = λ k lt. ap (solo_passes read.w read.h read.x w.budget) (none.none k lt) },
  );
}
  where
    size : IsSoloSize read.w read.h
    size = solo_sized (size_take game.Solo text read is).1

    filling : ℕ → Option (List ℕ)
    filling k = filling_at (solo_filling read.w read.h read.x w.budget) k w.stream

    handed : (k : ℕ) → IsFirstPassing (solo_filling read.w read.h read.x w.budget) (solo_passes read.w read.h read.x w.budget) w.stream w.tries k
        → (o : Option (List ℕ)) → filling k ≡ o → (a : Answer) × IsHandedOut solo_facts w read a
    handed k first None e = absurd (true≢false (sym (rw e at first.passing)))
    handed k first (Some g) e =
        let t = solo_thinned read.w read.h size read.x w.budget words k g first e in (
          handed_out solo_facts t.0 g,
          record {
            made = record { puzzle = t.0; solution = g; kept = t.1 };
            is_made = t.3;
            spelled = (solo_is_written t.0 t.2).spells;
            said = refl;
          },
        )

    -- without diagonals each filling is there
    untried : (n : ℕ) → NonePasses (solo_filling read.w read.h read.x w.budget) (solo_passes read.w read.h read.x w.budget) w.stream n
        → read.x ≡ false → n ≡ 0
    untried zero none plain = refl
    untried (suc n) none plain = absurd (there (rw plain at (solo_missing read.w read.h size read.x w.budget words 0 (none.failing 0 (omega arith)))))
      where
        there : filling_at (solo_filling read.w read.h false w.budget) 0 w.stream ≡ None → ⊥
        there e = cc

light_making : (w : Wanted) → HasWords w.stream → (text : Text) (read : SizeRead) → size_of game.LightUp text ≡ Ok read
    → IsMaking light_facts SameLight w read
light_making w words text read is = record {
  filling = _;
  make = light_filling size w.black;
  passes = light_passes size w.budget;
  first = λ m made. (made.k, made.first);
  same = λ m n x y e. (
    light_is_game.same_through m.puzzle (filled x.k) n.puzzle x.numbers.frame
        (light_is_game.same_back n.puzzle (filled x.k) (subst (λ k. SameLight n.puzzle (filled k)) (sym e) y.numbers.frame)),
    x.filled ∙ ap bulbs e ∙ sym y.filled,
  );
  some = λ k first.
      let t = light_thinned size (fields_wide (size_take game.LightUp text read is).1) w.black w.budget w.tries w.stream words k first in (
        handed_out light_facts t.0 (bulbs k),
        record {
          made = record { puzzle = t.0; solution = bulbs k; kept = t.1 };
          is_made = t.3;
          spelled = (light_is_written t.0 t.2).spells;
          said = refl;
        },
      );
  none = (λ none. none, λ none. none);
}
  where
    size : Extent
    size = extent_of read

    filled : ℕ → Light
    filled k = light_puzzle_of size (filling_at (light_filling size w.black) k w.stream)

    bulbs : ℕ → List ℕ
    bulbs k = (filling_at (light_filling size w.black) k w.stream).bulbs

-- ---- the answers to a size's text
abbrev pub alike_of : (g : Game) → puzzle_type g → puzzle_type g → Type 0
alike_of game.Pattern p q = p ≡ q
alike_of game.Solo p q = SameSolo p q
alike_of game.LightUp p q = SameLight p q
alike_of game.Tents p q = p ≡ q

module _ (w : Wanted) (words : HasWords w.stream) where
  making : (g : Game) (text : Text) (read : SizeRead) → (game_of g).game.sizes text ≡ Ok read → IsMaking (game_of g) (alike_of g) w read
  making game.Pattern = pattern_making w
  making game.Solo = solo_making w words
  making game.LightUp = light_making w words
  making game.Tents = tents_making w words

  pub made_some : (g : Game) (text : Text) → (a : Answer) × AllowsMade (game_of g) w text a
  made_some g text = id_some (size_reading (game_of g).game.sizes) text _ (λ read is. making_some (making g text read is))

  pub made_differ : (g : Game) (text : Text) (one other : Answer) → AllowsMade (game_of g) w text one → AllowsMade (game_of g) w text other
      → DifferInClues (game_of g) (alike_of g) one other
  made_differ g text one other = both_answers (size_reading (game_of g).game.sizes) (DifferInClues (game_of g) (alike_of g)) text one other
      (λ cause. same_differ refl refl (omega arith)) (λ read is. making_differs (making g text read is) one other)

  -- nothing is thinned in Pattern and Tents
  pub made_pattern : (text : Text) → HasOneAnswer (AllowsMade (game_of game.Pattern) w text)
  made_pattern text = one_of_same (made_some game.Pattern text) (λ a b x y. told_same (made_differ game.Pattern text a b x y))

  pub made_tents : (text : Text) → HasOneAnswer (AllowsMade (game_of game.Tents) w text)
  made_tents text = one_of_same (made_some game.Tents text) (λ a b x y. told_same (made_differ game.Tents text a b x y))
