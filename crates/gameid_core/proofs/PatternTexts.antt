-- Pattern: the steps of a description, and that a text is read exactly where it spells a puzzle.
use Rattle.gameid_core.specs.Common.{AllByRecursion, AreClues, BadByte, Bool, Bor, Cuts, Err, Extent, Gives, HasOneReading, IdFault, IsClue, IsExtent, IsNumeral, IsPattern, List, Ok, Pattern, Result, TakesNumber, TooFew, TooMany, [], append-nil, append_assoc, arith, begins, common_steps, concat, cond, digits_front, drop, eqb, extent_of, false, flat_map, in_range, inl, inr, is_ascii_digit, join_with_byte, length, line_cells, lines_of, map, nat_tests, reading, refl, subst, sym, true, used, value, words, ℕ, ◌++◌, ◌+◌, ◌<◌, ◌>>=◌, ◌∙◌, ◌∷◌, ◌≡◌, ◌≤◌, ◌⊎◌}
use Rattle.gameid_core.specs.PatternText.{GivesDigits, clue_number, clue_token, clues_at, pattern_end, pattern_step, SoFar, SpellsPattern, clues_text, pattern_behind, pattern_of}
use Rattle.gameid_core.proofs.Reading.{IsWord, bind_ok, concat_words, cuts_joined, cuts_number, cuts_single, cuts_some, joined_cuts, numeral_cuts, numeral_word, only_of, reading_end, reading_of, reading_turn, words_are, words_nil, words_single}
use Rattle.gameid_core.proofs.HeadLaws.{parts_of, plain_size, puzzle_again}
use Rattle.gameid_core.specs.declared.id.game.Game.TheVariants as game

pub first_takes : (cells line at : ℕ) (clue text : List ℕ) (r : Result (ℕ × Bor (List ℕ)) IdFault) → used clue ≡ 0 → 0 < length text
    → GivesDigits (clue_number cells line (used clue) at (digits_front text)) text at r → TakesNumber (clue_token cells line clue at) text r
unfolding clue_token
first_takes cells line at (n ∷ clue) text r none some gives = absurd (omega arith)
first_takes cells line at [] [] r none some gives = absurd (omega arith)
first_takes cells line at [] (b ∷ after) r none some gives = grind (arith, cuts_number, cuts_some b after)

pub further_takes : (cells line at : ℕ) (clue text : List ℕ) (r : Result (ℕ × Bor (List ℕ)) IdFault) → 0 < used clue → begins (λ b. eqb b 46) text ≡ true
    → GivesDigits (clue_number cells line (used clue) (at + 1) (digits_front (drop 1 text))) (drop 1 text) at r
    → TakesNumber (clue_token cells line clue at) text r
unfolding clue_token
further_takes cells line at clue [] r some dot gives = absurd cc
further_takes cells line at clue (b ∷ after) r some dot gives = grind (arith, cuts_joined 46 after refl, cuts_single 46 after)

pub further_other : (cells line at : ℕ) (clue text : List ℕ) → 0 < used clue → 0 < length text → begins (λ b. eqb b 46) text ≡ false
    → TakesNumber (clue_token cells line clue at) text (Err (BadByte at))
unfolding clue_token
further_other cells line at clue [] some first other = absurd (omega arith)
further_other cells line at clue (b ∷ after) some first other = grind (arith, cuts_some b after)

pub ruleset numbers = (first_takes, further_takes, further_other)

abbrev pub so_far : List (List ℕ) → List ℕ → SoFar
so_far clues clue = record { clues = clues; clue = clue }

pub used_push : (clue : List ℕ) (n : ℕ) → used (clue ++ n ∷ []) ≡ used clue + (n + 1)
used_push [] n = omega arith
used_push (m ∷ clue) n = omega (arith, used_push clue n)

-- a number that was taken
pub first_cases : (cells line at n : ℕ) (word : List ℕ) → clue_token cells line [] at word ≡ Ok n
    → (begins is_ascii_digit word ≡ true) × (value word ≡ n) × (0 < n) × (n ≤ cells)
unfolding clue_token clue_number
first_cases cells line at n word e = grind arith

pub further_cases : (cells line at n m : ℕ) (clue word : List ℕ)
    → clue_token cells line (m ∷ clue) at word ≡ Ok n
    → (begins (λ b. eqb b 46) word ≡ true) × (begins is_ascii_digit (drop 1 word) ≡ true)
    × (value (drop 1 word) ≡ n) × (0 < n) × (used (m ∷ clue) + n ≤ cells)
unfolding clue_token clue_number
further_cases cells line at n m clue word e = grind arith

pub token_small : (cells line at n : ℕ) (clue word : List ℕ) → clue_token cells line clue at word ≡ Ok n → (0 < n) × (used clue + n ≤ cells)
token_small cells line at n [] word e = grind (arith, common_steps, first_cases)
token_small cells line at n (m ∷ clue) word e = grind (arith, common_steps, further_cases)

-- ---- clues that are read fit

IsClue-push : {cells n : ℕ} {clue : List ℕ} → IsClue cells clue → (0 < n) × (used clue + n ≤ cells) → IsClue cells (clue ++ n ∷ [])
IsClue-push h p = grind (arith, common_steps, used_push)

IsClue-none : {cells : ℕ} → IsClue cells []
IsClue-none = grind (arith, common_steps)

-- ---- texts of numerals

pub join_cons : (c : ℕ) (x : List ℕ) (xs : List (List ℕ)) → join_with_byte c (x ∷ xs) ≡ x ++ flat_map (λ y. c ∷ y) xs
join_cons c x [] = sym (append-nil x)
join_cons c x (y ∷ xs) = grind (arith, common_steps, join_cons c y xs)

-- the numerals of a clue, of which some were read before
abbrev pub tail_text : List ℕ → List (List ℕ) → List ℕ
tail_text [] ns = join_with_byte 46 ns
tail_text (m ∷ clue) ns = flat_map (λ n. 46 ∷ n) ns

abbrev pub later_text : List (List (List ℕ)) → List ℕ
later_text later = flat_map (λ ns. 47 ∷ join_with_byte 46 ns) later

pub tail_none : (clue : List ℕ) → tail_text clue [] ≡ []
tail_none clue = grind arith

-- ---- what is read is spelled

record IsSpelled (clues : List (List ℕ)) (clue text : List ℕ) (all : List (List ℕ)) (ns : List (List ℕ)) (later : List (List (List ℕ))) : Type 0 where
  parts : text ≡ tail_text clue ns ++ later_text later
  ns_digits : AllByRecursion IsNumeral ns
  later_digits : AllByRecursion (AllByRecursion IsNumeral) later
  values : clues ++ (clue ++ map value ns) ∷ map (map value) later ≡ all

record Spelled (clues : List (List ℕ)) (clue text : List ℕ) (all : List (List ℕ)) : Type 0 where
  ns : List (List ℕ)
  later : List (List (List ℕ))
  is : IsSpelled clues clue text all ns later

-- a '.' and a numeral
dotted_word : (word : List ℕ) → IsWord word → begins (λ b. eqb b 46) word ≡ true
    → begins is_ascii_digit (drop 1 word) ≡ true
    → (word ≡ 46 ∷ drop 1 word) × IsNumeral (drop 1 word)
dotted_word word w dot d = grind arith

slash_word : {word : List ℕ} → IsWord word → begins (λ b. eqb b 47) word ≡ true → word ≡ 47 ∷ []
slash_word w s = grind arith

slash_spelled : {clues : List (List ℕ)} (clue : List ℕ) {word rest : List ℕ} {all : List (List ℕ)} → word ≡ 47 ∷ [] → Spelled (clues ++ clue ∷ []) [] rest all
    → Spelled clues clue (word ++ rest) all
slash_spelled clue slash r = record { ns = []; later = r.ns ∷ r.later; is = grind (arith, common_steps, tail_none clue) }

number_spelled : (cells line at : ℕ) (clues : List (List ℕ)) (clue word rest : List ℕ) (all : List (List ℕ)) (n : ℕ) → IsWord word
    → clue_token cells line clue at word ≡ Ok n → Spelled clues (clue ++ n ∷ []) rest all → Spelled clues clue (word ++ rest) all
number_spelled cells line at clues [] word rest all n w t r =
    record {
      ns = word ∷ r.ns;
      later = r.later;
      is = grind (
        arith,
        common_steps,
        first_cases cells line at n word t,
        numeral_word word w,
        join_cons 46 word r.ns,
      );
    }
number_spelled cells line at clues (m ∷ clue) word rest all n w t r =
    record { ns = drop 1 word ∷ r.ns; later = r.later; is = grind (arith, common_steps, further_cases cells line at n m clue word t, dotted_word word w) }

-- ---- what fits

used_more : (n : ℕ) (clue rest : List ℕ) → used clue + (n + 1) ≤ used (clue ++ n ∷ rest)
used_more n [] rest = omega arith
used_more n (m ∷ clue) rest = omega (arith, used_more n clue rest)

positive_at : (n : ℕ) (clue rest : List ℕ) → AllByRecursion (λ k. 0 < k) (clue ++ n ∷ rest) → 0 < n
positive_at n [] rest h = h.0
positive_at n (m ∷ clue) rest h = positive_at n clue rest h.1

used_fits : {cells : ℕ} (n : ℕ) (clue rest : List ℕ) → IsClue cells (clue ++ n ∷ rest) → (0 < n) × (used clue + n ≤ cells)
used_fits n clue rest h = grind (arith, used_more, positive_at)

first_read : (cells line at : ℕ) {num : List ℕ} → IsNumeral num → 0 < value num → value num ≤ cells → clue_token cells line [] at num ≡ Ok (value num)
unfolding clue_token clue_number
first_read cells line at h some room = grind (arith, common_steps)

further_read : {cells : ℕ} (line at m : ℕ) (clue num : List ℕ) → IsNumeral num → 0 < value num
    → used (m ∷ clue) + value num ≤ cells
    → clue_token cells line (m ∷ clue) at (46 ∷ num) ≡ Ok (value num)
unfolding clue_token clue_number
further_read line at m clue num h some room = grind (arith, common_steps)

numeral_other : {num : List ℕ} → IsNumeral num → begins (λ b. eqb b 47) num ≡ false
numeral_other h = grind arith

-- no clue's rest and no later clue begins with a digit
rest_begins : (m : ℕ) (clue : List ℕ) (ns : List (List ℕ)) (later : List (List (List ℕ)))
    → begins is_ascii_digit (tail_text (m ∷ clue) ns ++ later_text later) ≡ false
rest_begins m clue [] [] = refl
rest_begins m clue [] (l ∷ later) = refl
rest_begins m clue (n ∷ ns) later = refl

flat_map-map : (later : List (List (List ℕ))) → flat_map (λ y. 47 ∷ y) (map (join_with_byte 46) later) ≡ later_text later
flat_map-map [] = refl
flat_map-map (l ∷ later) = grind (arith, flat_map-map later)

pub clues_text_is : (ns : List (List ℕ)) (later : List (List (List ℕ))) → clues_text (ns ∷ later) ≡ tail_text [] ns ++ later_text later
clues_text_is ns later = grind (arith, common_steps, join_cons, flat_map-map)

pub record CluesSpelled (description : List ℕ) (all : List (List ℕ)) : Type 0 where
  pub numerals : List (List (List ℕ))
  pub parts : description ≡ clues_text numerals
  pub digits : AllByRecursion (AllByRecursion IsNumeral) numerals
  pub values : map (map value) numerals ≡ all

module _ (size : Extent) where
  abbrev pub read_words : ℕ → SoFar → List (List ℕ) → Result (List (List ℕ)) IdFault
  read_words at s ws = reading (pattern_step size) (pattern_end size) at s ws

  abbrev pub reads : ℕ → SoFar → List ℕ → Result (List (List ℕ)) IdFault
  reads at s rest = read_words at s (words rest)

  pub step_number : (at : ℕ) (clues : List (List ℕ)) (clue word : List ℕ) (r : Result ℕ IdFault)
      → begins (λ b. eqb b 47) word ≡ false
      → clue_token (line_cells size (length clues)) (length clues) clue at word ≡ r
      → pattern_step size at (so_far clues clue)
      word ≡ (r >>= (λ n. Ok (so_far clues (clue ++ n ∷ []))))
  step_number at clues clue word r other e = rw (other, e) refl

  -- '/' ends a clue that is not the last, and is refused after that
  pub slash_full : (at b : ℕ) (s : SoFar) (after : List ℕ) → b ≡ 47 → length s.clues + 1 ≡ lines_of size → reads at s (b ∷ after) ≡ Err TooMany
  unfolding reading
  slash_full at b s after slash full = grind (arith, common_steps, words_single)

  pub slash_turn : (at b : ℕ) (s : SoFar) (after : List ℕ) → b ≡ 47 → (length s.clues + 1 ≡ lines_of size → ⊥)
      → reads at s (b ∷ after) ≡ reads (at + 1) (so_far (s.clues ++ s.clue ∷ []) []) after
  unfolding reading
  slash_turn at b s after slash room = grind (arith, common_steps, words_single)

  -- another token adds a number to the clue
  pub number_turn : (at n : ℕ) (s : SoFar) (text word after : List ℕ) → Cuts text word after → begins (λ b. eqb b 47) text ≡ false
      → clue_token (line_cells size (length s.clues)) (length s.clues) s.clue at word ≡ Ok n
      → reads at s text ≡ reads (at + length word) (so_far s.clues (s.clue ++ n ∷ [])) after
  number_turn at n s text word after cuts other token = grind (arith, common_steps, reading_turn, step_number)

  pub end_is : (clues : List (List ℕ)) (clue : List ℕ) (full : Bool)
      → eqb (length clues + 1) (lines_of size) ≡ full
      → pattern_end size (so_far clues clue) ≡ cond full (Ok (clues ++ clue ∷ [])) (Err TooFew)
  end_is clues clue full e = rw e refl

  -- a step that was taken: '/', or a number
  pub record Slash (clues : List (List ℕ)) (clue word : List ℕ) (t : SoFar) : Type 0 where
    pub slash : begins (λ b. eqb b 47) word ≡ true
    pub room : length clues + 1 ≡ lines_of size → ⊥
    pub leads : so_far (clues ++ clue ∷ []) [] ≡ t

  pub record Number (at : ℕ) (clues : List (List ℕ)) (clue word : List ℕ) (t : SoFar) : Type 0 where
    pub other : begins (λ b. eqb b 47) word ≡ false
    pub number : ℕ
    pub token : clue_token (line_cells size (length clues)) (length clues) clue at word ≡ Ok number
    pub leads : so_far clues (clue ++ number ∷ []) ≡ t

  pub step_cases : (at : ℕ) (clues : List (List ℕ)) (clue word : List ℕ) (t : SoFar)
      → pattern_step size at (so_far clues clue) word ≡ Ok t
      → Slash clues clue word t ⊎ Number at clues clue word t
  step_cases at clues clue word t e = grind arith

  AreClues-push : (line : ℕ) (clues : List (List ℕ)) (clue : List ℕ) → AreClues size line clues
      → IsClue (line_cells size (line + length clues)) clue
      → AreClues size line (clues ++ clue ∷ [])
  AreClues-push line [] clue h p = grind arith
  AreClues-push line (c ∷ clues) clue h p = grind (arith, nat_tests, AreClues-push (line + 1) clues clue h.1)

  read_all : (at : ℕ) (clues : List (List ℕ)) (clue : List ℕ) (ws : List (List ℕ)) (all : List (List ℕ)) → AreClues size 0 clues
      → IsClue (line_cells size (length clues)) clue → AllByRecursion IsWord ws → read_words at (so_far clues clue) ws ≡ Ok all
      → AreClues size 0 all × (length all ≡ lines_of size) × Spelled clues clue (concat ws) all
  unfolding reading
  read_all at clues clue [] all h p w e =
      let fits : AreClues size 0 all × (length all ≡ lines_of size) = grind (arith, common_steps, AreClues-push) in
      let spelled : Spelled clues clue [] all = grind (arith, tail_none clue, append-nil clue) in (fits.0, fits.1, spelled)
  read_all at clues clue (word ∷ ws) all h p w e =
      let b = bind_ok (pattern_step size at (so_far clues clue) word) (λ t. read_words (at + length word) t ws) all e in
      elim (step_cases at clues clue word b.0 b.1) [
        | inl s ↦
            let r = read_all (at + length word) (clues ++ clue ∷ []) [] ws all (AreClues-push 0 clues clue h (grind arith)) IsClue-none w.1 (grind arith) in
            (r.0, r.1, slash_spelled clue (slash_word w.0 s.slash) r.2)
        | inr n ↦
            let r = read_all (at + length word) clues (clue ++ n.number ∷ []) ws all h (IsClue-push p (grind (arith, token_small, n.token))) w.1 (grind arith) in
            (r.0, r.1, number_spelled _ _ at clues clue word (concat ws) all n.number w.0 n.token r.2)
      ]

  pub clues_lawful : (at : ℕ) (description : List ℕ) (all : List (List ℕ)) → IsExtent size
      → clues_at size at description ≡ Ok all → IsPattern (record { size = size; clues = all })
  clues_lawful at description all h e = grind (arith, read_all at [] [] (words description) all tt IsClue-none (words_are description) e)

  abbrev Reads : List (List ℕ) → List (List ℕ) → List ℕ → List ℕ → Type 0
  Reads all clues clue text = (at : ℕ) → read_words at (so_far clues clue) (words text) ≡ Ok all

  -- the rest of a clue is read, and then what follows it
  clue_again : (all clues : List (List ℕ)) (clue : List ℕ) (ns : List (List ℕ))
      (later : List (List (List ℕ))) → AllByRecursion IsNumeral ns
      → IsClue (line_cells size (length clues)) (clue ++ map value ns)
      → Reads all clues (clue ++ map value ns) (later_text later)
      → Reads all clues clue (tail_text clue ns ++ later_text later)
  clue_again all clues clue [] later d fits next at = grind (arith, common_steps)
  clue_again all clues [] (num ∷ ns) later d fits next at =
      grind (
        arith,
        common_steps,
        join_cons 46 num ns,
        numeral_cuts num (tail_text (value num ∷ []) ns ++ later_text later) d.0
            (rest_begins (value num) [] ns later),
        step_number at clues [] num (Ok (value num)) (numeral_other d.0),
        first_read,
        reading_turn (pattern_step size) (pattern_end size) at (so_far clues []) (so_far clues (value num ∷ [])),
        clue_again all clues (value num ∷ []) ns later d.1 fits next (at + length num),
      )
  clue_again all clues (m ∷ clue) (num ∷ ns) later d fits next at =
      let room = used_fits (value num) (m ∷ clue) (map value ns) fits in
      let text : tail_text (m ∷ clue) (num ∷ ns) ++ later_text
      later ≡ 46 ∷ (num ++ (tail_text (m ∷ clue) ns ++ later_text later)) =
      append_assoc (46 ∷ num) (tail_text (m ∷ clue) ns) (later_text later) in
      let cuts = joined_cuts 46 refl num (tail_text (m ∷ clue) ns ++ later_text later) d.0 (rest_begins m clue ns later) in
      let step = step_number at clues (m ∷ clue) (46 ∷ num) (Ok (value num)) refl (further_read _ at m clue num d.0 room.0 room.1) in
      let moved : (m ∷ clue) ++ value num ∷ map value ns ≡ ((m ∷ clue) ++ value num ∷ []) ++ map
      value ns = sym (append_assoc (m ∷ clue) (value num ∷ []) (map value ns)) in
      rw text (reading_turn (pattern_step size) (pattern_end size) at (so_far clues (m ∷ clue))
      (so_far clues ((m ∷ clue) ++ value num ∷ [])) _ (46 ∷ num) _ cuts step
      ∙ clue_again all clues ((m ∷ clue) ++ value num ∷ []) ns later d.1
      (subst (λ (c : List ℕ). IsClue (line_cells size (length clues)) c) moved fits)
      (subst (λ (c : List ℕ). Reads all clues c (later_text later)) moved next)
      (at + length (46 ∷ num)))

  -- ---- the clues after a clue

  are_at : (line : ℕ) (xs : List (List ℕ)) (c : List ℕ) (ys : List (List ℕ)) → AreClues size line (xs ++ c ∷ ys) → IsClue (line_cells size (line + length xs)) c
  are_at line [] c ys h = grind arith
  are_at line (x ∷ xs) c ys h = grind (arith, are_at (line + 1) xs c ys h.1)

  later_again : (all clues : List (List ℕ)) (clue : List ℕ) (later : List (List (List ℕ)))
      → AllByRecursion (AllByRecursion IsNumeral) later
      → clues ++ clue ∷ map (map value) later ≡ all → length all ≡ lines_of size
      → AreClues size 0 all → Reads all clues clue (later_text later)
  later_again all clues clue [] d is len are at = grind (arith, common_steps, reading_end, end_is)
  later_again all clues clue (l ∷ later) d is len are at =
      grind (
        arith,
        nat_tests,
        common_steps,
        are_at 0 (clues ++ clue ∷ []) (map value l) (map (map value) later),
        clue_again all (clues ++ clue ∷ []) [] l later d.0,
        later_again all (clues ++ clue ∷ []) (map value l) later d.1,
        reading_turn (pattern_step size) (pattern_end size) at (so_far clues clue)
            (so_far (clues ++ clue ∷ []) []) (47 ∷ (join_with_byte 46 l ++ later_text later)) (47 ∷ [])
            (join_with_byte 46 l ++ later_text later) (cuts_single 47 (join_with_byte 46 l ++ later_text later) refl),
      )

  -- what clues that fit spell is read
  pub clues_again : (at : ℕ) (numerals : List (List (List ℕ)))
      → AllByRecursion (AllByRecursion IsNumeral) numerals
      → IsPattern (record { size = size; clues = map (map value) numerals })
      → clues_at size at (clues_text numerals) ≡ Ok (map (map value) numerals)
  clues_again at [] d h = grind arith
  clues_again at (ns ∷ later) d h =
      let all : List (List ℕ) = map (map value) (ns ∷ later) in
      rw (clues_text_is ns later) (clue_again all [] [] ns later d.0 h.clues.0 (later_again all [] (map value ns) later d.1 refl h.lines h.clues) at)

  pub clues_take : (at : ℕ) (description : List ℕ) (all : List (List ℕ)) → clues_at size at description ≡ Ok all → CluesSpelled description all
  clues_take at description all e =
      let s = (read_all at [] [] (words description) all tt IsClue-none (words_are description) e).2 in
      record {
        numerals = s.ns ∷ s.later;
        parts = grind (arith, concat_words description, s.is.parts, clues_text_is s.ns s.later);
        digits = (s.is.ns_digits, s.is.later_digits);
        values = s.is.values;
      }

  range_of : IsExtent size → in_range game.Pattern size.w size.h ≡ true
  range_of h = grind arith

pub ruleset turns = (common_steps, words_nil, slash_full, slash_turn, used_push, token_small)

pub pattern_takes : (text : List ℕ) (p : Pattern) → pattern_of text ≡ Ok p → SpellsPattern text p
pattern_takes text p e =
    let r =
    parts_of game.Pattern text
    (λ head description. clues_at (extent_of head.size) head.description description)
    (λ head clues. record { size = extent_of head.size; clues = clues }) e in
    let extent : IsExtent (extent_of r.head.size) = grind (arith, r.is_head.range) in
    grind (
      arith,
      clues_take _ _ _ _ r.read,
      extent,
      clues_lawful (extent_of r.head.size) r.head.description (drop r.head.description text) r.given,
      plain_size,
    )

pub pattern_again : (text : List ℕ) (p : Pattern) → SpellsPattern text p → pattern_of text ≡ Ok p
pattern_again text p s =
    grind (
      arith,
      puzzle_again game.Pattern pattern_behind s.front (clues_text s.numerals) p.size.w
          p.size.h false s.size (range_of p.size s.puzzle.size),
      clues_again p.size (length s.front + 1) s.numerals s.digits,
    )

pub pattern_reading : HasOneReading SpellsPattern pattern_of
pattern_reading = reading_of _ _ pattern_again pattern_takes

pub pattern_only : (text : List ℕ) (r : Result Pattern IdFault) (p : Pattern)
    → Gives (λ q. q) r (pattern_of text) → SpellsPattern text p → Gives (λ q. q) r (Ok p)
pattern_only text r p gives s = only_of _ _ pattern_again text r gives p s

pub ruleset reads_exactly = (pattern_takes, pattern_only)
