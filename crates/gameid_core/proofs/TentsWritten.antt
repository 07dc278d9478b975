-- The written text of a puzzle of Tents: its length, that it spells the puzzle, and that no other does.
use Rattle.gameid_core.specs.Common.{AllByRecursion, AreCounts, Extent, HasOneText, IsExtent, IsNumeral, IsPlain, IsTents, List, Tents, [], ap, append_assoc, arith, common_steps, cond, decimal, digits_value-decimal, eqb, flat_map, inl, length, length-decimal-le, map, max_id, max_side, nat_tests, refl, replicate, size_text, suc, value, zero, ℕ, ◌*◌, ◌++◌, ◌+◌, ◌<◌, ◌∷◌, ◌≡◌, ◌≤◌}
use Rattle.gameid_core.specs.TentsText.{IsTentsToken, IsWrittenTents, TentsToken, blanks_and_tree, only_blanks, tents_text, tents_token_cells, trees_text, AreTight, tents_tokens}
use Rattle.gameid_core.proofs.Reading.{decimal_plain, length_decimal, numeral, one_text, own, plain_decimal}
use Rattle.gameid_core.proofs.TentsTexts.{numbers_text}

-- ---- the numbers of tents

abbrev pub counts_text : List ℕ → List ℕ
counts_text counts = flat_map (λ n. 44 ∷ decimal n) counts

-- ---- how long

tokens_short : (k : ℕ) (cells : List ℕ) → length (tents_tokens k cells) ≤ length cells + 1
unfolding tents_tokens
tokens_short k [] = omega arith
tokens_short k (zero ∷ cells) = grind (arith, tokens_short 1 cells, tokens_short (k + 1) cells)
tokens_short k (suc b ∷ cells) = omega (arith, tokens_short 0 cells)

count_short : (n : ℕ) → n ≤ max_side → length (decimal n) ≤ max_side
count_short n small = grind (arith, common_steps, length-decimal-le, length_decimal)

counts_short : (size : Extent) (line : ℕ) (counts : List ℕ) → IsExtent size
    → AreCounts size line counts → length (counts_text counts) ≤ (max_side + 1) * length counts
counts_short size line [] e h = omega arith
counts_short size line (n ∷ counts) e h = grind (arith, common_steps, count_short n, counts_short size (line + 1) counts e h.1)

pub tents_short : (p : Tents) → IsTents p → length (tents_text p) ≤ max_id
tents_short p h = grind (arith, common_steps, length_decimal, tokens_short, counts_short)

-- ---- what it spells

record Written (k : ℕ) (cells : List ℕ) (tokens : List TentsToken) : Type 0 where
  each : AllByRecursion IsTentsToken tokens
  tight : AreTight tokens
  filled : flat_map tents_token_cells tokens ≡ replicate k 0 ++ (cells ++ 1 ∷ [])

cells_written : (k : ℕ) (cells : List ℕ) → k ≤ 25 → AllByRecursion (λ b. b < 2) cells → Written k cells (tents_tokens k cells)
unfolding tents_tokens
cells_written k [] few h = grind (arith, common_steps)
cells_written k (zero ∷ cells) few h = grind (arith, nat_tests, common_steps, cells_written 1 cells, cells_written (k + 1) cells)
cells_written k (suc b ∷ cells) few h = grind (arith, nat_tests, common_steps, cells_written 0 cells)

pub numbers_are : (counts : List ℕ) → counts_text counts ≡ numbers_text (map decimal counts)
numbers_are [] = refl
numbers_are (n ∷ counts) = grind (arith, common_steps, numbers_are counts)

numerals : (size : Extent) (line : ℕ) (counts : List ℕ) → IsExtent size → AreCounts size line counts
    → AllByRecursion IsNumeral (map decimal counts) × AllByRecursion IsPlain (map decimal counts) × (map value (map decimal counts) ≡ counts)
numerals size line [] e h = (tt, tt, refl)
numerals size line (n ∷ counts) e h =
    grind (arith, numerals size (line + 1) counts e h.1, digits_value-decimal own n, numeral n, decimal_plain n)

-- the written text has the form of a written text, and so it spells the puzzle
pub tents_is_written : (p : Tents) → IsTents p → IsWrittenTents (tents_text p) p
tents_is_written p h =
    let w = cells_written 0 p.trees (omega arith) h.bits in
    let n = numerals p.size 0 p.counts h.size.extent h.range in
    record {
      spells = record {
        short = tents_short p h;
        puzzle = h;
        front = size_text p.size.w p.size.h;
        tokens = tents_tokens 0 p.trees;
        numerals = map decimal p.counts;
        parts = ap (λ (t : List ℕ). size_text p.size.w p.size.h ++ 58 ∷ (trees_text 0 p.trees ++ t)) (numbers_are p.counts);
        size = inl refl;
        each = w.each;
        digits = n.0;
        cells = w.filled;
        counts = n.2;
      };
      both = refl;
      tight = w.tight;
      plain = n.1;
    }

-- the tokens of places, with k blanks before them
unfoldable pub tokens_of : ℕ → List ℕ → List TentsToken
tokens_of k [] = cond (eqb k 25) (only_blanks ∷ []) []
tokens_of k (zero ∷ places) = cond (eqb k 25) (only_blanks ∷ tokens_of 1 places) (tokens_of (k + 1) places)
tokens_of k (suc b ∷ places) = blanks_and_tree k ∷ tokens_of 0 places

-- the tree after the cells ends them
of_cells : (k : ℕ) (cells : List ℕ) → tokens_of k (cells ++ 1 ∷ []) ≡ tents_tokens k cells
unfolding tokens_of tents_tokens
of_cells k [] = refl
of_cells k (zero ∷ cells) = grind (arith, of_cells 1 cells, of_cells (k + 1) cells)
of_cells k (suc b ∷ cells) = grind (arith, of_cells 0 cells)

of_run : (k j : ℕ) (places : List ℕ) → k + j ≤ 25 → tokens_of k (replicate j 0 ++ places) ≡ tokens_of (k + j) places
unfolding tokens_of
of_run k zero places le = grind arith
of_run k (suc j) places le = grind (arith, nat_tests, common_steps, of_run (k + 1) j places)

-- tokens of the form are those of their cells
form_tokens : (tokens : List TentsToken) → AllByRecursion IsTentsToken tokens → AreTight tokens → tokens_of 0 (flat_map tents_token_cells tokens) ≡ tokens
unfolding tokens_of
form_tokens [] each tight = refl
form_tokens (blanks_and_tree k ∷ tokens) each tight =
    grind (arith, common_steps, append_assoc, of_run, form_tokens tokens)
form_tokens (only_blanks ∷ []) each tight = grind (arith, of_run)
form_tokens (only_blanks ∷ blanks_and_tree zero ∷ tokens) each tight = absurd tight
form_tokens (only_blanks ∷ blanks_and_tree (suc k) ∷ tokens) each tight =
    grind (arith, of_run, form_tokens (blanks_and_tree (suc k) ∷ tokens) each.1 tight)
form_tokens (only_blanks ∷ only_blanks ∷ tokens) each tight =
    grind (arith, of_run, form_tokens (only_blanks ∷ tokens) each.1 tight)

numbers_plain : (size : Extent) (line : ℕ) (numerals : List (List ℕ)) → IsExtent size
    → AreCounts size line (map value numerals) → AllByRecursion IsNumeral numerals
    → AllByRecursion IsPlain numerals → map decimal (map value numerals) ≡ numerals
numbers_plain size line [] e h d plain = refl
numbers_plain size line (num ∷ numerals) e h d plain = grind (arith, numbers_plain size (line + 1) numerals e h.1 d.1 plain.1, plain_decimal)

pub tents_form : (text : List ℕ) (p : Tents) → IsWrittenTents text p → text ≡ tents_text p
tents_form text p w = grind (arith, of_cells, form_tokens, numbers_plain, numbers_are)

pub tents_one_text : HasOneText IsTents IsWrittenTents tents_text
tents_one_text = record { some = tents_is_written; one = one_text _ _ tents_form }

pub ruleset laws = (common_steps, tents_is_written, tents_short)
