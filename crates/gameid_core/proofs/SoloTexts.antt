-- Solo: its texts, and the written one.
use Rattle.gameid_core.specs.Common.{AllByRecursion, BadByte, Bool, Cuts, Err, Gives, HasOneReading, HasOneText, IdFault, IsSolo, IsSoloSizeText, List, NumberRange, Ok, Result, Solo, [], after_digits, arith, begins, common_steps, concat, decimal, decimal-digits_value, digits_front, digits_value-decimal, false, false≢true, flat_map, get_or, in_range, is_ascii_digit, is_lead, is_letter, length, length-append, length-decimal-le, map, max_id, max_numbers, mul-le-mul_left, mul-le-mul_right, nat_tests, refl, replicate, solo_n, solo_puzzle, solo_size_text, subst, suc, true, value, words, zero, ℕ, ◌*◌, ◌++◌, ◌+◌, ◌-◌, ◌<◌, ◌^◌, ◌∷◌, ◌≡◌, ◌≤◌}
use Rattle.gameid_core.specs.SoloText.{AreApart, AreFull, AreNeeded, IsSoloToken, IsWrittenSolo, SoloToken, SpellsSolo, blanks, cells_text, gap, given, solo_behind, solo_cells_at, solo_of, solo_text, solo_token, solo_token_cells, solo_token_text, solo_tokens}
use Rattle.gameid_core.proofs.Reading.{IsWord, Token, alone, cells_again, cells_spelled, concat_words, cuts_number, cuts_single, cuts_some, decimal_leads, lead_is_digit, numeral, numeral_cuts, one_text, only_of, own, reading_of, value_positive, words_are, words_nil}
use Rattle.gameid_core.proofs.LineLaws.{AllByRecursion-flat_map, AllByRecursion-replicate}
use Rattle.gameid_core.specs.declared.id.game.Game.TheVariants as game
use Rattle.gameid_core.proofs.HeadLaws.{parts_of, puzzle_again, size_of_solo, solo_size}

-- Solo: the tokens of a text, and that a text is read exactly where it spells a puzzle.
module _ (n at : ℕ) where
  pub solo_letter : (first : ℕ) (after : List ℕ) → 97 ≤ first → first ≤ 122
      → Cuts (first ∷ after) (first ∷ []) after
      × (solo_token n at (first ∷ []) ≡ Ok (replicate (first - 96) 0))
  unfolding solo_token
  solo_letter first after low high = grind (arith, cuts_single)

  pub solo_gap : (after : List ℕ) → Cuts (95 ∷ after) (95 ∷ []) after × (solo_token n at (95 ∷ []) ≡ Ok [])
  unfolding solo_token
  solo_gap after = (cuts_single 95 after refl, refl)

  pub bad_byte : (first : ℕ) (rest after : List ℕ) → rest ≡ first ∷ after
      → (97 ≤ first → first ≤ 122 → ⊥) → (first ≡ 95 → ⊥) → (49 ≤ first → first ≤ 57 → ⊥)
      → (word tail : List ℕ) × Cuts rest word tail × (solo_token n at word ≡ Err (BadByte at))
  unfolding solo_token
  bad_byte first rest after e letter no_gap lead = grind (arith, cuts_some first after)

  -- a number in front is a token, which is taken if it is in range
  pub solo_given : (rest : List ℕ) → begins is_lead rest ≡ true → value (digits_front rest) ≤ n
      → Cuts rest (digits_front rest) (after_digits rest)
      × (solo_token n at (digits_front rest) ≡ Ok (value (digits_front rest) ∷ []))
  unfolding solo_token
  solo_given [] lead le = absurd (false≢true lead)
  solo_given (b ∷ after) lead le = grind (arith, cuts_number (b ∷ after) (lead_is_digit b lead))

  pub solo_over : (rest : List ℕ) → begins is_lead rest ≡ true → n < value (digits_front rest)
      → Cuts rest (digits_front rest) (after_digits rest)
      × (solo_token n at (digits_front rest) ≡ Err (NumberRange at))
  unfolding solo_token
  solo_over [] lead over = absurd (false≢true lead)
  solo_over (b ∷ after) lead over = grind (arith, cuts_number (b ∷ after) (lead_is_digit b lead))

-- ---- numbers among the tokens stand apart

abbrev digit_first : List ℕ → Bool
digit_first word = begins is_ascii_digit word

abbrev NotBefore : List ℕ → List (List ℕ) → Type 0
NotBefore word [] = Unit {0}
NotBefore word (v ∷ ws) = digit_first v ≡ true → digit_first word ≡ false

abbrev pub Apart : List (List ℕ) → Type 0
Apart [] = Unit {0}
Apart (w ∷ ws) = NotBefore w ws × Apart ws

apart_front : (b : ℕ) (w : List ℕ) (ws : List (List ℕ)) → (is_ascii_digit b ≡ true → digit_first w ≡ true) → NotBefore w ws → NotBefore (b ∷ w) ws
apart_front b w ws f h = grind arith

pub words_apart : (text : List ℕ) → Apart (words text)
unfolding words
words_apart [] = tt
words_apart (b ∷ []) = grind arith
words_apart (b ∷ d ∷ after) = grind (arith, cuts_some d after, words_apart (d ∷ after), apart_front b)

-- ---- a word that was taken is a token

concat_texts : (tokens : List SoloToken) → concat (map solo_token_text tokens) ≡ flat_map solo_token_text tokens
concat_texts [] = refl
concat_texts (t ∷ tokens) = grind (arith, common_steps, concat_texts tokens)

decimal_digit_first : (v : ℕ) → v < 2 ^ 64 → 0 < v → digit_first (decimal v) ≡ true
decimal_digit_first v small some = grind (arith, decimal_leads v small some, lead_is_digit)

record SoloDescribed (n : ℕ) (description cells : List ℕ) : Type 0 where
  tokens : List SoloToken
  parts : description ≡ flat_map solo_token_text tokens
  each : AllByRecursion (IsSoloToken n) tokens
  apart : AreApart tokens
  filled : flat_map solo_token_cells tokens ≡ cells
  count : length cells ≡ n * n

apart_rest : (token : SoloToken) (tokens : List SoloToken) → AreApart (token ∷ tokens) → AreApart tokens
apart_rest token tokens h = grind arith

module _ (n : ℕ) where
  abbrev SoloWord : List ℕ → List ℕ → Type 0
  SoloWord word more = Token solo_token_text solo_token_cells (IsSoloToken n) word more

  abbrev Each : List SoloToken → Type 0
  Each tokens = AllByRecursion (IsSoloToken n) tokens

  letter_word : (word : List ℕ) → IsWord word → begins is_letter word ≡ true → SoloWord word (replicate (get_or word 0 0 - 96) 0)
  letter_word [] w e = absurd w
  letter_word (b ∷ more) w e = record { token = blanks (b - 96); texts = grind (arith, alone b more w); each = grind arith; stands = refl }

  token_range : (token : SoloToken) → IsSoloToken n token → AllByRecursion (λ v. v ≤ n) (solo_token_cells token)
  token_range (blanks k) h = AllByRecursion-replicate (λ v. v ≤ n) 0 k (omega arith)
  token_range gap h = tt
  token_range (given v) h = (h.1, tt)

  no_digit_first : (v : ℕ) (tokens : List SoloToken) → Each tokens → AreApart (given v ∷ tokens)
      → begins is_ascii_digit (flat_map solo_token_text tokens) ≡ false
  no_digit_first v tokens each h = grind arith

  given_read : (at v : ℕ) → v < 2 ^ 64 → 0 < v → v ≤ n → solo_token n at (decimal v) ≡ Ok (v ∷ [])
  unfolding solo_token
  given_read at v small some le = grind (arith, digits_value-decimal, own, decimal_leads)

  module _ (small : n < 2 ^ 64) where
    given_word : (word : List ℕ) → IsWord word → begins is_lead word ≡ true → value word ≤ n → SoloWord word (value word ∷ [])
    given_word [] w e le = absurd w
    given_word (b ∷ more) w e le = record {
      token = given (value (b ∷ more));
      texts = grind (arith, lead_is_digit b, decimal-digits_value own (b ∷ more));
      each = grind (arith, value_positive b more);
      stands = refl;
    }

    token_word : (at : ℕ) (word more : List ℕ) → IsWord word → solo_token n at word ≡ Ok more → SoloWord word more
    unfolding solo_token
    token_word at word more w e = grind (arith, common_steps, letter_word word, given_word)

    apart_tokens : (tokens : List SoloToken) → Each tokens → Apart (map solo_token_text tokens) → AreApart tokens
    apart_tokens [] each h = grind (arith, common_steps, decimal_digit_first)
    apart_tokens (x ∷ xs) each h = grind (arith, common_steps, apart_tokens xs, decimal_digit_first)

    -- what is read is spelled
    solo_take : (at : ℕ) (description cells : List ℕ) → solo_cells_at n at description ≡ Ok cells → SoloDescribed n description cells
    solo_take at description cells e =
        grind (
          arith,
          cells_spelled solo_token_text solo_token_cells (IsSoloToken n) (solo_token n)
              IsWord token_word (n * n) at [] (words description) cells (words_are description) e,
          concat_words description,
          concat_texts,
          apart_tokens,
          words_apart description,
        )

    -- and what is spelled is read: the texts of tokens are the tokens of their text
    token_cuts : (token : SoloToken) (tokens : List SoloToken) → Each (token ∷ tokens)
        → AreApart (token ∷ tokens)
        → Cuts (solo_token_text token ++ flat_map solo_token_text tokens) (solo_token_text token)
        (flat_map solo_token_text tokens)
    token_cuts (blanks k) tokens each h = (solo_letter n 0 (96 + k) _ (omega (arith, each.0.0)) (omega (arith, each.0.1))).0
    token_cuts gap tokens each h = (solo_gap n 0 _).0
    token_cuts (given v) tokens each h = numeral_cuts (decimal v) _ (numeral v (omega (arith, each.0.1))) (no_digit_first v tokens each.1 h)

    words_again : (tokens : List SoloToken) → Each tokens → AreApart tokens → words (flat_map solo_token_text tokens) ≡ map solo_token_text tokens
    words_again [] each h = words_nil
    words_again (token ∷ tokens) each h =
        grind (arith, token_cuts, words_again tokens each.1 (apart_rest token tokens h))

    token_again : (at : ℕ) (token : SoloToken) → IsSoloToken n token → solo_token n at (solo_token_text token) ≡ Ok (solo_token_cells token)
    token_again at (blanks k) h = grind (arith, solo_letter n at (96 + k) [])
    token_again at gap h = (solo_gap n at []).1
    token_again at (given v) h = grind (arith, common_steps, given_read)

    solo_again : (at : ℕ) (tokens : List SoloToken) → Each tokens → AreApart tokens
        → length (flat_map solo_token_cells tokens) ≡ n * n
        → solo_cells_at n at (flat_map solo_token_text tokens) ≡ Ok
        (flat_map solo_token_cells tokens)
    solo_again at tokens each h full =
        grind (arith, words_again tokens each h, cells_again solo_token_text solo_token_cells (IsSoloToken n) (solo_token n) token_again (n * n) at [] tokens each)

-- ---- IDs

pub n_few : (c r : ℕ) → in_range game.Solo c r ≡ true → c * r ≤ max_numbers
n_few c r range = grind arith

pub solo_lawful : {c r : ℕ} {x : Bool} {cells : List ℕ} (at : ℕ) (description : List ℕ)
    → in_range game.Solo c r ≡ true → solo_cells_at (c * r) at description ≡ Ok cells
    → IsSolo (solo_puzzle c r x cells)
solo_lawful {c = c} {r = r} {cells = cells} at description range e =
    let small = n_few c r range in
    let d = solo_take (c * r) (omega arith) at description cells e in
    let fits : AllByRecursion (λ v. v ≤ c * r) cells =
    subst (AllByRecursion (λ v. v ≤ c * r)) d.filled
    (AllByRecursion-flat_map _ _ solo_token_cells (token_range (c * r)) d.tokens d.each) in
    grind (arith, d.count)

pub solo_takes : (text : List ℕ) (p : Solo) → solo_of text ≡ Ok p → SpellsSolo text p
solo_takes text p e =
    let r =
    parts_of game.Solo text (λ head description. solo_cells_at (head.size.w * head.size.h)
    head.description description)
    (λ head givens. solo_puzzle head.size.w head.size.h head.size.x givens) e in
    let small = n_few r.head.size.w r.head.size.h r.is_head.range in
    let d = solo_take (r.head.size.w * r.head.size.h) (omega arith) _ _ _ r.read in
    subst (SpellsSolo text) r.made (record {
      short = r.is_head.short;
      puzzle = solo_lawful _ _ r.is_head.range r.read;
      front = r.is_head.front;
      tokens = d.tokens;
      parts = grind (arith, r.is_head.parts, d.parts);
      size = solo_size _ _ _ _ r.is_head.size;
      each = d.each;
      apart = d.apart;
      cells = d.filled;
    })

pub solo_text_again : (text : List ℕ) (p : Solo) → SpellsSolo text p → solo_of text ≡ Ok p
solo_text_again text p s =
    grind (arith, puzzle_again game.Solo solo_behind s.front (flat_map solo_token_text s.tokens) p.c p.r p.x (size_of_solo s.front p.c p.r p.x s.size), solo_again (p.c * p.r))

pub solo_reading : HasOneReading SpellsSolo solo_of
solo_reading = reading_of _ _ solo_text_again solo_takes

pub solo_only : (text : List ℕ) (r : Result Solo IdFault) (p : Solo) → Gives (λ q. q) r (solo_of text) → SpellsSolo text p → Gives (λ q. q) r (Ok p)
solo_only text r p gives s = only_of _ _ solo_text_again text r gives p s

pub ruleset reads_exactly = (solo_takes, solo_only)

-- The written text of a puzzle of Solo: its length, that it spells the puzzle, and that no other does.

-- a cell takes at most three bytes: '_' and two digits
cells_short : (k : ℕ) (touches : Bool) (cells : List ℕ)
    → AllByRecursion (λ v. v ≤ max_numbers) cells
    → length (cells_text k touches cells) ≤ k + 3 * length cells
unfolding solo_tokens
cells_short k touches [] h = grind (arith, common_steps)
cells_short k touches (zero ∷ cells) h = grind (arith, nat_tests, common_steps, cells_short 1 false cells, cells_short (k + 1) touches cells)
cells_short k touches (suc v ∷ cells) h = grind (arith, common_steps, cells_short 0 true cells h.1, length-decimal-le 2 (suc v))

range_more : (n : ℕ) (cells : List ℕ) → n ≤ max_numbers → AllByRecursion (λ v. v ≤ n) cells → AllByRecursion (λ v. v ≤ max_numbers) cells
range_more n [] le h = tt
range_more n (v ∷ cells) le h = (omega (arith, h.0), range_more n cells le h.1)

pub solo_short : (p : Solo) → IsSolo p → length (solo_text p) ≤ max_id
solo_short p h =
    grind (
      arith,
      length-decimal-le 2 p.c,
      length-decimal-le 2 p.r,
      cells_short 0 false p.givens,
      range_more (solo_n p) p.givens,
      length-append (decimal p.c) (120 ∷ decimal p.r),
      length-append,
      common_steps,
      mul-le-mul_left,
      mul-le-mul_right,
    )

-- ---- what it spells

-- no number comes first
abbrev IsClear : List SoloToken → Type 0
IsClear (given v ∷ tokens) = ⊥
IsClear tokens = Unit {0}

-- tokens of the written form that stand for those cells, with a number before them or not
record Form (n : ℕ) (touches : Bool) (cells : List ℕ) (tokens : List SoloToken) : Type 0 where
  each : AllByRecursion (IsSoloToken n) tokens
  apart : AreApart tokens
  full : AreFull tokens
  needed : AreNeeded touches tokens
  clear : touches ≡ true → IsClear tokens
  filled : flat_map solo_token_cells tokens ≡ cells

full_z : (tokens : List SoloToken) → AreFull tokens → AreFull (blanks 26 ∷ tokens)
full_z tokens h = grind arith

tokens_form : (n k : ℕ) (touches : Bool) (cells : List ℕ) → k ≤ 26
    → AllByRecursion (λ v. v ≤ n) cells
    → Form n touches (replicate k 0 ++ cells) (solo_tokens k touches cells)
unfolding solo_tokens
tokens_form n k touches [] few h = grind (arith, common_steps)
tokens_form n k touches (zero ∷ cells) few h =
    grind (arith, nat_tests, common_steps, full_z, tokens_form n 1 false cells, tokens_form n (k + 1) touches cells)
tokens_form n k touches (suc v ∷ cells) few h = grind (arith, common_steps, tokens_form n 0 true cells)

written_size : (c r : ℕ) (x : Bool) → IsSoloSizeText (solo_size_text c r x) c r x
written_size c r x = grind arith

-- the written text has the form of a written text, and so it spells the puzzle
pub solo_is_written : (p : Solo) → IsSolo p → IsWrittenSolo (solo_text p) p
solo_is_written p h =
    let w = tokens_form (solo_n p) 0 false p.givens (omega arith) h.range in
    record {
      spells = record {
        short = solo_short p h;
        puzzle = h;
        front = solo_size_text p.c p.r p.x;
        tokens = solo_tokens 0 false p.givens;
        parts = refl;
        size = written_size p.c p.r p.x;
        each = w.each;
        apart = w.apart;
        cells = w.filled;
      };
      both = refl;
      full = w.full;
      needed = w.needed;
    }

of_run : (k j : ℕ) (touches : Bool) (cells : List ℕ) → k + j ≤ 26 → solo_tokens k touches (replicate j 0 ++ cells) ≡ solo_tokens (k + j) touches cells
unfolding solo_tokens
of_run k zero touches cells le = grind arith
of_run k (suc j) touches cells le = grind (arith, nat_tests, common_steps, of_run (k + 1) j touches cells)

-- tokens of the form are those of their cells
form_tokens : (n : ℕ) (touches : Bool) (tokens : List SoloToken)
    → Form n touches (flat_map solo_token_cells tokens) tokens
    → solo_tokens 0 touches (flat_map solo_token_cells tokens) ≡ tokens
unfolding solo_tokens
form_tokens n touches [] f = refl
form_tokens n touches (blanks k ∷ []) f = grind (arith, common_steps, of_run)
form_tokens n touches (blanks k ∷ blanks zero ∷ tokens) f = grind (arith, common_steps)
form_tokens n touches (blanks k ∷ blanks (suc j) ∷ tokens) f =
    grind (arith, common_steps, of_run, form_tokens n false (blanks (suc j) ∷ tokens))
form_tokens n touches (blanks k ∷ gap ∷ tokens) f = grind (arith, common_steps, false≢true)
form_tokens n touches (blanks k ∷ given v ∷ tokens) f = grind (arith, common_steps, of_run, form_tokens n true tokens)
form_tokens n touches (gap ∷ []) f = grind (arith, common_steps)
form_tokens n touches (gap ∷ blanks k ∷ tokens) f = grind (arith, common_steps)
form_tokens n touches (gap ∷ gap ∷ tokens) f = grind (arith, common_steps)
form_tokens n touches (gap ∷ given v ∷ tokens) f = grind (arith, common_steps, form_tokens n true tokens)
form_tokens n touches (given v ∷ tokens) f = grind (arith, common_steps, form_tokens n true tokens)

pub solo_form : (text : List ℕ) (p : Solo) → IsWrittenSolo text p → text ≡ solo_text p
solo_form text p w = grind (arith, form_tokens (solo_n p) false)

pub solo_one_text : HasOneText IsSolo IsWrittenSolo solo_text
solo_one_text = record { some = solo_is_written; one = one_text _ _ solo_form }

pub ruleset laws = (common_steps, solo_is_written, solo_short)
