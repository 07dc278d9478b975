-- Tents: the steps of a description, and that a text is read exactly where it spells a puzzle.
use Rattle.gameid_core.specs.Common.{AllByRecursion, AreCounts, Bool, Err, Extent, Gives, HasOneReading, IdFault, IsNumeral, IsTents, IsWide, List, Ok, Result, Tents, TooFew, [], ap, append-nil, append_assoc, arith, begins, common_steps, concat, cond, digits_front, drop, eqb, extent_of, false, false≢true, flat_map, get_or, in_range, inl, inr, is_ascii_digit, joins, length, length-append, length-replicate, line_cells, lines_of, map, nat_tests, reading, refl, replicate, take, take_at, true, value, words, ℕ, ◌*◌, ◌++◌, ◌+◌, ◌-◌, ◌<◌, ◌∙◌, ◌∷◌, ◌≡◌, ◌≤◌, ◌⊎◌}
use Rattle.gameid_core.specs.TentsText.{IsTentsToken, TentsSoFar, TentsToken, at_tents, blanks_and_tree, cells_in, run_cells, tents_at, tents_count, tents_end, tents_run, tents_step, tents_token_byte, tents_token_cells, tents_tree, SpellsTents, only_blanks, tents_behind, tents_of}
use Rattle.gameid_core.proofs.Reading.{IsWord, alone, bind_ok, concat_words, cuts_some, joined_cuts, only_of, reading_end, reading_of, reading_turn, words_are, words_first, words_nil, words_single}
use Rattle.gameid_core.proofs.LineLaws.{AllByRecursion-append, AllByRecursion-replicate}
use Rattle.gameid_core.proofs.HeadLaws.{parts_of, plain_size, puzzle_again}
use Rattle.gameid_core.proofs.LightTexts.{sized}
use Rattle.gameid_core.specs.declared.id.game.Game.TheVariants as game

-- some digit is in front
pub front_some : (after : List ℕ) → begins is_ascii_digit after ≡ true → length (44 ∷ digits_front after) ≡ 1 → ⊥
front_some after d e = grind (arith, common_steps, false≢true)

-- ---- the trees

-- a byte of the trees is a token
pub record RunToken (b : ℕ) (run : ℕ × Bool) : Type 0 where
  pub token : TentsToken
  pub byte : b ≡ tents_token_byte token
  pub each : IsTentsToken token
  pub cells : tents_token_cells token ≡ run_cells run.0 run.1

letter_run : (b : ℕ) → 97 ≤ b → b ≤ 121 → RunToken b (b - 96, true)
letter_run b low high = record { token = blanks_and_tree (b - 96); byte = grind (arith, nat_tests); each = grind arith; cells = refl }

tree_run : RunToken 95 (0, true)
tree_run = record { token = blanks_and_tree 0; byte = refl; each = omega arith; cells = refl }

pub run_token : (at b : ℕ) (run : ℕ × Bool) → tents_run at b ≡ Ok run → RunToken b run
unfolding tents_run
run_token at b run e = grind (arith, letter_run b, tree_run)

pub byte_single : (token : TentsToken) → joins (tents_token_byte token) ≡ false
byte_single token = grind arith

pub run_single : (at b : ℕ) (run : ℕ × Bool) → tents_run at b ≡ Ok run → joins b ≡ false
run_single at b run e = let t = run_token at b run e in ap joins t.byte ∙ byte_single t.token

pub run_length : (blanks : ℕ) (tree : Bool) → length (run_cells blanks tree) ≡ blanks + cond tree 1 0
run_length blanks tree = grind (arith, common_steps, length-append, length-replicate)

run_bits : (blanks : ℕ) (tree : Bool) → AllByRecursion (λ b. b < 2) (run_cells blanks tree)
run_bits blanks true =
    AllByRecursion-append (λ b. b < 2) (replicate blanks 0) (1 ∷ [])
    (AllByRecursion-replicate (λ b. b < 2) 0 blanks (omega arith)) (omega arith, tt)
run_bits blanks false = AllByRecursion-append (λ b. b < 2) (replicate blanks 0) [] (AllByRecursion-replicate (λ b. b < 2) 0 blanks (omega arith)) tt

-- ---- what is read is spelled

abbrev pub numbers_text : List (List ℕ) → List ℕ
numbers_text numerals = flat_map (λ numeral. 44 ∷ numeral) numerals

-- what follows the places and numbers that were read
record IsSpelled (places counts text : List ℕ) (all : TentsSoFar) (tokens : List TentsToken) (numerals : List (List ℕ)) : Type 0 where
  parts : text ≡ map tents_token_byte tokens ++ numbers_text numerals
  each : AllByRecursion IsTentsToken tokens
  digits : AllByRecursion IsNumeral numerals
  filled : places ++ flat_map tents_token_cells tokens ≡ all.cells
  counted : counts ++ map value numerals ≡ all.counts
  late : 0 < length counts → tokens ≡ []

record Spelled (places counts text : List ℕ) (all : TentsSoFar) : Type 0 where
  tokens : List TentsToken
  numerals : List (List ℕ)
  is : IsSpelled places counts text all tokens numerals

comma_word : {word : List ℕ} → IsWord word → begins (λ b. eqb b 44) word ≡ true → (length word ≡ 1 → ⊥) → (word ≡ 44 ∷ drop 1 word) × IsNumeral (drop 1 word)
comma_word w c some = grind arith

spelled_counted : {places counts : List ℕ} (word : List ℕ) {rest : List ℕ} {all : TentsSoFar}
    → (word ≡ 44 ∷ drop 1 word) × IsNumeral (drop 1 word)
    → Spelled places (counts ++ value (drop 1 word) ∷ []) rest all
    → Spelled places counts (word ++ rest) all
spelled_counted word w r = record { tokens = []; numerals = drop 1 word ∷ r.numerals; is = grind (arith, common_steps) }

spelled_planted : (at : ℕ) (places counts word rest : List ℕ) (run : ℕ × Bool) (all : TentsSoFar)
    → IsWord word → length counts ≤ 0 → tents_run at (get_or word 0 0) ≡ Ok run
    → Spelled (places ++ run_cells run.0 run.1) counts rest all
    → Spelled places counts (word ++ rest) all
spelled_planted at places counts [] rest run all w early e r = absurd w
spelled_planted at places counts (b ∷ more) rest run all w early e r =
    let t = run_token at b run e in
    record { tokens = t.token ∷ r.tokens; numerals = r.numerals; is = grind (arith, common_steps, alone b more w (run_single at b run e)) }

-- no number begins with a digit, as it begins with ','
numbers_begin : (numerals : List (List ℕ)) → begins is_ascii_digit (numbers_text numerals) ≡ false
numbers_begin [] = refl
numbers_begin (num ∷ numerals) = refl

not_one : (num : List ℕ) → 0 < length num → length (44 ∷ num) ≡ 1 → ⊥
not_one num some e = grind arith

-- the blanks of a token, and whether it has a tree
abbrev token_blanks : TentsToken → ℕ
token_blanks (blanks_and_tree k) = k
token_blanks only_blanks = 25

abbrev token_tree : TentsToken → Bool
token_tree (blanks_and_tree k) = true
token_tree only_blanks = false

cells_of_token : (token : TentsToken) → run_cells (token_blanks token) (token_tree token) ≡ tents_token_cells token
cells_of_token token = grind arith

token_run : (at : ℕ) (token : TentsToken) → IsTentsToken token → tents_run at (tents_token_byte token) ≡ Ok (token_blanks token, token_tree token)
unfolding tents_run
token_run at token h = grind arith

token_other : (token : TentsToken) → IsTentsToken token → eqb (tents_token_byte token) 44 ≡ false
token_other token h = grind arith

-- blanks don't reach the tree after the cells
unfoldable pub last_of : List ℕ → ℕ
last_of [] = 0
last_of (x ∷ []) = x
last_of (x ∷ y ∷ ys) = last_of (y ∷ ys)

pub last_push : (xs : List ℕ) (x : ℕ) → last_of (xs ++ x ∷ []) ≡ x
unfolding last_of
last_push [] x = grind arith
last_push (x1 ∷ xs) x = grind (arith, common_steps, last_push xs)

blank_last : (places trees : List ℕ) → places ++ replicate 25 0 ≡ trees ++ 1 ∷ [] → ⊥
blank_last places trees e = grind (arith, append_assoc, last_push (places ++ replicate 24 0) 0, last_push trees 1)

module _ (size : Extent) where
  abbrev pub read_words : ℕ → TentsSoFar → List (List ℕ) → Result TentsSoFar IdFault
  read_words at s ws = reading (tents_step size) (tents_end size) at s ws

  -- ---- a number behind ','

  pub count_read : (at : ℕ) (places counts word : List ℕ) → cells_in size + 1 ≤ length places
      → (length counts ≡ lines_of size → ⊥) → (length word ≡ 1 → ⊥)
      → value (drop 1 word) ≤ line_cells size (length counts)
      → tents_count size at (at_tents places counts) word ≡ Ok (value (drop 1 word))
  unfolding tents_count
  count_read at places counts word full lines one fits = grind arith

  -- ---- turns

  abbrev pub reads : ℕ → List ℕ → List ℕ → List ℕ → Result TentsSoFar IdFault
  reads at places counts rest = read_words at (at_tents places counts) (words rest)

  pub end_is : (places counts : List ℕ) (full : Bool) → eqb (length counts) (lines_of size) ≡ full
      → tents_end size (at_tents places counts) ≡ cond full (Ok (at_tents places counts))
      (Err TooFew)
  end_is places counts full e = rw e refl

  -- ---- a step that was taken: a number behind ',', or cells of the trees

  pub record Counted (places counts word : List ℕ) (t : TentsSoFar) : Type 0 where
    pub comma : begins (λ b. eqb b 44) word ≡ true
    pub full : cells_in size + 1 ≤ length places
    pub some : length word ≡ 1 → ⊥
    pub fits : value (drop 1 word) ≤ line_cells size (length counts)
    pub leads : at_tents places (counts ++ value (drop 1 word) ∷ []) ≡ t

  pub record Planted (at : ℕ) (places counts word : List ℕ) (t : TentsSoFar) : Type 0 where
    pub other : begins (λ b. eqb b 44) word ≡ false
    pub early : length counts ≤ 0
    pub run : ℕ × Bool
    pub read : tents_run at (get_or word 0 0) ≡ Ok run
    pub room : length places + length (run_cells run.0 run.1) ≤ cells_in size + cond run.1 1 0
    pub leads : at_tents (places ++ run_cells run.0 run.1) counts ≡ t

  pub step_cases : (at : ℕ) (places counts word : List ℕ) (t : TentsSoFar)
      → tents_step size at (at_tents places counts) word ≡ Ok t
      → Counted places counts word t ⊎ Planted at places counts word t
  unfolding tents_count tents_tree
  step_cases at places counts word t e = grind arith

  -- ---- what is read fits

  AreCounts-push : (line : ℕ) (counts : List ℕ) (n : ℕ) → AreCounts size line counts
      → n ≤ line_cells size (line + length counts) → AreCounts size line (counts ++ n ∷ [])
  AreCounts-push line [] n h p = grind arith
  AreCounts-push line (m ∷ counts) n h p = grind (arith, nat_tests, AreCounts-push (line + 1) counts n h.1)

  -- the places read so far, whose last is a tree where they are all that there are; and the numbers so far
  record Sound (places counts : List ℕ) : Type 0 where
    bits : AllByRecursion (λ b. b < 2) places
    full : 0 < length counts → length places ≡ cells_in size + 1
    few : length places ≤ cells_in size + 1
    tree : length places ≡ cells_in size + 1 → (front : List ℕ) × (places ≡ front ++ 1 ∷ [])
    fit : AreCounts size 0 counts

  sound_counted : {places counts : List ℕ} (n : ℕ) → Sound places counts
      → cells_in size + 1 ≤ length places → n ≤ line_cells size (length counts)
      → Sound places (counts ++ n ∷ [])
  sound_counted {counts} n s full fits = grind (arith, AreCounts-push)

  sound_planted : {places counts : List ℕ} (blanks : ℕ) (tree : Bool) → Sound places counts
      → length counts ≤ 0 → length places + length (run_cells blanks tree) ≤ cells_in size + cond
      tree 1 0 → Sound (places ++ run_cells blanks tree) counts
  sound_planted {places} blanks true s early room = grind (arith, common_steps, run_bits blanks true, append_assoc places (replicate blanks 0) (1 ∷ []))
  sound_planted blanks false s early room = grind (arith, common_steps, run_bits blanks false)

  sound_none : Sound [] []
  sound_none = record { bits = tt; full = λ lt. absurd (omega arith); few = omega arith; tree = λ e. absurd (omega arith); fit = tt }

  read_all : (at : ℕ) {places counts : List ℕ} (ws : List (List ℕ)) {all : TentsSoFar} → AllByRecursion IsWord ws
      → Sound places counts → read_words at (at_tents places counts) ws ≡ Ok all
      → Sound all.cells all.counts × (length all.counts ≡ lines_of size) × Spelled places counts (concat ws) all
  unfolding reading
  read_all at {places} {counts} [] {all} w s e =
      let sound : Sound all.cells all.counts × (length all.counts ≡ lines_of size) = grind arith in
      (sound.0, sound.1, record { tokens = []; numerals = []; is = grind (arith, append-nil places, append-nil counts) })
  read_all at {places} {counts} (word ∷ ws) {all} w s e =
      let b = bind_ok (tents_step size at (at_tents places counts) word) (λ t. read_words (at + length word) t ws) all e in
      elim (step_cases at places counts word b.0 b.1) [
        | inl c ↦
            let r = read_all (at + length word) ws w.1 (sound_counted _ s c.full c.fits) (ap (λ t. read_words (at + length word) t ws) c.leads ∙ b.2) in
            (r.0, r.1, spelled_counted word (comma_word w.0 c.comma c.some) r.2)
        | inr p ↦
            let r = read_all (at + length word) ws w.1 (sound_planted p.run.0 p.run.1 s p.early p.room) (ap (λ t. read_words (at + length word) t ws) p.leads ∙ b.2) in
            (r.0, r.1, spelled_planted at places counts word (concat ws) p.run all w.0 p.early p.read r.2)
      ]

  -- the cells without the tree after them
  pub record CellsAndTree (places : List ℕ) : Type 0 where
    pub whole : places ≡ take (cells_in size) places ++ 1 ∷ []
    pub count : length (take (cells_in size) places) ≡ cells_in size
    pub bits : AllByRecursion (λ b. b < 2) (take (cells_in size) places)

  pub record TentsRead (s : TentsSoFar) : Type 0 where
    pub cells : CellsAndTree s.cells
    pub lines : length s.counts ≡ lines_of size
    pub range : AreCounts size 0 s.counts

  pub tents_read : (at : ℕ) (description : List ℕ) (s : TentsSoFar) → IsWide size → tents_at size at description ≡ Ok s → TentsRead s
  tents_read at description s wide e = grind (arith, common_steps, read_all at (words description) {all = s} (words_are description) sound_none e)

  pub tents_lawful : (at : ℕ) (description : List ℕ) (s : TentsSoFar) → IsWide size
      → tents_at size at description ≡ Ok s
      → IsTents (record { size = size; trees = take (cells_in size) s.cells; counts = s.counts })
  tents_lawful at description s wide e = grind (arith, tents_read at description s wide e)

  -- a byte of the trees is a token, and its places are taken or refused
  pub tree_taken : (at b : ℕ) (places after : List ℕ) (t : TentsSoFar) → (b ≡ 44 → ⊥)
      → tents_tree size at (at_tents places []) b ≡ Ok t
      → reads at places [] (b ∷ after) ≡ read_words (at + 1) t (words after)
  unfolding reading tents_tree
  tree_taken at b places after t other e = grind (arith, nat_tests, common_steps, bind_ok, words_single, run_single)

  pub tree_refused : (at b : ℕ) (places after : List ℕ) (f : IdFault) → (b ≡ 44 → ⊥)
      → tents_tree size at (at_tents places []) b ≡ Err f → reads at places [] (b ∷ after) ≡ Err f
  unfolding reading tents_tree
  tree_refused at b places after f other e = grind (arith, common_steps, nat_tests, cuts_some b after)

  -- ---- what is spelled is read

  abbrev Reads : TentsSoFar → List ℕ → List ℕ → List ℕ → Type 0
  Reads all places counts text = (at : ℕ) → read_words at (at_tents places counts) (words text) ≡ Ok all

  counts_at : (line : ℕ) (xs : List ℕ) (n : ℕ) (ys : List ℕ) → AreCounts size line (xs ++ n ∷ ys) → n ≤ line_cells size (line + length xs)
  counts_at line [] n ys h = grind arith
  counts_at line (x ∷ xs) n ys h = grind (arith, counts_at (line + 1) xs n ys h.1)

  numbers_again : (places counts total : List ℕ) (numerals : List (List ℕ))
      → AllByRecursion IsNumeral numerals → cells_in size + 1 ≤ length places
      → counts ++ map value numerals ≡ total → length total ≡ lines_of size → AreCounts size 0 total
      → Reads (at_tents places total) places counts (numbers_text numerals)
  numbers_again places counts total [] d full is len are at = grind (arith, common_steps, reading_end, end_is)
  numbers_again places counts total (num ∷ numerals) d full is len are at =
      grind (
        arith,
        common_steps,
        counts_at 0 counts (value num) (map value numerals),
        joined_cuts 44 refl num (numbers_text numerals) d.0 (numbers_begin numerals),
        count_read at places counts (44 ∷ num) full,
        not_one num,
        reading_turn (tents_step size) (tents_end size) at (at_tents places counts) (at_tents places (counts ++ value num ∷ []))
            (44 ∷ (num ++ numbers_text numerals)) (44 ∷ num) (numbers_text numerals),
        numbers_again places (counts ++ value num ∷ []) total numerals d.1 full,
      )

  tree_room : (places trees : List ℕ) (token : TentsToken) (rest : List ℕ)
      → length trees ≡ cells_in size → places ++ (tents_token_cells token ++ rest) ≡ trees ++ 1 ∷ []
      → length places + (token_blanks token + cond (token_tree token) 1 0) ≤ cells_in size + cond
      (token_tree token) 1 0
  tree_room places trees token rest count is = grind (arith, common_steps, blank_last)

  trees_again : (all : TentsSoFar) (places trees : List ℕ) (tokens : List TentsToken)
      (rest : List ℕ) → AllByRecursion IsTentsToken tokens → length trees ≡ cells_in size
      → places ++ flat_map tents_token_cells tokens ≡ trees ++ 1 ∷ []
      → Reads all (trees ++ 1 ∷ []) [] rest
      → Reads all places [] (map tents_token_byte tokens ++ rest)
  unfolding reading tents_tree
  trees_again all places trees [] rest each count is next at = grind (arith, common_steps)
  trees_again all places trees (token ∷ tokens) rest each count is next at =
      grind (
        arith,
        common_steps,
        tree_room places trees token (flat_map tents_token_cells tokens),
        token_run at token each.0,
        cells_of_token token,
        token_other token,
        run_length,
        byte_single token,
        words_single,
        trees_again all (places ++ tents_token_cells token) trees tokens rest each.1 count,
      )

  -- what tokens and numerals that fit spell is read
  pub tents_again : (at : ℕ) (trees counts : List ℕ) (tokens : List TentsToken)
      (numerals : List (List ℕ)) → AllByRecursion IsTentsToken tokens
      → AllByRecursion IsNumeral numerals → length trees ≡ cells_in size
      → flat_map tents_token_cells tokens ≡ trees ++ 1 ∷ [] → map value numerals ≡ counts
      → length counts ≡ lines_of size → AreCounts size 0 counts
      → tents_at size at (map tents_token_byte tokens ++ numbers_text numerals) ≡ Ok
      (at_tents (trees ++ 1 ∷ []) counts)
  tents_again at trees counts tokens numerals each digits count cells is len are =
      grind (arith, common_steps, trees_again (at_tents (trees ++ 1 ∷ []) counts) [] trees tokens (numbers_text numerals) each count cells, numbers_again (trees ++ 1 ∷ []) [] counts numerals digits)

  pub fit : (w h n at : ℕ) (description places counts trees : List ℕ) → size ≡ sized w h
      → n ≡ size.w * size.h → trees ≡ take n places → in_range game.Tents w h ≡ true
      → tents_at size at description ≡ Ok (at_tents places counts)
      → IsTents (record { size = size; trees = trees; counts = counts })
  fit w h n at description places counts trees is count kept range e = grind (arith, tents_lawful at description (at_tents places counts))

pub ruleset turns = (common_steps, words_nil, words_first, tree_refused)

pub tents_takes : (text : List ℕ) (p : Tents) → tents_of text ≡ Ok p → SpellsTents text p
tents_takes text p e =
    let r =
    parts_of game.Tents text
    (λ head description. tents_at (extent_of head.size) head.description description)
    (λ head s. record {
      size = extent_of head.size;
      trees = take (head.size.w * head.size.h) s.cells;
      counts = s.counts;
    }) e in
    let wide : IsWide (extent_of r.head.size) = grind (arith, r.is_head.range) in
    grind (
      arith,
      (read_all _ _ (words (drop r.head.description text)) (words_are (drop r.head.description text)) (sound_none _) r.read).2,
      concat_words (drop r.head.description text),
      tents_read _ _ _ _ wide r.read,
      tents_lawful _ _ _ _ wide r.read,
      plain_size,
    )

pub tents_text_again : (text : List ℕ) (p : Tents) → SpellsTents text p → tents_of text ≡ Ok p
tents_text_again text p s =
    grind (
      arith,
      puzzle_again game.Tents tents_behind s.front (map tents_token_byte s.tokens ++ numbers_text s.numerals) p.size.w p.size.h false s.size,
      tents_again p.size (length s.front + 1) p.trees p.counts s.tokens s.numerals s.each s.digits,
      take_at p.trees (1 ∷ []) (p.size.w * p.size.h),
    )

pub tents_reading : HasOneReading SpellsTents tents_of
tents_reading = reading_of _ _ tents_text_again tents_takes

pub tents_only : (text : List ℕ) (r : Result Tents IdFault) (p : Tents) → Gives (λ q. q) r (tents_of text) → SpellsTents text p → Gives (λ q. q) r (Ok p)
tents_only text r p gives s = only_of _ _ tents_text_again text r gives p s

pub ruleset reads_exactly = (tents_takes, tents_only)
