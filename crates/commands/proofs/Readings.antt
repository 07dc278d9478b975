-- What is read of an ID, and of a printed grid.
use Rattle.commands.proofs.Common.{AllByRecursion, AllowsEach, AllowsId, AllowsSolve, Answer, Black, Bool, Err, Extent, Game, GameFacts, HasOneAnswer, HasOneReading, IdFault, IfOk, IsAsShown, IsGraded, IsLight, IsLightCell, IsPrinted, IsRewritten, IsRightGrade, IsSolo, Light, LightCell, List, Memory, NamedRules, None, Numbered, Ok, Option, Pattern, PuzzleFacts, Reply, Result, SizeRead, Solo, Some, Tents, Text, TooLong, White, [], answer_in, ap, ap₂, arith, begins_with_form, both, cases_lt, codes, common_steps, decimal, drop, drop-drop, drop_all, each_below, eqb-true, false, fault_text, game_of, grade_status, grade_text, grid_text, hides_nothing, if◌then◌else◌, inl, inr, length, length-append, light_cell, light_hides, listed_grade, max_id, mul-le-mul_left, mul-le-mul_right, ne_eqb, number_fits, pattern_cell, reading_of, refl, refused, row_text, silence, slice_get, slice_index, solo_cell, solo_extent, solo_n, subst, suc, suc-mul, sym, take, take-append-drop, tent_hides, tents_cell, text_limit, true, without_returns, zero, ℕ, ◌%◌, ◌*◌, ◌++◌, ◌+◌, ◌-◌, ◌<◌, ◌==◌, ◌↔◌, ◌∙◌, ◌∷◌, ◌≡◌, ◌≢◌, ◌≤◌}
use Rattle.gameid_core.specs.Steps.{Fails}
use Rattle.std.proofs.Math.Seq.{drop-append_seam, drop-cons}
use Rattle.std.proofs.lemmas.Fmt.{decimal_digit, decimal_step}
use Rattle.std.specs.Char.{is_ascii_digit}
use Rattle.gameid_core.specs.GridTexts.{Follows}
use Rattle.gameid_core.specs.Words.{begins, digits_front, value}
use Rattle.gameid_core.specs.LightText.{light_symbol}
use Rattle.gameid_core.proofs.PrintedGrids.{Left, LeftOf, after_cell, all_left, all_rows_left, cell_follows, in_grid, next_row, none_left, row_first}
use Rattle.gameid_core.proofs.Reading.{front_decimal}

-- What is answered to an ID, where a text spells one puzzle or has one fault, and never both.

first_fault : {P : Type 0} {fault : IdFault} {reading : Result P IdFault} → fault ≢ Memory → Fails fault reading → reading ≡ Err fault
first_fault {fault = Memory} {reading} other fails = absurd (other refl)
first_fault {fault} {reading} other fails = fails

-- by what the reader ensures
pub refused_id : {P : Type 0} {spells : P → Type 0} {allows : P → Answer → Type 0} (reading : Result P IdFault) {fault : IdFault} {answer : Answer}
    → fault ≢ Memory → Fails fault reading → answer ≡ refused (fault_text fault) → AllowsId reading spells allows answer
refused_id reading {fault} other fails told = inl (record { fault = fault; first = first_fault other fails; said = told })

-- an over-long text is refused as too long
pub too_long_id : {E : Type 0} (game : Game) (budget : ℕ) (result : Result Reply E)
    → ((text : Text) → max_id < length text → (game_of game).game.reading text ≡ Err TooLong)
    → IfOk result (λ r. answer_in r ≡ refused (fault_text TooLong))
    → IfOk result (λ r. (id : Text) → max_id < length id → AllowsSolve (game_of game) id budget (answer_in r))
too_long_id game budget (Ok r) long told = λ id more. inl (record { fault = TooLong; first = long id more; said = told })
too_long_id game budget (Err e) long told = tt

abbrev pub AreSameAnswers : (Answer → Type 0) → Type 0
AreSameAnswers allows = (a b : Answer) → allows a → allows b → a ≡ b

pub one_of_same : {allows : Answer → Type 0} → (a : Answer) × allows a → AreSameAnswers allows → HasOneAnswer allows
one_of_same some same = record { answer = some.0; allowed = some.1; only = λ other is. same some.0 other some.1 is }

pub told_once : (answer : Answer) → HasOneAnswer (λ a. a ≡ answer)
told_once answer = record { answer = answer; allowed = refl; only = λ other is. sym is }

module _ {P : Type 0} {of : Text → Result P IdFault} {spells : Text → P → Type 0} (reading : HasOneReading spells of) where
  -- an ID that spells a puzzle has the answers to that puzzle, and a refused one has its refusal
  pub answer_to : (allows : P → Answer → Type 0) (id : Text) (p : P) {a : Answer} → spells id p → AllowsId (of id) (spells id) allows a → allows p a
  answer_to allows id p s (inl x) = absurd (reading.apart id p x.fault s x.first)
  answer_to allows id p {a} s (inr x) = subst (λ q. allows q a) (reading.one id x.puzzle p x.spelled s) x.allowed

  refusal_to : (allows : P → Answer → Type 0) (id : Text) (f : IdFault) {a : Answer} → of id ≡ Err f
      → AllowsId (of id) (spells id) allows a → a ≡ refused (fault_text f)
  refusal_to allows id f is (inl x) = let same = sym x.first ∙ is in
      x.said ∙ ap (λ h. refused (fault_text h)) (let fault : x.fault ≡ f = cc in fault)
  refusal_to allows id f is (inr x) = absurd (reading.apart id x.puzzle f x.spelled is)

  -- an ID has an answer where each puzzle has one
  pub id_some : (id : Text) (allows : P → Answer → Type 0)
      → ((p : P) → spells id p → (a : Answer) × allows p a)
      → (a : Answer) × AllowsId (of id) (spells id) allows a
  id_some id allows each = elim (reading.either id) [
    | inl s ↦ let some = each s.0 s.1 in (some.0, inr (record { puzzle = s.0; spelled = s.1; allowed = some.1 }))
    | inr f ↦ (refused (fault_text f.0), inl (record { fault = f.0; first = f.1; said = refl }))
  ]

  -- what holds of a refusal, and of the answers to each puzzle, holds of two answers to an ID
  pub both_answers : {first second : P → Answer → Type 0} (holds : Answer → Answer → Type 0) (id : Text) (a b : Answer)
      → ((cause : Text) → holds (refused cause) (refused cause))
      → ((p : P) → spells id p → first p a → second p b → holds a b)
      → AllowsId (of id) (spells id) first a → AllowsId (of id) (spells id) second b → holds a b
  both_answers {first} {second} holds id a b refusals answers x y = grind (arith, common_steps, answer_to, refusal_to)

  pub id_once : (id : Text) {allows : P → Answer → Type 0}
      → ((p : P) → spells id p → HasOneAnswer (allows p))
      → HasOneAnswer (AllowsId (of id) (spells id) allows)
  id_once id {allows} each =
      let some = id_some id allows (λ p s. ((each p s).answer, (each p s).allowed)) in
      one_of_same some (λ a b. both_answers (λ x y. x ≡ y) id a b (λ cause. refl) (λ p s x y. sym ((each p s).only a x) ∙ (each p s).only b y))

-- a text is one size, or has one fault
pub size_reading : (sizes : Text → Result SizeRead IdFault) → HasOneReading (λ text size. sizes text ≡ Ok size) sizes
size_reading sizes = reading_of (λ text size. sizes text ≡ Ok size) sizes (λ text size is. is) (λ text size is. is)

-- a grade without a trace
pub grade_once : {P : Type 0} {play : PuzzleFacts P} {sets : List NamedRules} {budget : ℕ} (p : P)
    → IsRightGrade (play.game.solves p) (listed_grade sets (play.game.rules p) budget) → HasOneAnswer (IsGraded play sets budget false p)
grade_once {play} {sets} {budget} p right =
    let given = listed_grade sets (play.game.rules p) budget in
    record {
      answer = record { text = grade_text given ++ codes "\n" ++ []; status = grade_status given };
      allowed = record { right = right; said = record { lines = []; trace = refl; text = refl; status = refl } };
      only = λ other is. ap₂ (λ (t : Text) (s : ℕ). record { text = t; status = s })
          (ap (λ lines. grade_text given ++ codes "\n" ++ lines) (sym is.said.trace) ∙ sym is.said.text) (sym is.said.status);
    }

-- the answers to lines, in turn
pub each_once : (allows : Text → Answer → Type 0) → ((text : Text) → HasOneAnswer (allows text)) → (texts : List Text) → HasOneAnswer (AllowsEach allows texts)
each_once allows one [] = record { answer = silence; allowed = refl; only = λ other is. sym is }
each_once allows one (text ∷ texts) =
    let here = one text in
    let rest = each_once allows one texts in
    record {
      answer = both here.answer rest.answer;
      allowed = (here.answer, rest.answer, here.allowed, rest.allowed, refl);
      only = λ other is. ap₂ both (here.only is.0 is.2) (rest.only is.1 is.3) ∙ sym is.4;
    }

-- a game whose texts spell one puzzle or have one fault, and where what is written for a puzzle spells it
module _ {P : Type 0} (game : GameFacts P) (reading : HasOneReading game.spells game.reading)
    (again : (text : Text) (p : P) → game.spells text p → game.spells (game.written p) p) where
  carried : (id other : Text) (p : P) → game.spells id p → game.spells other p → (allows : P → Answer → Type 0) (a : Answer)
      → AllowsId (game.reading id) (game.spells id) allows a → AllowsId (game.reading other) (game.spells other) allows a
  carried id other p s t allows a said = inr (record { puzzle = p; spelled = t; allowed = answer_to reading allows id p s said })

  spells_written : {id other : Text} (r : IsRewritten game id other) → game.spells other r.puzzle
  spells_written {id} r = subst (λ t. game.spells t r.puzzle) (sym r.is_written) (again id r.puzzle r.spelled)

  pub answered_alike : (id other : Text) → IsRewritten game id other → (allows : P → Answer → Type 0) (a : Answer)
      → AllowsId (game.reading id) (game.spells id) allows a ↔ AllowsId (game.reading other) (game.spells other) allows a
  answered_alike id other r allows a =
      let t = spells_written r in
      (carried id other r.puzzle r.spelled t allows a, carried other id r.puzzle t r.spelled allows a)

  pub spelled_alike : (id other : Text) → IsRewritten game id other → (q : P) → game.spells id q ↔ game.spells other q
  spelled_alike id other r q =
      let t = spells_written r in
      (λ s. subst (game.spells other) (reading.one id r.puzzle q r.spelled s) t, λ s. subst (game.spells id) (reading.one other r.puzzle q t s) r.spelled)

-- The grid that a text can be the printed form of is read of the text, so it is the only one; and what is printed has no
-- carriage return, and is never too long to be read back.

-- the number at a place and how many bytes are printed of it are read of each text that begins with that, where what may stand after
-- it follows
abbrev pub ReadsCells : (ℕ → Type 0) → ℕ → Extent → (List ℕ → ℕ → Text) → (ℕ → Text → ℕ × ℕ) → Type 0
ReadsCells hides values size cell reads = (g : List ℕ) (place : ℕ) (after : Text) → IsAsShown hides values size g → place < size.w * size.h
    → Follows (cell g) size place after → reads place (cell g place ++ after) ≡ (slice_index g place, length (cell g place))

module _ (reads : ℕ → Text → ℕ × ℕ) where
  -- what is read of so many cells from a place on, and the text after them
  cells_read : ℕ → ℕ → Text → List ℕ × Text
  cells_read place zero rest = ([], rest)
  cells_read place (suc m) rest =
      let cell = reads place rest in
      let later = cells_read (suc place) m (drop cell.1 rest) in (cell.0 ∷ later.0, later.1)

  -- and of so many rows of a width, from a place on
  rows_read : ℕ → ℕ → ℕ → Text → List ℕ
  rows_read width zero place rest = []
  rows_read width (suc m) place rest = let row = cells_read place width rest in row.0 ++ rows_read width m (place + width) (drop 1 row.1)

  cell_first : {place v : ℕ} (m : ℕ) {rest : Text} (front after : Text) {later : List ℕ × Text} → rest ≡ front ++ after
      → reads place (front ++ after) ≡ (v, length front) → cells_read (suc place) m after ≡ later
      → cells_read place (suc m) rest ≡ (v ∷ later.0, later.1)
  unfolding cells_read
  cell_first m front after split is e = rw (split, is, drop-append_seam front after, e) refl

  -- the only grid of the size whose printed form the text may be
  pub grid_read : Extent → Text → List ℕ
  grid_read size text = rows_read size.w size.h 0 (text ++ codes "\n")

module _ {hides : ℕ → Type 0} {values : ℕ} {size : Extent} (cell : List ℕ → ℕ → Text) (reads : ℕ → Text → ℕ × ℕ)
    (known : ReadsCells hides values size cell reads) {g : List ℕ} (shown : IsAsShown hides values size g) where
  row_read : (y m x : ℕ) (more : Text) {rest : Text} → y < size.h → x + m ≡ size.w → Left (λ k. cell g (y * size.w + k)) size.w more x rest
      → cells_read reads (y * size.w + x) m rest ≡ (take m (drop (y * size.w + x) g), 10 ∷ more)
  unfolding cells_read
  row_read y zero x more {rest} below e left =
      ap (λ t. ([], t)) (none_left (λ k. cell g _) size.w more rest x (omega arith) left)
  row_read y (suc m) x more {rest} below e left =
      let lt : x < size.w = omega arith in
      let next = after_cell (λ k. cell g _) size.w more rest x lt left in
      let within = in_grid size y size.w x (size.w * size.h) refl lt below refl in
      let one_on : suc (y * size.w + x) ≡ y * size.w + (x + 1) = omega arith in
      cell_first reads m (cell g (y * size.w + x)) next.after {later = (take m (drop (y * size.w + (x + 1)) g), 10 ∷ more)} next.split
      (known g (y * size.w + x) next.after shown within (cell_follows (cell g) size y size.w x more rest refl next))
      (rw one_on (row_read y m (x + 1) more below (omega arith) next.left))
      ∙ ap (λ l. (l, 10 ∷ more)) (rw (drop-cons g (y * size.w + x) 0 (omega arith), one_on) refl)

  rows_are : (m y place : ℕ) (more : Text) {rest : Text} → y + m ≡ size.h → place ≡ y * size.w
      → LeftOf (row_text (cell g) size) size.h more y rest → rows_read reads size.w m place rest ≡ drop place g
  unfolding rows_read
  rows_are zero y place more e at left =
      let end : y ≡ size.h = omega arith in
      sym (drop_all place g (rw (shown.grid.each_cell, at, end) (omega arith)))
  rows_are (suc m) y place more {rest} e at left =
      let below : y < size.h = omega arith in
      let next = row_first (row_text (cell g) size) size.h more rest y below left in
      let row = row_read y size.w 0 next.after below (omega arith) (all_left (λ k. cell g _) size.w next.after rest next.split) in
      let here : y * size.w + 0 ≡ place = omega arith in
      let step : place + size.w ≡ (y + 1) * size.w = rw next_row (ap (λ n. n + size.w) at) in
      rw (rw here at row, rows_are m (y + 1) (place + size.w) more (omega arith) step next.left, ← drop-drop size.w place g)
      (take-append-drop size.w _)

  -- a text that is the printed form of the grid
  pub printed_read : (text : Text) → IsPrinted text (grid_text (cell g) size) → grid_read reads size text ≡ g
  unfolding grid_read
  printed_read text form =
      let begun = begins_with_form text (text ++ codes "\n") (grid_text (cell g) size) refl form in
      rows_are size.h 0 0 begun.0 (omega arith) (omega arith) (all_rows_left (row_text (cell g) size) size.h begun.0 (text ++ codes "\n") begun.1)

-- ---- what is read of a cell in each game
-- 1 or 0, as the text begins with the symbol or not, and one byte
pub symbol_in : ℕ → Text → ℕ × ℕ
symbol_in symbol text = ((if slice_index text 0 == symbol then 1 else 0), 1)

is_symbol : (symbol other v : ℕ) (after : Text) → v < 2 → (symbol == symbol) ≡ true → (other == symbol) ≡ false
    → symbol_in symbol ((if v == 1 then symbol ∷ [] else (other ∷ [])) ++ after) ≡ (v, length (if v == 1 then symbol ∷ [] else (other ∷ [])))
unfolding symbol_in
is_symbol symbol other zero after small same different = rw different refl
is_symbol symbol other (suc zero) after small same different = rw same refl
is_symbol symbol other (suc (suc v)) after small same different = absurd (omega arith)

pub pattern_reads : (p : Pattern) → ReadsCells hides_nothing 2 p.size (pattern_cell p) (λ place. symbol_in 35)
pattern_reads p g place after shown lt follows = is_symbol 35 46 _ after (number_fits hides_nothing 2 p.size g place shown lt) refl refl

pub tents_in : Tents → ℕ → Text → ℕ × ℕ
tents_in p place text = if slice_index p.trees place == 1 then (0, 1) else symbol_in 94 text

pub tents_reads : (p : Tents) → ReadsCells (tent_hides p) 2 p.size (tents_cell p) (tents_in p)
unfolding tents_in
tents_reads p g place after shown lt follows = by _ refl
  where
    by : (b : Bool) → (slice_index p.trees place == 1) ≡ b
        → (if b then (0, 1) else symbol_in 94 ((if b then codes "T" else (if slice_index g place == 1 then codes "^" else codes ".")) ++ after))
        ≡ (slice_index g place, length (if b then codes "T" else (if slice_index g place == 1 then codes "^" else codes ".")))
    by true is = ap (λ v. (v, 1)) (sym (shown.hidden place (eqb-true _ 1 is)))
    by false is = is_symbol 94 46 _ after (number_fits _ 2 p.size g place shown lt) refl refl

cell_at : (cells : List LightCell) (place : ℕ) {cell : LightCell} → AllByRecursion IsLightCell cells → slice_get cells place ≡ Some cell → IsLightCell cell
cell_at [] place all e = absurd cc
cell_at (x ∷ cells) zero {cell} all e = let is : x ≡ cell = cc in subst IsLightCell is all.0
cell_at (x ∷ cells) (suc place) all e = cell_at cells place all.1 e

pub light_in : Option LightCell → Text → ℕ × ℕ
light_in None text = (0, 0)
light_in (Some White) text = symbol_in 79 text
light_in o text = (0, 1)

pub light_reads : (p : Light) → IsLight p → ReadsCells (light_hides p) 2 p.size (light_cell p) (λ place. light_in (slice_get p.cells place))
unfolding light_in
light_reads p ok g place after shown lt follows = by _ refl
  where
    none : {o : Option LightCell} → slice_get p.cells place ≡ o → o ≢ Some White → 0 ≡ slice_index g place
    none is black = sym (shown.hidden place (λ white. black (sym is ∙ white)))

    by : (o : Option LightCell) → slice_get p.cells place ≡ o
        → light_in o (light_symbol o (slice_index g place) ++ after) ≡ (slice_index g place, length (light_symbol o (slice_index g place)))
    by None is = ap (λ v. (v, 0)) (none is (λ white. cc))
    by (Some White) is = is_symbol 79 46 _ after (number_fits _ 2 p.size g place shown lt) refl refl
    by (Some Black) is = ap (λ v. (v, 1)) (none is (λ white. cc))
    by (Some (Numbered n)) is =
        let low = cell_at p.cells place ok.each is in
        rw (decimal_digit n (omega arith)) (ap (λ v. (v, 1)) (none is (λ white. cc)))

-- the number that the digits in front write, less one, and how many they are
number_in : Text → ℕ × ℕ
number_in text = (value (digits_front text) - 1, length (digits_front text))

-- one space stands before a number that isn't the first of its row
spaced : Bool → Text → ℕ × ℕ
spaced true text = number_in text
spaced false text = let number = number_in (drop 1 text) in (number.0, suc number.1)

pub solo_in : Solo → ℕ → Text → ℕ × ℕ
solo_in p place = spaced (place % solo_n p == 0)

-- what follows a number of Solo begins with no digit
no_digit_follows : (p : Solo) (g : List ℕ) (place : ℕ) {after : Text} → Follows (solo_cell p g) (solo_extent p) place after → begins is_ascii_digit after ≡ false
no_digit_follows p g place follows = grind (arith, common_steps, ne_eqb)

pub solo_reads : (p : Solo) → IsSolo p → ReadsCells hides_nothing (solo_n p) (solo_extent p) (solo_cell p) (solo_in p)
unfolding number_in solo_in spaced
solo_reads p ok g place after shown lt follows = by (place % solo_n p == 0)
  where
    is : number_in (decimal (slice_index g place + 1) ++ after) ≡ (slice_index g place, length (decimal (slice_index g place + 1)))
    is =
        let low = number_fits hides_nothing (solo_n p) (solo_extent p) g place shown lt in
        let few = ok.n_high in
        let front = front_decimal (slice_index g place + 1) after (omega arith) (no_digit_follows p g place follows) in
        rw (front.0, front.2) (ap (λ v. (v, length (decimal (slice_index g place + 1)))) (omega arith))

    by : (b : Bool) → spaced b (((if b then [] else codes " ") ++ decimal (slice_index g place + 1)) ++ after)
        ≡ (slice_index g place, length ((if b then [] else codes " ") ++ decimal (slice_index g place + 1)))
    by true = is
    by false = ap (λ r. (r.0, suc r.1)) is

-- no byte is a carriage return
abbrev pub Plain : Text → Type 0
Plain [] = Unit {0}
Plain (byte ∷ rest) = (byte ≢ 13) × Plain rest

plain-append : (a b : Text) → Plain a → Plain b → Plain (a ++ b)
plain-append [] b p q = q
plain-append (byte ∷ a) b p q = (p.0, plain-append a b p.1 q)

-- so nothing is dropped
pub plain_kept : (text : Text) → Plain text → without_returns text ≡ text
unfolding without_returns
plain_kept [] p = refl
plain_kept (byte ∷ rest) p = rw (ne_eqb byte 13 p.0) (ap (λ t. byte ∷ t) (plain_kept rest p.1))

-- so many bytes at most, none of which is a carriage return
pub record IsCellText (m : ℕ) (text : Text) : Type 0 where
  pub plain : Plain text
  pub few : length text ≤ m

-- one byte, which is no carriage return
one_byte : {byte : ℕ} → byte ≢ 13 → IsCellText 1 (byte ∷ [])
one_byte other = record { plain = (other, tt); few = omega arith }

both_texts : {m n : ℕ} (a b : Text) → IsCellText m a → IsCellText n b → IsCellText (m + n) (a ++ b)
both_texts a b x y = grind (arith, common_steps, plain-append, length-append)

each_text : (f : ℕ → Text) (n m : ℕ) → ((k : ℕ) → k < n → IsCellText m (f k)) → IsCellText (n * m) (each_below f n)
unfolding each_below
each_text f zero m each = record { plain = tt; few = omega arith }
each_text f (suc n) m each = subst (λ k. IsCellText k (each_below f n ++ f n)) (let all = sym (suc-mul n m) in all)
    (both_texts _ (f n) (each_text f n m (λ k lt. each k (omega arith))) (each n (omega arith)))

-- a printed grid has none either, and it may be read, where both sides have so many cells at most
pub grid_is_text : (cell : ℕ → Text) (size : Extent) (m : ℕ) → ((place : ℕ) → place < size.w * size.h → IsCellText m (cell place))
    → {most : ℕ} → size.w ≤ most → size.h ≤ most → most * (most * m + 1) ≤ text_limit → IsCellText text_limit (grid_text cell size)
grid_is_text cell size m each {most} wide high room =
    let all = each_text (row_text cell size) size.h (size.w * m + 1) (λ y below.
    both_texts (each_below (λ x. cell (y * size.w + x)) size.w) (codes "\n")
    (each_text (λ x. cell (y * size.w + x)) size.w m (λ x lt. each (y * size.w + x) (in_grid size y size.w x (size.w * size.h) refl lt below refl)))
    (one_byte (λ e. absurd (omega arith)))) in
    let rows = mul-le-mul_right (size.w * m + 1) high in
    let cells = mul-le-mul_right m wide in
    let row : size.w * m + 1 ≤ most * m + 1 = omega arith in
    let columns = mul-le-mul_left most row in
    record { plain = all.plain; few = omega (arith, all.few, rows, columns, room) }

-- a number of two digits at most
digit : (d : ℕ) → d < 10 → 48 + d ≢ 13
digit d small e = absurd (omega arith)

number_text : (n : ℕ) → n < 100 → IsCellText 2 (decimal n)
number_text n small = grind (arith, common_steps, cases_lt, decimal_digit, digit, decimal, decimal_step)

one_of : (b : Bool) (x y : ℕ) → x ≢ 13 → y ≢ 13 → IsCellText 1 (if b then x ∷ [] else (y ∷ []))
one_of true x y first second = one_byte first
one_of false x y first second = one_byte second

-- ---- the cells of each game
pub pattern_cell_text : (p : Pattern) (g : List ℕ) (place : ℕ) → IsCellText 1 (pattern_cell p g place)
pattern_cell_text p g place = grind (arith, common_steps, one_of)

pub tents_cell_text : (p : Tents) (g : List ℕ) (place : ℕ) → IsCellText 1 (tents_cell p g place)
tents_cell_text p g place = grind (arith, common_steps, codes, one_byte, one_of)

pub light_cell_text : (p : Light) → IsLight p → (g : List ℕ) (place : ℕ) → IsCellText 1 (light_cell p g place)
light_cell_text p ok g place = by _ refl
  where
    by : (o : Option LightCell) → slice_get p.cells place ≡ o → IsCellText 1 (light_symbol o (slice_index g place))
    by None e = record { plain = tt; few = omega arith }
    by (Some White) e = one_of _ 79 46 (λ e. absurd (omega arith)) (λ e. absurd (omega arith))
    by (Some Black) e = one_byte (λ e. absurd (omega arith))
    by (Some (Numbered n)) e =
        let low = cell_at p.cells place ok.each e in
        subst (IsCellText 1) (sym (decimal_digit n (omega arith))) (one_byte (digit n (omega arith)))

pub solo_cell_text : (p : Solo) → IsSolo p → {hides : ℕ → Type 0} (g : List ℕ) → IsAsShown hides (solo_n p) (solo_extent p) g
    → {place : ℕ} → place < solo_n p * solo_n p → IsCellText 3 (solo_cell p g place)
solo_cell_text p ok {hides} g shown {place} lt = grind (arith, common_steps, decimal, number_fits, number_text, codes, ok.n_high)
