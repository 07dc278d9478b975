-- Visits of a line, on boards and on planes.
use Rattle.pattern_core.proofs.Common.{AreClues, ArePlanes, ArePositive, Bool, Candidates, Column, Decision, Extent, FitsIn, IsAlive, IsBitsOf, IsBoardOf, IsClue, IsDead, IsDecided, IsDecidedBy, IsExtent, IsLawful, IsPattern, IsWithin, Layers, Layout, Line, List, Needs, Pattern, Row, RuleSystem, Taking, [], after, and-true, and_from, and_parts, and_right, any_below, any_below-here, any_below-none, any_below-some, ap, ap₂, arith, at_line, bits-of_values, cases_Bool, cases_eq, cases_lt, clue_of, common_steps, cond, count_below, count_below-none, count_below-pos, count_below-same, counts_of, div-add-mod', div-mul-add, div_below, eq-eqb, eqb, eqb-true, false, false_from_ne_true, fun_ext, get_or, has-within, has_bit, has_lost, has_place, has_place-at, has_place-here, has_runs, line_house, in_grid, inl, inr, is_dead-each, is_dead-here, is_dead-not, kept-decided, kept_in, le-ltb, length, length-line_places, line_cells, line_len, line_places, line_rules, line_rules-lawful, line_short, lines_beside, lines_of, lt-ltb, ltb, mod-mul-add, mod_below, needs_of, not, number_of, or_cases, place_in_column, place_in_row, refl, sets-bits, sets_by, slice_index, strikes_at, strikes_by_fillings, subst, suc, sym, true, true≢false, used, visited-after, zero, ℕ, ◌%◌, ◌&&◌, ◌*◌, ◌+◌, ◌-◌, ◌/◌, ◌<◌, ◌||◌, ◌∙◌, ◌∷◌, ◌≡◌, ◌≤◌}
use Rattle.grid_core.specs.Candidates.{IsWithin as HasCells}
unfoldable use Rattle.grid_core.specs.Board.{has as on_board}
unfoldable use Rattle.grid_core.specs.Planes.{covers, crosses, planes_have, without_taking}
use Rattle.grid_core.proofs.PlaneSteps.{has-at, two-counted}
use Rattle.engine_core.proofs.HouseLemmas.{kept-after}
use Rattle.engine_core.specs.Keeping.{AreSetsOf}
use Rattle.engine_core.specs.PositionLaws.{within_of}
use Rattle.engine_core.specs.PlaneNotes.{IsSuited}
unfoldable use Rattle.engine_core.specs.RuleSystem.{longest}
use Rattle.engine_core.proofs.JudgeLemmas.{scope_le-longest}
use Rattle.pattern_core.proofs.LineWords.{length-sets, set-small, sets-bit, word_of}

-- What is taken from a line of planes, and what its house strikes.

-- ---- the cells of a line
abbrev pub cell_of : Extent → Line → ℕ → ℕ
cell_of size (Row y) k = y * size.w + k
cell_of size (Column x) k = k * size.w + x

pub house-in : (size : Extent) (line : Line) → number_of line < lines_beside size line → line_house size line < lines_of size
house-in size (Row y) lt = omega arith
house-in size (Column x) lt = omega arith

pub line-long : (size : Extent) (line : Line) → number_of line < lines_beside size line → line_cells size (line_house size line) ≡ line_len size line
line-long size (Row y) lt = grind (arith, common_steps, cases_Bool)
line-long size (Column x) lt = grind (arith, common_steps, cases_Bool, lt-ltb)

pub cell-at : (size : Extent) (line : Line) (k : ℕ) → number_of line < lines_beside size line → k < line_len size line
    → slice_index (line_places size (line_house size line)) k ≡ cell_of size line k
cell-at size (Row y) k lt less = let e : (size.w + y) - size.w ≡ y = omega arith in place_in_row size (size.w + y) k (omega arith) less ∙ ap (λ n. n * size.w + k) e
cell-at size (Column x) k lt less = place_in_column size x k lt less

pub read-at : (p : Layers) (line : Line) (k v : ℕ) → number_of line < lines_beside p.size line → k < line_len p.size line → v < 2
    → planes_have p (cell_of p.size line k) v ≡ at_line p line v k
read-at p (Row y) k v lt less low = has-at p y k v less low
read-at p (Column x) k v lt less low = has-at p k x v lt low

-- a cell of a line among these places, and the place of one
pub crossed-at : (size : Extent) (line : Line) (bits k : ℕ) → number_of line < lines_beside size line → k < line_len size line
    → crosses line bits (cell_of size line k / size.w) (cell_of size line k % size.w) ≡ has_bit bits k
unfolding crosses
crossed-at size (Row y) bits k lt less = rw (div-mul-add y size.w k less, mod-mul-add y size.w k less, eq-eqb y y refl) refl
crossed-at size (Column x) bits k lt less = rw (div-mul-add k size.w x lt, mod-mul-add k size.w x lt, eq-eqb x x refl) refl

pub crossed-some : (size : Extent) (line : Line) (bits c : ℕ) → 0 < size.w → c < size.w * size.h → crosses line bits (c / size.w) (c % size.w) ≡ true
    → (k : ℕ) × (k < line_len size line) × (has_bit bits k ≡ true) × (cell_of size line k ≡ c)
unfolding crosses
crossed-some = grind (arith, common_steps, and_parts, mod_below, eqb-true, div-add-mod', div_below)

-- a cell has fewer values exactly where it lost one
lost-two : (a b x y : Bool) → (x ≡ true → a ≡ true) → (y ≡ true → b ≡ true)
    → (x || y) ≡ not (eqb (cond a 1 0 + cond b 1 0) (cond (a && not x) 1 0 + cond (b && not y) 1 0))
lost-two = grind (arith, common_steps, cases_Bool)

-- ---- what is kept of a line
module _ (pat : Pattern) (p : Layers) (line : Line) (same : p.size ≡ pat.size) (lt : number_of line < lines_beside pat.size line)
    (some : 0 < pat.size.w) (within : HasCells (pat.size.w * pat.size.h) 2 (planes_have p)) (white black white' black' : ℕ)
    (white_is : (k : ℕ) → has_bit white k ≡ at_line p line 0 k) (black_is : (k : ℕ) → has_bit black k ≡ at_line p line 1 k)
    (d : IsDecidedBy (clue_of pat (line_house pat.size line)) (sets_by white black (line_len pat.size line)) (sets_by white' black' (line_len pat.size line))) where
  abbrev size : Extent
  size = pat.size

  abbrev house : ℕ
  house = line_house size line

  abbrev places : List ℕ
  places = line_places size house

  abbrev K : Candidates
  K = planes_have p

  long : length places ≡ line_len size line
  long = length-line_places size house ∙ line-long size line lt

  at : {k : ℕ} → k < line_len size line → slice_index places k ≡ cell_of size line k
  at {k} less = cell-at size line k lt less

  reads : {k : ℕ} (v : ℕ) → k < line_len size line → v < 2 → K (cell_of size line k) v ≡ at_line p line v k
  reads {k} v less low = rw (← same) (read-at p line k v (rw (← same) at lt) (rw (← same) at less) low)

  -- the sets that were read, and those that are kept
  abbrev sets : List ℕ
  sets = sets_by white black (line_len size line)

  abbrev kept : List ℕ
  kept = sets_by white' black' (line_len size line)

  set-bit : {k v : ℕ} → k < line_len size line → v < 2 → has_bit (slice_index sets k) v ≡ K (cell_of size line k) v
  set-bit {k} {v} less low = sets-bit white black _ k v less low ∙ elim (cases_eq v 0) [
    | inl e ↦ rw e (white_is k ∙ sym (reads 0 less (omega arith)))
    | inr ne ↦ (let e : v ≡ 1 = omega arith in rw e (black_is k ∙ sym (reads 1 less (omega arith))))
  ]

  -- the board after a visit goes by the sets
  pub after-is : kept_in places kept (length places) K ≡ after (line_rules pat) house K
  after-is =
      let bits : (k : ℕ) → k < length places → IsBitsOf (K (slice_index places k)) 2 (slice_index sets k) =
      λ k less. let lk : k < line_len size line = omega (arith, long) in
      record { small = set-small white black k lk; same = λ v low. rw (at lk) (set-bit lk low) } in
      let sized : length sets ≡ length places = length-sets white black _ ∙ sym long in
      visited-after (line_rules pat) house (strikes_by_fillings (has_runs (clue_of pat house))) K _ sets kept (λ L c v. refl) within sized bits
      (sets-bits 2 places K sets sized bits) d refl

  kept-bit : {k v : ℕ} → k < line_len size line → v < 2 → has_bit (slice_index kept k) v ≡ has_bit (word_of white' black' v) k
  kept-bit {k} {v} = sets-bit white' black' _ k v

  -- whether a cell of the line keeps the value no more, which is the cell's at that place
  abbrev is_gone : ℕ → ℕ → ℕ → Bool
  is_gone c v k = eqb (slice_index places k) c && not (has_bit (slice_index kept k) v)

  -- what is lost of a value in the line
  struck-at : (v bits c : ℕ) → v < 2 → ((k : ℕ) → has_bit bits k ≡ (at_line p line v k && not (has_bit (word_of white' black' v) k))) → K c v ≡ true
      → crosses line bits (c / size.w) (c % size.w) ≡ any_below (is_gone c v) (length places)
  struck-at v bits c low is on = elim (cases_Bool (any_below (is_gone c v) (length places))) [
    | inl one ↦ (
        let w = any_below-some (is_gone c v) (length places) one in
        let u = and_parts _ _ w.2 in let lk : w.0 < line_len size line = omega (arith, long, w.1) in
        let here : cell_of size line w.0 ≡ c = sym (at lk) ∙ eqb-true _ _ u.0 in
        let there : at_line p line v w.0 ≡ true = sym (reads v lk low) ∙ rw (← here) at on in
        let gone : not (has_bit (word_of white' black' v) w.0) ≡ true = ap not (sym (kept-bit lk low)) ∙ u.1 in
        rw one (rw (← here) (crossed-at size line bits w.0 lt lk ∙ is w.0 ∙ and_from _ _ there gone)))
    | inr none ↦ rw none (false_from_ne_true _ (λ crossed.
        let w = crossed-some size line bits c some (within c v on).0 crossed in let lk = w.1 in
        let u = and_parts (at_line p line v w.0) (not (has_bit (word_of white' black' v) w.0)) (sym (is w.0) ∙ w.2) in
        let off = any_below-none (is_gone c v) (length places) none w.0 (omega (arith, long)) in
        true≢false (sym (and_from _ _ (eq-eqb _ _ (at lk ∙ w.3)) (ap not (kept-bit lk low) ∙ u.1)) ∙ off)))
  ]

  kept-had : {k : ℕ} (v : ℕ) → k < line_len size line → v < 2 → has_bit (word_of white' black' v) k ≡ true → K (cell_of size line k) v ≡ true
  kept-had {k} v less low on =
      sym (set-bit less low) ∙ (and_parts _ _ (sym (d.bits k v (omega (arith, length-sets white black (line_len size line))) low) ∙ (kept-bit less low ∙ on))).0

  -- a cell of the line of which no value is kept
  pub kept-dead : (k : ℕ) → k < line_len size line → has_bit white' k ≡ false → has_bit black' k ≡ false → IsDead (line_rules pat) (after (line_rules pat) house K)
  unfolding kept_in
  kept-dead k less none0 none1 =
      let lk : k < length places = omega (arith, long) in let c = slice_index places k in
      let off : (v : ℕ) → v < 2 → kept_in places kept (length places) K c v ≡ false = λ v low.
      let gone : has_bit (slice_index kept k) v ≡ false = kept-bit less low ∙ elim (cases_eq v 0) [
        | inl e ↦ rw e none0
        | inr ne ↦ (let e : v ≡ 1 = omega arith in rw e none1)
      ] in
      and_right (K c v) _ (ap not (any_below-here (is_gone c v) (length places) k lk
      (and_from _ _ (eq-eqb c c refl) (ap not gone)))) in
      rw (← after-is) (is_dead-here (size.w * size.h) 2 _ c (in_grid size (house-in size line lt) (has_place-here places k lk)) (count_below-none _ 2 off))

  -- both values are taken from the cells where they are not kept
  module _ (inside : (k v : ℕ) → at_line p line v k ≡ true → v < 2 → k < line_len size line) (lw lb : ℕ)
      (lw_is : (k : ℕ) → has_bit lw k ≡ (at_line p line 0 k && not (has_bit white' k))) (lb_is : (k : ℕ) → has_bit lb k ≡ (at_line p line 1 k && not (has_bit black' k))) where
    abbrev left : Candidates
    left = without_taking size.w (without_taking size.w K (record { line = line; value = 0; bits = lw })) (record { line = line; value = 1; bits = lb })

    each : (c v : ℕ) → left c v ≡ kept_in places kept (length places) K c v
    unfolding without_taking covers kept_in
    each c v = elim (cases_Bool (K c v)) [
      | inl on ↦ (
          let low = (within c v on).1 in
          elim (cases_eq v 0) [
            | inl e ↦ (let s = struck-at 0 lw c (omega arith) lw_is (rw e at on) in rw e (grind (arith, common_steps, cases_Bool, s)))
            | inr ne ↦ (
                let e : v ≡ 1 = omega arith in
                let s = struck-at 1 lb c (omega arith) lb_is (rw e at on) in rw e (grind (arith, common_steps, cases_Bool, s)))
          ])
      | inr off ↦ rw off refl
    ]

    stays : (c v : ℕ) → has_place places c ≡ false → left c v ≡ K c v
    unfolding kept_in
    stays c v off =
        let none = false_from_ne_true (any_below (is_gone c v) (length places)) (λ on.
        let w = any_below-some (is_gone c v) (length places) on in
        let e = eqb-true (slice_index places w.0) c (and_parts _ _ w.2).0 in
        true≢false (sym (rw e at (has_place-here places w.0 w.1)) ∙ off)) in
        each c v ∙ rw none (and-true (K c v))

    pub taken-is : left ≡ after (line_rules pat) house K
    taken-is = fun_ext (λ c. fun_ext (λ v. each c v)) ∙ after-is

    -- what is left of a cell of the line
    left-at : {k : ℕ} → k < line_len size line → (left (cell_of size line k) 0 ≡ (K (cell_of size line k) 0 && not (has_bit lw k)))
        × (left (cell_of size line k) 1 ≡ (K (cell_of size line k) 1 && not (has_bit lb k)))
    unfolding without_taking covers
    left-at {k} less =
        let w = crossed-at size line lw k lt less in let b = crossed-at size line lb k lt less in
        (grind (arith, common_steps, cases_Bool, w, b), grind (arith, common_steps, cases_Bool, w, b))

    pub lost-at : (bits : ℕ) → ((k : ℕ) → has_bit bits k ≡ (has_bit lw k || has_bit lb k)) → (k : ℕ) → has_bit bits k ≡ has_lost (line_rules pat) house K left k
    unfolding has_lost counts_of
    lost-at bits is k = elim (cases_lt k (length places)) [
      | inl lk ↦ (
          let less : k < line_len size line = omega (arith, long) in
          let w : (has_bit lw k ≡ true → K (cell_of size line k) 0 ≡ true) = λ on. reads 0 less (omega arith) ∙ (and_parts _ _ (sym (lw_is k) ∙ on)).0 in
          let b : (has_bit lb k ≡ true → K (cell_of size line k) 1 ≡ true) = λ on. reads 1 less (omega arith) ∙ (and_parts _ _ (sym (lb_is k) ∙ on)).0 in
          is k ∙ lost-two (K (cell_of size line k) 0) (K (cell_of size line k) 1) (has_bit lw k) (has_bit lb k) w b
          ∙ rw (lt-ltb _ _ lk, at less, two-counted (K (cell_of size line k)), two-counted (left (cell_of size line k)), (left-at less).0, (left-at less).1) refl)
      | inr ge ↦ (
          let w : has_bit lw k ≡ false = false_from_ne_true _ (λ on. let z = inside k 0 (and_parts _ _ (sym (lw_is k) ∙ on)).0 (omega arith) in absurd (omega (arith, long))) in
          let b : has_bit lb k ≡ false = false_from_ne_true _ (λ on. let z = inside k 1 (and_parts _ _ (sym (lb_is k) ∙ on)).0 (omega arith) in absurd (omega (arith, long))) in
          is k ∙ rw (w, b, le-ltb _ _ ge) refl)
    ]

    -- where each cell of the line keeps a value, no cell loses its last
    pub left-alive : IsAlive (line_rules pat) K → ((k : ℕ) → k < line_len size line → (has_bit white' k || has_bit black' k) ≡ true) → IsAlive (line_rules pat) left
    left-alive alive some-kept = is_dead-each (size.w * size.h) 2 left (λ c lc. elim (cases_Bool (has_place places c)) [
      | inl there ↦ (
          let w = has_place-at places c there in let less : w.0 < line_len size line = omega (arith, long, w.1) in
          let here : cell_of size line w.0 ≡ c = sym (at less) ∙ w.2 in
          rw (← here) (elim (or_cases (has_bit white' w.0) (has_bit black' w.0) (some-kept w.0 less)) [
            | inl on ↦ (
                let off : has_bit lw w.0 ≡ false = grind (arith, common_steps, cases_Bool, lw_is w.0, on) in
                count_below-pos _ 2 0 (omega arith) ((left-at less).0 ∙ and_from _ _ (kept-had 0 less (omega arith) on) (ap not off)))
            | inr on ↦ (
                let off : has_bit lb w.0 ≡ false = grind (arith, common_steps, cases_Bool, lb_is w.0, on) in
                count_below-pos _ 2 1 (omega arith) ((left-at less).1 ∙ and_from _ _ (kept-had 1 less (omega arith) on) (ap not off)))
          ]))
      | inr off ↦ rw (count_below-same (left c) (K c) 2 (λ v low. stays c v off)) (is_dead-not (size.w * size.h) 2 K c alive lc)
    ])

-- ---- what is read of planes
pub cells-in : {room : ℕ} {p : Layers} {size : Extent} → ArePlanes room p → p.size ≡ size → HasCells (size.w * size.h) 2 (planes_have p)
cells-in {room} {p} are same = rw (← same) (has-within p room are)

pub wide-in : {room : ℕ} {p : Layers} {size : Extent} → ArePlanes room p → p.size ≡ size → 0 < size.w
wide-in are same = rw (← same) (omega (arith, are.lawful.w_low))

line-room : (room : ℕ) (p : Layers) (line : Line) (k v : ℕ) → ArePlanes room p → at_line p line v k ≡ true → v < 2 → k < line_len p.size line
line-room room p (Row y) k v are on low = (are.words.within y k v low on).1
line-room room p (Column x) k v are on low = (are.words.within k x v low on).0

pub line-within : {room : ℕ} {p : Layers} (line : Line) {size : Extent} → ArePlanes room p → p.size ≡ size
    → (k v : ℕ) → at_line p line v k ≡ true → v < 2 → k < line_len size line
line-within {room} {p} line are same k v on low = rw (← same) (line-room room p line k v are on low)

-- two takings, one after the other
pub both-taken : (p0 p1 p2 : Layers) {size : Extent} (t0 t1 : Taking) → p0.size ≡ size → p1.size ≡ p0.size → planes_have p1 ≡ without_taking p0.size.w (planes_have p0) t0
    → planes_have p2 ≡ without_taking p1.size.w (planes_have p1) t1 → planes_have p2 ≡ without_taking size.w (without_taking size.w (planes_have p0) t0) t1
both-taken p0 p1 p2 t0 t1 f0 f1 e1 e2 =
    e2
    ∙ ap₂ (λ w K. without_taking w K t1) (ap (λ (s : Extent). s.w) (f1 ∙ f0)) (e1 ∙ ap (λ w. without_taking w (planes_have p0) t0) (ap (λ (s : Extent). s.w) f0))

-- A visit of a line, from its three steps, and the clues that it reads.

-- a visit that strikes what is not kept of decided sets leaves the board that the rules say
pub decided-after : {p : RuleSystem} → IsLawful p → {h : ℕ} (decides : Decision) {K : Candidates} {sets kept : List ℕ} → h < p.houses
    → ((L : Candidates) (c v : ℕ) → p.strikes h L c v ≡ strikes_at p.values (p.scope h) decides L c v)
    → IsWithin p.cells p.values K → AreSetsOf p h K sets → IsDecided p.values decides sets kept
    → kept_in (p.scope h) kept (length (p.scope h)) K ≡ after p h K
decided-after {p} laws {h} decides {K} {sets} {kept} lt is within are decided =
    kept-after laws lt within (kept-decided p h decides K true sets kept is (λ j k lj lk e. laws.scope_distinct h j k lt lj lk e) are decided
    (λ e. absurd (true≢false e)))

pub line_visited : (p : Pattern) {line : ℕ} {b : Layout} {size : Extent} {K : Candidates} {clue places sets kept : List ℕ} → IsExtent p.size
    → line < lines_of p.size → IsBoardOf (line_rules p) b → size ≡ p.size → clue ≡ clue_of p line → places ≡ line_places size line → length sets ≡ length places
    → ((k : ℕ) → k < length places → IsBitsOf (on_board b (slice_index places k)) b.values (slice_index sets k))
    → IsDecidedBy clue sets kept → K ≡ kept_in places kept (length places) (on_board b) → K ≡ after (line_rules p) line (on_board b)
line_visited p {line} {b} {places = places} {sets = sets} extent lt is sized same written long bits decided left =
    let at : places ≡ line_places p.size line = rw sized at written in
    (rw at at left)
    ∙ decided-after (line_rules-lawful p extent) (strikes_by_fillings (has_runs (clue_of p line))) lt (λ L c v. refl) (within_of _ b is)
    (record { as_many = rw at at long; bits = rw at at (bits-of_values b 2 places sets is.same_values bits) }) (rw same at decided)

-- a clue of a puzzle fits its line, and a spelled clue fits a word
clue_from : (size : Extent) (clues : List (List ℕ)) (from k : ℕ) → AreClues size from clues
    → k < length clues → IsClue (line_cells size (from + k)) (get_or clues k [])
clue_from size [] from k all lt = absurd (omega arith)
clue_from size (clue ∷ clues) from zero all lt = subst (λ n. IsClue (line_cells size n) clue) (omega arith) all.0
clue_from size (clue ∷ clues) from (suc k) all lt =
    subst (λ n. IsClue (line_cells size n) (get_or clues k []))
    (omega arith)
    (clue_from size clues (from + 1) k all.1 (omega arith))

pub clue_of_line : {p : Pattern} {line : ℕ} {clue : List ℕ} → IsPattern p → line < lines_of p.size
    → clue ≡ clue_of p line → ArePositive clue × (used clue ≤ 127)
clue_of_line {p} {line} is lt same =
    let here = clue_from p.size p.clues 0 line is.clues (omega arith) in
    let short = line_short p.size (0 + line) is.size in
    (subst (ArePositive) (sym same) here.positive, (omega (arith, ap used same)))

-- ---- no side of a grid is longer than its longest line, which is a side
sides-within : (size : Extent) → IsExtent size → (size.w ≤ longest (line_places size) (lines_of size)) × (size.h ≤ longest (line_places size) (lines_of size))
sides-within size extent =
    let row = scope_le-longest (line_places size) (lines_of size) size.w (omega (arith, extent.h_low)) in
    let column = scope_le-longest (line_places size) (lines_of size) 0 (omega (arith, extent.w_low)) in
    let wide : line_cells size size.w ≡ size.w = rw (le-ltb size.w size.w (omega arith)) refl in
    let high : line_cells size 0 ≡ size.h = rw (lt-ltb 0 size.w (omega (arith, extent.w_low))) refl in
    (omega (arith, row, length-line_places size size.w, wide), omega (arith, column, length-line_places size 0, high))

pub sides-short : (p : Pattern) {had : Needs} → IsExtent p.size → FitsIn (needs_of (line_rules p)) had → had.scope ≤ 64 → IsSuited p.size 64
sides-short p extent fits short =
    let sides = sides-within p.size extent in (omega (arith, sides.0, fits.scope_in, short), omega (arith, sides.1, fits.scope_in, short))

longest-within : (scope : ℕ → List ℕ) (n most : ℕ) → ((h : ℕ) → h < n → length (scope h) ≤ most) → longest scope n ≤ most
unfolding longest
longest-within scope zero most each = omega arith
longest-within scope (suc n) most each = grind (arith, common_steps, longest-within scope n most (λ h lt. each h (omega arith)), each n (omega arith))

pub longest-side : {size : Extent} {most : ℕ} → IsExtent size → size.w ≤ most → size.h ≤ most
    → ((n : ℕ) → size.w ≤ n → size.h ≤ n → most ≤ n) → most ≡ longest (line_places size) (lines_of size)
longest-side {size} {most} extent wide high least =
    let sides = sides-within size extent in
    let none_more = longest-within (line_places size) (lines_of size) most
    (λ h lt. grind (arith, common_steps, cases_Bool (ltb h size.w), length-line_places size h, wide, high)) in
    omega (arith, least _ sides.0 sides.1, none_more)
