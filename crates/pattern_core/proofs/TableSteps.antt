-- The steps of the table at a place of the line, and the line that goes along the spelled clue by the places that its cells reach.
use Rattle.pattern_core.proofs.Common.{ArePositive, AreRows, AreRowsKept, Bool, IsBelow, IsDecidedBy, List, Track, [], ahead, and-true, and_from, and_parts, any_below, any_below-here, any_below-same, any_below-some, any_cells, ap, arith, cases_Bool, cases_eq, cell_is, common_steps, drop, drop-drop, drop_all, drop_more, eqb, eqb-true, false, false_from_ne_true, fun_ext, get_or, get_or-drop, get_or-map, get_or-set_other, get_or-set_same, goes_on, has_bit, has_runs, leads, led, length, length-map, length-set, or-false, refl, set, set_for, set_of_bits, sets_of, some_filling, some_leads, spelled, can_stay, suc, sym, track_of, true, true≢false, zero, ℕ, ◌&&◌, ◌+◌, ◌<◌, ◌||◌, ◌∙◌, ◌∷◌, ◌≡◌, ◌≤◌}
use Rattle.std.proofs.Math.Bool.{and_comm}
use Rattle.pattern_core.proofs.SpelledRuns.{leads_here, leads_next, leads_runs, same_tests, strikes_by_track, ways_on}

-- a way on from the places that are reached before the cell at `at`, by any test of the cells from there on
pub record AreReached (n : ℕ) (t : Track) (sets : List ℕ) (reached : ℕ → Bool) (at : ℕ) : Type 0 where
  pub shown : (test : List ℕ → Bool) → any_below (λ p. reached p && some_leads t (drop at (sets_of sets)) test p) n
      ≡ some_leads t (sets_of sets) (λ cells. test (drop at cells)) 0

-- ---- the sets from a cell on
module _ (t : Track) (sets : List ℕ) (at : ℕ) (lt : at < length sets) where
  next_set : drop at (sets_of sets) ≡ (has_bit (get_or sets at 0) 0 ∷ has_bit (get_or sets at 0) 1 ∷ []) ∷ drop (at + 1) (sets_of sets)
  unfolding set_of_bits
  next_set = drop_more (sets_of sets) at [] (omega (arith, length-map sets (set_of_bits 2)))
      ∙ ap (λ s. s ∷ drop (at + 1) (sets_of sets)) (get_or-map _ sets at 0 [] lt)

  way_next : (test : List ℕ → Bool) (p : ℕ) → some_leads t (drop at (sets_of sets)) (λ cells. test (drop 1 cells)) p
      ≡ ahead t (get_or sets at 0) (some_leads t (drop (at + 1) (sets_of sets)) test) p
  way_next test p = ap (λ s. some_leads t s (λ cells. test (drop 1 cells)) p) next_set ∙ leads_next t (get_or sets at 0) (drop (at + 1) (sets_of sets)) test p

  way_any : (p : ℕ) → some_leads t (drop at (sets_of sets)) any_cells p ≡ ahead t (get_or sets at 0) (some_leads t (drop (at + 1) (sets_of sets)) any_cells) p
  unfolding any_cells
  way_any p = way_next any_cells p

  way_here : (v p : ℕ) → v < 2 → some_leads t (drop at (sets_of sets)) (cell_is 0 v) p
      ≡ (has_bit (get_or sets at 0) v && ahead t (set_for v) (some_leads t (drop (at + 1) (sets_of sets)) any_cells) p)
  way_here v p small = ap (λ s. some_leads t s (cell_is 0 v) p) next_set ∙ leads_here t (get_or sets at 0) (drop (at + 1) (sets_of sets)) v p small

-- ---- the rows
pub leads_end : (t : Track) (p : ℕ) → some_leads t [] any_cells p ≡ t.ends p
unfolding some_leads some_filling leads any_cells
leads_end t p = and-true (t.ends p)

module _ {A : Type 0} (has : A → ℕ → Bool) (t : Track) (sets : List ℕ) (rows : List A) where
  pub last_row : (ends : A) → ((p : ℕ) → has ends p ≡ t.ends p) → length sets < length rows → AreRows has t sets (set rows (length sets) ends) (length sets)
  last_row ends same room = grind (arith, common_steps, length-set, set, get_or-set_same, leads_end, drop_all, length-map)

  pub later_rows : {from to : ℕ} → from ≤ to → AreRows has t sets rows from → AreRows has t sets rows to
  later_rows le are = record { room = are.room; row = λ i p w low upto. are.row i p w (omega arith) upto }

  -- what the row of the next cell says
  pub row_next : (from at : ℕ) (next : A) → AreRows has t sets rows from → from ≤ at + 1 → at < length sets → next ≡ get_or rows (at + 1) next
      → some_leads t (drop (at + 1) (sets_of sets)) any_cells ≡ has next
  row_next from at next all low lt read = fun_ext λ p. sym (ap (λ x. has x p) read ∙ all.row (at + 1) p next low (omega arith))

  pub one_row : (at : ℕ) (row : A) {next : A} → AreRows has t sets rows (at + 1) → at < length sets → next ≡ get_or rows (at + 1) next
      → ((p : ℕ) → has row p ≡ ahead t (get_or sets at 0) (has next) p) → AreRows has t sets (set rows at row) at
  one_row at row {next} rest lt read is = record {
    room = omega (arith, length-set rows at row);
    row = grind (arith, common_steps, cases_eq, set, get_or-set_same, row_next, way_any, get_or-set_other, rest.row);
  }

-- ---- the places reached
pub at_first : {n : ℕ} (first way : ℕ → Bool) → 0 < n → ((p : ℕ) → first p ≡ eqb p 0) → any_below (λ p. first p && way p) n ≡ way 0
at_first {n} first way some is = same_tests (any_below (λ p. first p && way p) n) (way 0)
    (λ on.
    let w = any_below-some (λ p. first p && way p) n on in let u = and_parts _ _ w.2 in
    ap way (sym (eqb-true _ _ (sym (is w.0) ∙ u.0))) ∙ u.1)
    (λ on. any_below-here (λ p. first p && way p) n 0 some (and_from (first 0) (way 0) (is 0) on))

pub reached_first : {n : ℕ} (t : Track) {sets : List ℕ} {first : ℕ → Bool} → 0 < n → ((p : ℕ) → first p ≡ eqb p 0) → AreReached n t sets first 0
reached_first t {sets} {first} some is = record { shown = λ test. at_first first (some_leads t (sets_of sets) test) some is }

pub reached_next : (n : ℕ) (t : Track) (sets : List ℕ) (reached new : ℕ → Bool) (at : ℕ) → IsBelow n t → at < length sets
    → ((p : ℕ) → p < n → new p ≡ led t (get_or sets at 0) reached p) → AreReached n t sets reached at → AreReached n t sets new (at + 1)
reached_next n t sets reached new at below lt is r = record {
  shown = λ test.
      ways_on (get_or sets at 0) n below reached new (some_leads t (drop at (sets_of sets)) (λ cells. test (drop 1 cells)))
      (some_leads t (drop (at + 1) (sets_of sets)) test) is (way_next t sets at lt test)
      ∙ r.shown (λ cells. test (drop 1 cells)) ∙ ap (λ h. some_leads t (sets_of sets) h 0) (fun_ext λ cells. ap test (drop-drop 1 at cells));
}

-- ---- what is kept of a cell
module _ (n : ℕ) (t : Track) (sets : List ℕ) (reached : ℕ → Bool) (at : ℕ) (r : AreReached n t sets reached at) (lt : at < length sets)
    (next : ℕ → Bool) (after : some_leads t (drop (at + 1) (sets_of sets)) any_cells ≡ next) where
  -- whether a cell of this set leads on
  abbrev pub leads_by : ℕ → Bool
  leads_by set = any_below (λ p. reached p && ahead t set next p) n

  -- a test of the set stands before or behind
  pulled : (x : Bool) (way : ℕ → Bool) → any_below (λ p. reached p && (x && way p)) n ≡ (x && any_below (λ p. reached p && way p) n)
  pulled true way = refl
  pulled false way = false_from_ne_true (any_below (λ p. reached p && false) n) (λ on.
      let w = any_below-some (λ p. reached p && false) n on in true≢false (sym (and_parts _ _ w.2).1))

  shown_at : (v : ℕ) → v < 2 → some_leads t (sets_of sets) (cell_is at v) 0 ≡ (has_bit (get_or sets at 0) v && leads_by (set_for v))
  unfolding cell_is
  shown_at v small =
      ap (λ h. some_leads t (sets_of sets) h 0)
      (fun_ext λ cells. ap (λ x. eqb x v) (sym (get_or-drop at cells 0 0 ∙ ap (λ j. get_or cells j 0) (omega arith))))
      ∙ sym (r.shown (cell_is 0 v))
      ∙ any_below-same (λ p. reached p && some_leads t (drop at (sets_of sets)) (cell_is 0 v) p)
      (λ p. reached p && (has_bit (get_or sets at 0) v && ahead t (set_for v) next p)) n
      (λ p low. ap (λ x. reached p && x) (way_here t sets at lt v p small ∙ ap (λ f. has_bit (get_or sets at 0) v && ahead t (set_for v) f p) after))
      ∙ pulled (has_bit (get_or sets at 0) v) (λ p. ahead t (set_for v) next p)

  -- what a cell that can be v reaches leads on where some filling shows v
  pub shown_on : (v : ℕ) (ways : ℕ → Bool) {on has : Bool} → v < 2 → IsBelow n t → ((p : ℕ) → p < n → ways p ≡ led t (set_for v) reached p)
      → on ≡ any_below (λ p. ways p && next p) n → has ≡ has_bit (get_or sets at 0) v → (on && has) ≡ some_leads t (sets_of sets) (cell_is at v) 0
  shown_on v ways small below is leads has =
      rw (leads ∙ ways_on (set_for v) n below reached ways (ahead t (set_for v) next) next is (λ p. refl), has) (and_comm (leads_by (set_for v)) (has_bit (get_or sets at 0) v)) ∙ sym (shown_at v small)

-- ---- all cells
pub decided_by_track : (clue : List ℕ) {sets kept : List ℕ} {t : Track} → t ≡ track_of (spelled clue) → ArePositive clue
    → AreRowsKept t sets kept → IsDecidedBy clue sets kept
decided_by_track clue is positive k = grind (arith, common_steps, cases_Bool, strikes_by_track)

leads_cell : (t : Track) (x : ℕ) (cells : List ℕ) (p : ℕ) → leads t p (x ∷ cells) ≡ ahead t (set_for x) (λ q. leads t q cells) p
unfolding leads ahead can_stay goes_on
leads_cell t zero cells p = ap (λ w. (t.stay p && leads t p cells) || (w && leads t (suc p) cells)) (sym (or-false (t.white p)))
leads_cell t (suc x) cells p = refl

pub set_for_black : (number : ℕ) → (number ≡ 0 → ⊥) → set_for number ≡ 2
set_for_black zero some = absurd (some refl)
set_for_black (suc x) some = refl

module _ {n : ℕ} {t : Track} (below : IsBelow n t) (cells : List ℕ) (k : ℕ) (reached : ℕ → Bool) where
  -- one cell on
  pub meet_next : (new : ℕ → Bool) → k < length cells → ((p : ℕ) → p < n → new p ≡ led t (set_for (get_or cells k 0)) reached p)
      → any_below (λ p. reached p && leads t p (drop k cells)) n ≡ leads t 0 cells
      → any_below (λ p. new p && leads t p (drop (k + 1) cells)) n ≡ leads t 0 cells
  meet_next new lt is before =
      ways_on (set_for (get_or cells k 0)) n below reached new (λ p. leads t p (drop k cells)) (λ p. leads t p (drop (k + 1) cells)) is
      (λ p. ap (leads t p) (drop_more cells k 0 lt) ∙ leads_cell t (get_or cells k 0) (drop (k + 1) cells) p) ∙ before

  -- after all of them
  pub meet_end : (clue : List ℕ) (both : ℕ → Bool) → t ≡ track_of (spelled clue) → ArePositive clue → k ≡ length cells
      → ((p : ℕ) → both p ≡ (reached p && t.ends p))
      → any_below (λ p. reached p && leads t p (drop k cells)) n ≡ leads t 0 cells → any_below both n ≡ has_runs clue cells
  unfolding leads
  meet_end clue both spells positive all each before = grind (arith, common_steps, cases_Bool, any_below-same, drop_all, leads_runs)
