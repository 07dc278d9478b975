-- Spelled clues, and the lines that lead along them.
use Rattle.pattern_core.proofs.Common.{ArePositive, Bool, IsBelow, IsSpelling, IsTrack, List, Set, Track, [], ahead, and-false, and-or_distrib_right, and_assoc, and_parts, any_below, any_below-here, any_below-some, any_cells, ap, append_assoc, ap₂, arith, cases_Bool, cases_eq, cases_lt, cell_is, cells_from, clue_along, common_steps, cond, drop, drop-drop, drop_more, eq-eqb, eqb, eqb-true, false, false_from_ne_true, false≢true, filling_from_test, fun_ext, get_or, get_or-drop, get_or_append_left, get_or_past, goes_on, has_bit, has_runs, inl, inr, le-leb, leads, leb, led, length, length-append, length-drop, length-replicate, lt-leb, may_stay, ne_eqb, not, one_on, or-false, or-true, or_cases, or_left, or_right, refl, replicate, replicate-append-replicate, runs, runs_after, set_for, some_filling, some_leads, spelled, can_stay, strikes_by_fillings, subst, suc, sym, test_from_filling, track_of, true, used, zero, ℕ, ◌&&◌, ◌++◌, ◌+◌, ◌-◌, ◌<◌, ◌||◌, ◌∙◌, ◌∷◌, ◌≡◌, ◌≤◌}
use Rattle.std.specs.Cmp.Lexicographic.{pointwise}
use Rattle.pattern_core.proofs.RoomyLines.{run_first}

-- Fillings that lead along a track, cell by cell; and a line leads along the spelled clue to an end exactly where its runs are the clue.

-- ---- by what is left of the spelled clue
-- whether the cells go on to an end of what is left; `may` says whether a further white cell may come first
matches : Bool → List ℕ → List ℕ → Bool
matches may left [] = leb (length left) 1
matches may left (zero ∷ cells) = (may && matches true left cells) || (eqb (get_or left 0 2) 0 && matches true (drop 1 left) cells)
matches may left (suc x ∷ cells) = eqb (get_or left 0 2) 1 && matches false (drop 1 left) cells

-- more than one cell is left of a run
long : (d : ℕ) (clue : List ℕ) → leb (length (1 ∷ (replicate d 1 ++ 0 ∷ spelled clue))) 1 ≡ false
long d clue = lt-leb (length (1 ∷ (replicate d 1 ++ 0 ∷ spelled clue))) 1 (omega (arith, length-append (replicate d 1) (0 ∷ spelled clue)))

-- after a black cell the first run is at least as long as what was passed
first_run : (k : ℕ) (cells : List ℕ) → (m : ℕ) × (rest : List ℕ) × (runs_after (suc k) cells ≡ m ∷ rest) × (suc k ≤ m)
unfolding runs_after
first_run k [] = (suc k, [], refl, omega arith)
first_run k (zero ∷ cells) = (suc k, runs_after 0 cells, refl, omega arith)
first_run k (suc x ∷ cells) = let w = first_run (suc k) cells in (w.0, w.1, w.2, omega arith)

-- the runs after black cells are some
not_none : (k : ℕ) (cells : List ℕ) → pointwise eqb (runs_after (suc k) cells) [] ≡ false
not_none k cells = let w = first_run k cells in ap (λ r. pointwise eqb r []) w.2

-- the first of them is longer than the cells before
too_long : (k m : ℕ) (cells clue : List ℕ) → m ≤ k → pointwise eqb (runs_after (suc k) cells) (m ∷ clue) ≡ false
too_long k m cells clue le =
    let w = first_run k cells in
    ap (λ r. pointwise eqb r (m ∷ clue)) w.2 ∙ ap (λ b. b && pointwise eqb w.1 clue) (ne_eqb w.0 m (λ e. let low = w.3 in absurd (omega arith)))

-- cells from the start of a run on, and cells after so many black ones of a run
abbrev Starts : List ℕ → Type 0
Starts cells = (clue : List ℕ) → ArePositive clue → matches true (spelled clue) cells ≡ pointwise eqb (runs_after 0 cells) clue

abbrev RunsGoOn : List ℕ → Type 0
RunsGoOn cells = (k d : ℕ) (clue : List ℕ) → ArePositive clue
    → matches false (replicate d 1 ++ 0 ∷ spelled clue) cells ≡ pointwise eqb (runs_after (suc k) cells) ((suc k + d) ∷ clue)

starts_none : Starts []
unfolding spelled runs_after matches
starts_none [] p = refl
starts_none (zero ∷ clue) p = absurd (omega arith)
starts_none (suc m ∷ clue) p = long m clue

goes_on_none : RunsGoOn []
unfolding spelled runs_after matches
goes_on_none = grind (arith, common_steps, eq-eqb, lt-leb, and-false, long, pointwise, eqb, ne_eqb)

starts_white : (cells : List ℕ) → Starts cells → Starts (zero ∷ cells)
unfolding spelled runs_after matches
starts_white cells rest [] p = or-false (matches true [] cells) ∙ rest [] p
starts_white cells rest (zero ∷ clue) p = absurd (omega arith)
starts_white cells rest (suc m ∷ clue) p = or-false (matches true (spelled (suc m ∷ clue)) cells) ∙ rest (suc m ∷ clue) p

goes_on_white : (cells : List ℕ) → Starts cells → RunsGoOn (zero ∷ cells)
unfolding spelled runs_after matches
goes_on_white cells rest k zero clue p = rest clue p ∙ sym (ap (λ b. b && pointwise eqb (runs_after 0 cells) clue) (eq-eqb (suc k) (suc k + 0) (omega arith)))
goes_on_white cells rest k (suc d) clue p = sym (ap (λ b. b && pointwise eqb (runs_after 0 cells) clue)
    (ne_eqb (suc k) _ (λ e. absurd (omega arith))))

starts_black : (x : ℕ) (cells : List ℕ) → RunsGoOn cells → Starts (suc x ∷ cells)
unfolding spelled runs_after matches
starts_black x cells rest [] p = sym (not_none 0 cells)
starts_black x cells rest (zero ∷ clue) p = absurd (omega arith)
starts_black x cells rest (suc m ∷ clue) p = rest 0 m clue p.1
    ∙ ap (λ n. pointwise eqb (runs_after 1 cells) (n ∷ clue)) (omega arith)

goes_on_black : (x : ℕ) (cells : List ℕ) → RunsGoOn cells → RunsGoOn (suc x ∷ cells)
unfolding spelled runs_after matches
goes_on_black x cells rest k zero clue p = sym (too_long (suc k) (suc k + 0) cells clue (omega arith))
goes_on_black x cells rest k (suc d) clue p =
    rest (suc k) d clue p ∙ ap (λ m. pointwise eqb (runs_after (suc (suc k)) cells) (m ∷ clue)) (omega arith)

both : (cells : List ℕ) → Starts cells × RunsGoOn cells
both [] = (starts_none, goes_on_none)
both (zero ∷ cells) = (starts_white cells (both cells).0, goes_on_white cells (both cells).0)
both (suc x ∷ cells) = (starts_black x cells (both cells).1, goes_on_black x cells (both cells).1)

-- ---- by places of the spelled clue
and_same : (a x y : Bool) → (a ≡ true → x ≡ y) → (a && x) ≡ (a && y)
and_same true x y h = h refl
and_same false x y h = refl

left_first : (spell : List ℕ) (p : ℕ) → get_or (drop p spell) 0 2 ≡ get_or spell p 2
left_first spell p = get_or-drop p spell 0 2 ∙ ap (λ n. get_or spell n 2) (omega arith)

-- a place at which something is spelled
place_low : (spell : List ℕ) (p v : ℕ) → v < 2 → eqb (get_or spell p 2) v ≡ true → p < length spell
place_low spell p v small on = grind (arith, common_steps, cases_Bool, cases_lt, eqb-true, get_or_past)

next_left : (spell : List ℕ) (p : ℕ) → drop 1 (drop p spell) ≡ drop (suc p) spell
next_left spell p = drop-drop 1 p spell ∙ ap (λ n. drop n spell) (let z : p + 1 ≡ suc p = omega arith in z)

black_not_white : (v : ℕ) → eqb v 1 ≡ true → eqb v 0 ≡ false
black_not_white v on = ne_eqb v 0 (λ e. let one = eqb-true _ _ on in absurd (omega arith))

leads_left : (spell cells : List ℕ) {p : ℕ} → p ≤ length spell → leads (track_of spell) p cells ≡ matches (may_stay spell p) (drop p spell) cells
unfolding leads track_of may_stay matches
leads_left spell [] le = grind (arith, common_steps, cases_Bool, cases_eq, eq-eqb, ne_eqb, le-leb, lt-leb, length-drop)
leads_left spell (zero ∷ cells) {p} le = ap₂ (λ a b. a || b) (and_same _ (leads _ p cells)
    (matches true (drop p spell) cells)
    (λ on. leads_left spell cells le ∙ ap (λ b. matches b (drop p spell) cells) on))
    (and_same _ (leads _ (suc p) cells) (matches true (drop 1 (drop p spell)) cells) (λ on.
    leads_left spell cells (place_low spell p 0 (omega arith) on) ∙ ap₂ (λ b l. matches b l cells) on (sym (next_left spell p)))
    ∙ ap (λ v. eqb v 0 && matches true (drop 1 (drop p spell)) cells) (sym (left_first spell p)))
leads_left spell (suc x ∷ cells) {p} le =
    and_same _ (leads _ (suc p) cells) (matches false (drop 1 (drop p spell)) cells) (λ on.
    leads_left spell cells (place_low spell p 1 (omega arith) on)
    ∙ ap₂ (λ b l. matches b l cells) (black_not_white _ on) (sym (next_left spell p)))
    ∙ ap (λ v. eqb v 1 && matches false (drop 1 (drop p spell)) cells) (sym (left_first spell p))

pub leads_runs : (clue cells : List ℕ) → ArePositive clue → leads (track_of (spelled clue)) 0 cells ≡ has_runs clue cells
unfolding has_runs may_stay
leads_runs clue cells positive = leads_left (spelled clue) cells (omega arith) ∙ (both cells).0 clue positive

-- what a visit strikes, by the track
pub strikes_by_track : (clue : List ℕ) (sets : List Set) (k v : ℕ) → ArePositive clue
    → strikes_by_fillings (has_runs clue) sets k v ≡ not (some_leads (track_of (spelled clue)) sets (cell_is k v) 0)
unfolding some_leads cell_is
strikes_by_track clue sets k v positive = ap (λ holds. strikes_by_fillings holds sets k v) (sym (fun_ext λ cells. leads_runs clue cells positive))

-- ---- the length
pub length-spelled : (clue : List ℕ) → length (spelled clue) ≡ used clue
unfolding spelled
length-spelled [] = refl
length-spelled (n ∷ clue) = omega (arith, length-append (replicate n 1) (0 ∷ spelled clue), length-replicate {A = ℕ} n 1, length-spelled clue)

pub track_below : (spell : List ℕ) {n : ℕ} → length spell < n → IsBelow n (track_of spell)
unfolding track_of
track_below spell fits = grind (arith, common_steps, cases_Bool, place_low)

pub same_tests : (x y : Bool) → (x ≡ true → y ≡ true) → (y ≡ true → x ≡ true) → x ≡ y
same_tests x y h k = grind (arith, common_steps)

-- ---- tests of fillings
some_or : (sets : List Set) (t u : List ℕ → Bool) → some_filling sets (λ f. t f || u f) ≡ (some_filling sets t || some_filling sets u)
some_or sets t u = grind (arith, common_steps, cases_Bool, filling_from_test, or_cases, or_left, or_right, same_tests, test_from_filling)

some_none : (sets : List Set) → some_filling sets (λ f. false) ≡ false
some_none sets = false_from_ne_true (some_filling sets (λ f. false)) (λ on. let w = filling_from_test sets (λ f. false) on in false≢true w.2)

some_and : (sets : List Set) (b : Bool) (t : List ℕ → Bool) → some_filling sets (λ f. b && t f) ≡ (b && some_filling sets t)
some_and sets true t = refl
some_and sets false t = some_none sets

some_same : (sets : List Set) (t u : List ℕ → Bool) → ((f : List ℕ) → t f ≡ u f) → some_filling sets t ≡ some_filling sets u
some_same sets t u h = ap (some_filling sets) (fun_ext h)

some_split : (a b : Bool) (sets : List Set) (t : List ℕ → Bool)
    → some_filling ((a ∷ b ∷ []) ∷ sets) t ≡ ((a && some_filling sets (λ f. t (0 ∷ f))) || (b && some_filling sets (λ f. t (1 ∷ f))))
unfolding some_filling
some_split a b sets t = ap (λ y. (a && some_filling sets (λ f. t (0 ∷ f))) || y) (or-false (b && some_filling sets (λ f. t (1 ∷ f))))

-- ---- one cell
spread : (a x b y e : Bool) → (((a && x) || (b && y)) && e) ≡ ((a && (x && e)) || (b && (y && e)))
spread a x b y e = and-or_distrib_right (a && x) (b && y) e ∙ ap₂ (λ p q. p || q) (and_assoc a x e) (and_assoc b y e)

module _ (t : Track) (set : ℕ) (sets : List Set) where
  leads_on : (test : List ℕ → Bool) (p : ℕ) → some_leads t ((has_bit set 0 ∷ has_bit set 1 ∷ []) ∷ sets) test p
      ≡ ((has_bit set 0 && ((t.stay p && some_leads t sets (λ f. test (0 ∷ f)) p) || (t.white p && some_leads t sets (λ f. test (0 ∷ f)) (suc p))))
      || (has_bit set 1 && (t.black p && some_leads t sets (λ f. test (1 ∷ f)) (suc p))))
  unfolding some_leads leads
  leads_on test p =
      some_split _ _ sets (λ f. leads t p f && test f) ∙ ap₂ (λ x y. (has_bit set 0 && x) || (has_bit set 1 && y))
      (some_same sets (λ f. leads t p (0 ∷ f) && test (0 ∷ f))
      (λ f. (t.stay p && (leads t p f && test (0 ∷ f))) || (t.white p && (leads t (suc p) f && test (0 ∷ f))))
      (λ f. spread (t.stay p) (leads t p f) (t.white p) (leads t (suc p) f) (test (0 ∷ f)))
      ∙ some_or sets (λ f. t.stay p && (leads t p f && test (0 ∷ f))) (λ f. t.white p && (leads t (suc p) f && test (0 ∷ f)))
      ∙ ap₂ (λ x y. x || y) (some_and sets (t.stay p) (λ f. leads t p f && test (0 ∷ f))) (some_and sets (t.white p) (λ f. leads t (suc p) f && test (0 ∷ f))))
      (some_same sets (λ f. leads t p (1 ∷ f) && test (1 ∷ f))
      (λ f. t.black p && (leads t (suc p) f && test (1 ∷ f)))
      (λ f. and_assoc (t.black p) (leads t (suc p) f) (test (1 ∷ f)))
      ∙ some_and sets (t.black p) (λ f. leads t (suc p) f && test (1 ∷ f)))

  -- by a test of the cells after it
  pub leads_next : (test : List ℕ → Bool) (p : ℕ) → some_leads t ((has_bit set 0 ∷ has_bit set 1 ∷ []) ∷ sets) (λ cells. test (drop 1 cells)) p
      ≡ ahead t set (some_leads t sets test) p
  unfolding ahead can_stay goes_on
  leads_next test p = grind (arith, common_steps, leads_on, cases_Bool)

  never : (p : ℕ) → some_leads t sets (λ f. false) p ≡ false
  unfolding some_leads
  never p = some_same sets (λ f. leads t p f && false) (λ f. false) (λ f. and-false (leads t p f)) ∙ some_none sets

  -- with a value here
  pub leads_here : (v p : ℕ) → v < 2 → some_leads t ((has_bit set 0 ∷ has_bit set 1 ∷ []) ∷ sets) (cell_is 0 v) p
      ≡ (has_bit set v && ahead t (set_for v) (some_leads t sets any_cells) p)
  unfolding ahead can_stay goes_on cell_is any_cells
  leads_here zero p lt = leads_on _ p ∙ simp (never (suc p), and-false, or-false)
  leads_here (suc zero) p lt = leads_on _ p ∙ simp (never p, never (suc p), and-false)
  leads_here (suc (suc v)) p lt = absurd (omega arith)

-- ---- all places that were reached
-- a way on from a reached place is a way on from a place that the cell reaches
module _ {t : Track} (set n : ℕ) (below : IsBelow n t) (reached new way after : ℕ → Bool) (leads_to : (p : ℕ) → p < n → new p ≡ led t set reached p)
    (is : (p : ℕ) → way p ≡ ahead t set after p) where
  low : (p : ℕ) → goes_on t set p ≡ true → suc p < n
  unfolding goes_on
  low p on = grind (arith, below.white p, below.black p)

  back : (p : ℕ) → p < n → new p ≡ true → after p ≡ true → any_below (λ p. reached p && way p) n ≡ true
  unfolding ahead led one_on
  back zero lt on on_after = any_below-here (λ p. reached p && way p) n 0 lt (grind (arith, leads_to 0, is 0))
  back (suc p) lt on on_after = elim (cases_Bool (can_stay t set (suc p) && reached (suc p))) [
    | inl x ↦ any_below-here (λ p. reached p && way p) n (suc p) lt (grind (arith, is (suc p)))
    | inr x ↦ any_below-here (λ p. reached p && way p) n p (omega arith) (grind (arith, leads_to (suc p), is p))
  ]

  forth : {p : ℕ} → p < n → reached p ≡ true → way p ≡ true → any_below (λ p. new p && after p) n ≡ true
  unfolding ahead led one_on
  forth {p} lt on on_way = elim (cases_Bool (can_stay t set p && after p)) [
    | inl x ↦ any_below-here (λ p. new p && after p) n p lt (grind (arith, leads_to p))
    | inr x ↦
        let far = low p (grind (arith, is p)) in
        any_below-here (λ p. new p && after p) n (suc p) far (grind (arith, is p, leads_to (suc p)))
  ]

  pub ways_on : any_below (λ p. new p && after p) n ≡ any_below (λ p. reached p && way p) n
  ways_on = same_tests (any_below (λ p. new p && after p) n) (any_below (λ p. reached p && way p) n)
      (λ on. let w = any_below-some (λ p. new p && after p) n on in let u = and_parts _ _ w.2 in back w.0 w.1 u.0 u.1)
      (λ on. let w = any_below-some (λ p. reached p && way p) n on in let u = and_parts _ _ w.2 in forth w.1 u.0 u.1)

-- A clue spelled cell by cell, as sets of places, and read back from them.

-- the cells with one more
more_cells : (cells : List ℕ) (x p : ℕ) → (p ≡ length cells → ⊥) → get_or (cells ++ x ∷ []) p 2 ≡ get_or cells p 2
more_cells cells x p ne = grind (arith, common_steps, cases_Bool, cases_lt, get_or_append_left, get_or_past, length-append)

last_cell : (cells : List ℕ) (x : ℕ) → get_or (cells ++ x ∷ []) (length cells) 2 ≡ x
last_cell [] x = refl
last_cell (y ∷ cells) x = last_cell cells x

-- a word with the place of the new cell
new_place : (cells : List ℕ) (v : ℕ) (old next new : ℕ → Bool)
    → ((p : ℕ) → old p ≡ eqb (get_or cells p 2) v) → ((p : ℕ) → next p ≡ eqb p (length cells))
    → v < 2
    → ((p : ℕ) → new p ≡ (old p || next p)) → (p : ℕ) → new p ≡ eqb (get_or (cells ++ v ∷ []) p 2) v
new_place cells v old next new is after small each p =
    grind (arith, common_steps, cases_Bool, cases_eq, eq-eqb, last_cell, more_cells, ne_eqb, or-false, or-true)

-- the other word stays
old_place : (cells : List ℕ) (x v : ℕ) (old : ℕ → Bool) → x < 2 → v < 2 → (x ≡ v → ⊥)
    → ((p : ℕ) → old p ≡ eqb (get_or cells p 2) v) → (p : ℕ)
    → old p ≡ eqb (get_or (cells ++ x ∷ []) p 2) v
old_place cells x v old few small other is p = grind (arith, common_steps, cases_Bool, cases_eq, get_or_past, last_cell, more_cells, ne_eqb)

-- the place after it
next_place : (cells : List ℕ) (x : ℕ) {n : ℕ} (next new : ℕ → Bool) → suc (length cells) < n → ((p : ℕ) → next p ≡ eqb p (length cells))
    → ((p : ℕ) → p < n → new p ≡ one_on next p) → ((p : ℕ) → n ≤ p → new p ≡ false) → (p : ℕ) → new p ≡ eqb p (length (cells ++ x ∷ []))
unfolding one_on
next_place cells x next new fits after within past p = grind (arith, common_steps, cases_Bool, cases_eq, cases_lt, eq-eqb, length-append, ne_eqb)

module _ (A : Type 0) {has : A → ℕ → Bool} {n : ℕ} {cells : List ℕ} {white black next new on : A}
    (s : IsSpelling has cells white black next) (fits : suc (length cells) < n)
    (within : (p : ℕ) → p < n → has on p ≡ one_on (has next) p) (past : (p : ℕ) → n ≤ p → has on p ≡ false) where
  pub spelling_black : ((p : ℕ) → has new p ≡ (has black p || has next p)) → IsSpelling has (cells ++ 1 ∷ []) white new on
  spelling_black each = record {
    whites = old_place cells 1 0 (has white) (omega arith) (omega arith) (λ e. absurd (omega arith)) s.whites;
    blacks = new_place cells 1 (has black) (has next) (has new) s.blacks s.nexts (omega arith) each;
    nexts = next_place cells 1 (has next) (has on) fits s.nexts within past;
  }

  pub spelling_white : ((p : ℕ) → has new p ≡ (has white p || has next p)) → IsSpelling has (cells ++ 0 ∷ []) new black on
  spelling_white each = record {
    whites = new_place cells 0 (has white) (has next) (has new) s.whites s.nexts (omega arith) each;
    blacks = old_place cells 0 1 (has black) (omega arith) (omega arith) (λ e. absurd (omega arith)) s.blacks;
    nexts = next_place cells 0 (has next) (has on) fits s.nexts within past;
  }

pub spelling_none : (A : Type 0) {has : A → ℕ → Bool} {white black next : A}
    → ((p : ℕ) → has white p ≡ false) → ((p : ℕ) → has black p ≡ false)
    → ((p : ℕ) → has next p ≡ eqb p 0)
    → IsSpelling has (spelled []) white black next
unfolding spelled
spelling_none A w b f = record { whites = w; blacks = b; nexts = f }

-- one more black cell of a run, and its white cell
pub one_more : (cells : List ℕ) (k : ℕ) → (cells ++ replicate k 1) ++ 1 ∷ [] ≡ cells ++ replicate (k + 1) 1
one_more cells k = append_assoc cells _ (1 ∷ []) ∙ ap (λ l. cells ++ l) (replicate-append-replicate k 1 1)

-- ---- the clue run by run
module _ (front clue : List ℕ) (k : ℕ) (lt : k < length clue) (so_far : front ++ spelled (drop k clue) ≡ spelled clue) where
  abbrev run : List ℕ
  run = replicate (get_or clue k 0) 1 ++ 0 ∷ []

  pub next_run : (front ++ run) ++ spelled (drop (k + 1) clue) ≡ spelled clue
  unfolding spelled
  next_run = simp append_assoc (sym (ap (λ l. front ++ spelled l) (drop_more clue k 0 lt)) ∙ so_far)

  pub run_fits : length front + get_or clue k 0 < used clue
  run_fits =
      let long = ap length next_run in let parts = length-append front run in
      let black = length-append {A = ℕ} (replicate (get_or clue k 0) 1) (0 ∷ []) in
      omega (arith, long, parts, black, length-append (front ++ run) (spelled (drop (k + 1) clue)), length-replicate {A = ℕ} (get_or clue k 0) 1, length-spelled clue)

-- ---- the track
pub track_spelled : {A : Type 0} {has : A → ℕ → Bool} {n : ℕ} {cells : List ℕ}
    {white black next stay on ends first back : A} → length cells < n
    → IsSpelling has cells white black next
    → ((p : ℕ) → p < n → has on p ≡ one_on (has white) p) → ((p : ℕ) → n ≤ p → has on p ≡ false)
    → ((p : ℕ) → has first p ≡ eqb p 0) → ((p : ℕ) → has stay p ≡ (has on p || has first p))
    → ((p : ℕ) → has back p ≡ has next (suc p)) → ((p : ℕ) → has ends p ≡ (has next p || has back p))
    → ◌≡◌ {A = Track} (record { stay = has stay; white = has white; black = has black; ends = has ends }) (track_of cells)
unfolding track_of may_stay one_on
track_spelled fits s within past one stay_is back_is ends_is =
    grind (arith, common_steps, cases_Bool, cases_lt, fun_ext, get_or_past, ne_eqb, or-false, or-true)

-- ---- the clue of a track
-- the cells after the first
from_next : (x : ℕ) (spell : List ℕ) (n p : ℕ) → cells_from (λ q. eqb (get_or (x ∷ spell) q 2) 1) n (suc p) ≡ cells_from (λ q. eqb (get_or spell q 2) 1) n p
unfolding cells_from
from_next x spell zero p = refl
from_next x spell (suc n) p = ap (λ l. cond (eqb (get_or spell p 2) 1) 1 0 ∷ l) (from_next x spell n (suc p))

all_white : (n p : ℕ) → runs_after 0 (cells_from (λ q. eqb (get_or [] q 2) 1) n p) ≡ []
unfolding cells_from runs_after
all_white zero p = refl
all_white (suc n) p = all_white n (suc p)

run_cells : (m n k : ℕ) (rest : List ℕ) → n ≡ m + suc k
    → cells_from (λ q. eqb (get_or (replicate m 1 ++ 0 ∷ rest) q 2) 1) n 0 ≡ replicate m 1 ++ 0 ∷ cells_from (λ q. eqb (get_or rest q 2) 1) k 0
unfolding cells_from
run_cells m zero k rest e = absurd (omega arith)
run_cells zero (suc n) k rest e = ap (λ l. 0 ∷ l)
    (from_next 0 rest n 0 ∙ ap (λ j. cells_from (λ q. eqb (get_or rest q 2) 1) j 0) (omega arith))
run_cells (suc m) (suc n) k rest e = ap (λ l. 1 ∷ l) (from_next 1 (replicate m 1 ++ 0 ∷ rest) n 0 ∙ run_cells m n k rest (omega arith))

spelled_runs : (clue : List ℕ) (n : ℕ) → ArePositive clue → used clue ≤ n
    → runs (cells_from (λ q. eqb (get_or (spelled clue) q 2) 1) n 0) ≡ clue
unfolding spelled
spelled_runs [] n positive fits = all_white n 0
spelled_runs (m ∷ clue) n positive fits =
    ap runs (run_cells m n (n - m - 1) (spelled clue) (omega arith)) ∙ run_first m _ positive.0
    ∙ ap (λ l. m ∷ l) (spelled_runs clue (n - m - 1) positive.1 (omega arith))

-- a clue is that of its track
pub clue_back : {clue : List ℕ} {n : ℕ} {t : Track} → ArePositive clue → used clue < n → t ≡ track_of (spelled clue) → clue_along n t ≡ clue
unfolding clue_along track_of
clue_back {clue} {n} positive fits is = ap (λ u. runs (cells_from u.black n 0)) is ∙ spelled_runs clue n positive (omega arith)

pub track_under : (n : ℕ) (t : Track) → IsTrack n t → IsBelow n t
track_under n t is = subst (IsBelow n) (sym is.spells) (track_below (spelled _) (omega (arith, is.fits, length-spelled (clue_along n t))))

pub track_of_clue : (clue : List ℕ) {n : ℕ} {t : Track} → ArePositive clue → used clue < n → t ≡ track_of (spelled clue) → IsTrack n t
track_of_clue clue positive fits is = grind (arith, common_steps, cases_Bool, clue_back)
