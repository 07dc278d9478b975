-- The rules of Light Up, as count houses and as the test of a grid.
use Rattle.fields_core.proofs.Common.{AllByRecursion, AreDistinct, AreJoined, AreRight, Black, Bool, FailsLight, IsCounting, IsFromTo, IsGrid, IsKnown, IsLawful, IsLight, IsLightCell, IsLightFault, IsLightSolution, IsKindMade, TestKind, Light, LightCell, LightFault, List, NoneFails, Numbered, Option, Sees, SeesBulb, White, [], all_below-at, all_below-from, and_from, and_parts, any_below-here, any_below-some, ap, arith, black_right, bulb, bulb_right, bulbs_beside, cases_eq, cases_lt, column_house, column_run, common_steps, count-lawful, count_by-le-length, distinct-append, distinct-filter, div-mul-add, div-mul-le_self, eq-eqb, eqb, eqb-true, filter, get_or, has_place, has_place-here, inl, inr, is_some, joined_in_column, joined_in_row, known_tests, le-div, length, length-append, light_cells, light_column, light_houses, light_row, light_rules, light_tests, lit_house, lit_right, max, min, mod-lt, mod-mul-add, mul-le-mul_right, ne_eqb, none_held, none_tells, not, not-false, not-true, number_house, number_is, number_right, one_at_least, one_at_most, or_cases, or_left, or_parts, or_right, place-append, place-back, place-filter, place-front, place-kept, refl, right_none, row_house, row_run, seen_from, sees, sees_bulb, slice_index, solves_lights, steps, suc, sym, true, true≢false, white, zero, ℕ, ◌%◌, ◌&&◌, ◌*◌, ◌++◌, ◌+◌, ◌/◌, ◌<◌, ◌||◌, ◌∙◌, ◌∷◌, ◌≡◌, ◌≤◌}
use Rattle.fields_core.specs.declared.planes.light_up.waits.RunKind.{RunKind}
use Rattle.fields_core.specs.declared.planes.light_up.waits.RunKind.TheVariants.{Columns, Rows}
use Rattle.fields_core.specs.LightHouses.{numbered}
use Rattle.fields_core.proofs.LightHouseLaws.{IsMet, bulb-in, cell_on, clear-from, column-distinct, column-of, joined_on, line-both, line-end, line-parts, line-self, line-white, lit-from, lit-parts, met-from, own-cell, own_line, own_number, row-distinct, row-of, run_on, some-column, white-in}
use Rattle.fields_core.proofs.HouseLemmas.{all-append, all-at, all-houses, all-if, column-long, row-long}
use Rattle.fields_core.proofs.PlaceLists.{count-filter, count-one, count-some, filter-few}
use Rattle.fields_core.proofs.BesideLemmas.{steps-distinct, steps-few}
use Rattle.fields_core.specs.declared.light_up.fault.LightFault.TheVariants as fault

-- The count houses of Light Up keep to what every rule set of count houses keeps to.

-- what is used of a puzzle
pub record IsLightBoard (p : Light) : Type 0 where
  pub some : 0 < p.size.w
  pub w_few : p.size.w ≤ 256
  pub h_few : p.size.h ≤ 256
  pub long : length p.cells ≡ light_cells p
  pub number : (c n : ℕ) → get_or p.cells c Black ≡ Numbered n → n ≤ 4

-- bulbs stand on white cells
bulb-white : (p : Light) (g : List ℕ) → IsGrid (light_cells p) 2 g → solves_lights p g ≡ true → (d : ℕ) → bulb g d ≡ true → white p d ≡ true
unfolding black_right
bulb-white p g grid good d on =
    elim (or_cases _ _
    (all_below-at (black_right p g) (light_cells p) d (lit-parts p g good).black (bulb-in g d grid.each_cell on))) [
      | inl is ↦ is
      | inr none ↦ let a = eqb-true _ _ none in let b = eqb-true _ _ on in absurd (omega arith)
    ]

-- no bulb sees another
no-sight : (p : Light) {g : List ℕ} → IsGrid (light_cells p) 2 g → solves_lights p g ≡ true → (d e : ℕ) → bulb g d ≡ true → bulb g e ≡ true
    → (joined_in_row p d e || joined_in_column p d e) ≡ true → d ≡ e
unfolding bulb_right sees_bulb sees
no-sight p {g} grid good d e bd be joined = elim (cases_eq d e) [
  | inl same ↦ same
  | inr other ↦
      let seen =
      any_below-here (λ f. not (eqb d f) && (joined_in_row p d f || joined_in_column p d f) && eqb (slice_index g f) 1)
      (light_cells p) e (bulb-in g e grid.each_cell be)
      (and_from _ _ (and_from _ _ (ap not (ne_eqb _ _ other)) joined) be) in
      let right = all_below-at (bulb_right p g) (light_cells p) d (lit-parts p g good).seen (bulb-in g d grid.each_cell bd) in
      absurd (true≢false (sym (and_from _ _ bd seen) ∙ not-true _ right))
]

-- ---- the houses of numbers
number-kind : {p : Light} {c : ℕ} → IsLightBoard p → c < light_cells p → AllByRecursion (IsMet (light_cells p) (solves_lights p)) (number_house p c)
unfolding number_right
number-kind {p} {c} board lt = by _ refl
  where
    by : (cell : LightCell) → get_or p.cells c Black ≡ cell → AllByRecursion (IsMet (light_cells p) (solves_lights p))
        (numbered cell (filter (white p) (steps p.size c 4)))
    by White e = tt
    by Black e = tt
    by (Numbered n) e = (
      met-from
          (λ d on. white-in p d board.long (place-filter (white p) (steps p.size c 4) d on).1)
          (distinct-filter (white p) (steps p.size c 4) (steps-distinct p.size c 4 board.some (omega arith)))
          (let a = filter-few (white p) (steps p.size c 4) in let b = steps-few p.size c 4 in omega arith)
          (let f = board.number c n e in omega arith) (let f = board.number c n e in omega arith) (λ g grid good.
          let a = count-filter (bulb g) (white p) (steps p.size c 4) (bulb-white p g grid good) in
          let b = eqb-true (bulbs_beside p g c) n (rw e at (all_below-at (number_right p g) (light_cells p) c (lit-parts p g good).number lt)) in
          (omega arith, omega arith)),
      tt,
    )

-- ---- the houses of runs
pub line-run-joined : (p : Light) (kind : RunKind) (c d : ℕ) → has_place (run_on p kind c) d ≡ true → joined_on p kind c d ≡ true
unfolding row_run column_run
line-run-joined p Rows c d on = grind (arith, common_steps, place-filter)
line-run-joined p Columns c d on = grind (arith, common_steps, place-filter)

pub line-run-few : {p : Light} (kind : RunKind) (c : ℕ) → IsLightBoard p → length (run_on p kind c) ≤ 256
unfolding row_run column_run
line-run-few {p} Rows c board = grind (arith, common_steps, filter-few, row-long)
line-run-few {p} Columns c board = grind (arith, common_steps, filter-few, column-long)

line-run-distinct : {p : Light} (kind : RunKind) (c : ℕ) → IsLightBoard p → AreDistinct (run_on p kind c)
unfolding row_run column_run
line-run-distinct {p} Rows c board = distinct-filter _ _ (row-distinct p.size _)
line-run-distinct {p} Columns c board = distinct-filter _ _ (column-distinct p.size _ board.some)

joined-either : (p : Light) (kind : RunKind) (d e : ℕ) → joined_on p kind d e ≡ true → (joined_in_row p d e || joined_in_column p d e) ≡ true
joined-either p Rows d e on = or_left _ _ on
joined-either p Columns d e on = or_right _ _ on

-- cells of which each sees each hold one bulb at most
pub line-kind : (p : Light) (kind : RunKind) (c : ℕ) → IsLightBoard p → IsMet (light_cells p) (solves_lights p) (one_at_most (run_on p kind c))
line-kind p kind c board =
    let few = line-run-few kind c board in let distinct = line-run-distinct kind c board in
    met-from (λ d on. white-in p d board.long (line-end p kind c d (line-run-joined p kind c d on))) distinct (omega arith) (omega arith) (omega arith)
    (λ g grid good. (
      omega arith,
      count-one (bulb g) (run_on p kind c) distinct (λ d e md me bd be. no-sight p grid good d e bd be
          (joined-either p kind d e (line-both p kind c d e (line-run-joined p kind c d md) (line-run-joined p kind c e me)))),
    ))

-- ---- the houses of white cells
pub in-row-run : (p : Light) (c d : ℕ) → 0 < p.size.w → joined_in_row p c d ≡ true → has_place (row_run p c) d ≡ true
unfolding row_run
in-row-run p c d pos on = grind (arith, common_steps, row-of, place-kept, has_place-here, row-long)

pub in-column-run : (p : Light) (c : ℕ) {d : ℕ} → 0 < p.size.w → d < light_cells p → joined_in_column p c d ≡ true → has_place (column_run p c) d ≡ true
unfolding column_run
in-column-run p c pos lt on = grind (arith, common_steps, column-of, place-kept, has_place-here, column-long)

lit-kind : {p : Light} {c : ℕ} → IsLightBoard p → c < light_cells p → white p c ≡ true → IsMet (light_cells p) (solves_lights p) (one_at_least (seen_from p c))
unfolding seen_from lit_right sees_bulb sees
lit-kind {p} {c} board lt on = met-from
    (λ d m. elim (place-append (row_run p c) others d m) [
      | inl a ↦ (line-kind p Rows c board).is_house.within d a
      | inr b ↦ (line-kind p Columns c board).is_house.within d (place-filter (λ d. not (eqb d c)) (column_run p c) d b).0
    ])
    distinct few (omega arith) few
    (λ g grid good. let s = some-bulb grid good in (count-some (bulb g) _ s.0 s.1 s.2, count_by-le-length (bulb g) _))
  where
    others : List ℕ
    others = filter (λ d. not (eqb d c)) (column_run p c)

    few : length (row_run p c ++ filter (λ d. not (eqb d c)) (column_run p c)) ≤ 512
    few = let r = line-run-few Rows c board in let k = line-run-few Columns c board in let f = filter-few (λ d. not (eqb d c)) (column_run p c) in
        rw (length-append (row_run p c) others) (omega arith)

    -- a cell of the row and of the column is the cell itself
    apart : (d : ℕ) → has_place (row_run p c) d ≡ true → has_place (filter (λ d. not (eqb d c)) (column_run p c)) d ≡ true → ⊥
    apart d a b =
        let v = place-filter _ _ d b in let r = line-parts p Rows c d (line-run-joined p Rows c d a) in
        let q = line-parts p Columns c d (line-run-joined p Columns c d v.0) in
        let e = same-cell p.size.w (sym r.0) (sym q.0) in true≢false (sym (eq-eqb _ _ e) ∙ not-true _ v.1)
      where
        same-cell : (w : ℕ) → d / w ≡ c / w → d % w ≡ c % w → d ≡ c
        same-cell w x y = let f : d ≡ d / w * w + d % w = omega arith in let h : c ≡ c / w * w + c % w = omega arith in f ∙ rw (x, y) (sym h)

    distinct : AreDistinct (row_run p c ++ filter (λ d. not (eqb d c)) (column_run p c))
    distinct =
        distinct-append _ _
        (line-run-distinct Rows c board) (distinct-filter _ _ (line-run-distinct Columns c board)) apart

    some-bulb : {g : List ℕ} → IsGrid (light_cells p) 2 g → solves_lights p g ≡ true
        → (d : ℕ) × (has_place (row_run p c ++ filter (λ d. not (eqb d c)) (column_run p c)) d ≡ true) × (bulb g d ≡ true)
    some-bulb {g} grid good = elim (or_cases _ _ (all_below-at _ _ c (lit-parts p g good).lit lt)) [
      | inl black ↦ absurd (true≢false (sym on ∙ not-true _ black))
      | inr lit ↦ elim (or_cases _ _ lit) [
        | inl own ↦ (c, place-front _ _ c (in-row-run p c c board.some (line-self p Rows c on)), own)
        | inr seen ↦
            let w = any_below-some _ _ seen in let both = and_parts _ _ w.2 in
            let parts = and_parts _ _ both.0 in (
              w.0,
              elim (or_cases _ _ parts.1) [
                | inl row ↦ place-front _ _ w.0 (in-row-run p c w.0 board.some row)
                | inr column ↦ place-back _ _ w.0
                    (place-kept _ _ w.0 (in-column-run p c board.some w.1 column)
                    (ap not (ne_eqb w.0 c (λ e. true≢false (sym (eq-eqb _ _ (sym e)) ∙ not-true _ parts.0)))))
              ],
              both.1,
            )
      ]
    ]

each-met : (p : Light) → IsLightBoard p → AllByRecursion (IsMet (light_cells p) (solves_lights p)) (light_houses p)
unfolding light_houses
each-met p board =
    all-append _ _ _ (all-houses _ (number_house p) _ (λ c lt. number-kind board lt))
    (all-append _ _ _ (all-houses _ (row_house p) _ (λ c _. all-if _ (λ _. line-kind p Rows c board)))
    (all-append _ _ _ (all-houses _ (column_house p) _ (λ c _. all-if _ (λ _. line-kind p Columns c board)))
    (all-houses _ (lit_house p) _ (λ c lt. all-if _ (lit-kind board lt)))))

-- ---- a puzzle's board
number-few : (cells : List LightCell) (c n : ℕ) → AllByRecursion IsLightCell cells → get_or cells c Black ≡ Numbered n → n ≤ 4
number-few [] c n all e = cc
number-few (cell ∷ cells) zero n all e = rw e at all.0
number-few (cell ∷ cells) (suc c) n all e = number-few cells c n all.1 e

pub light-board : {p : Light} → IsLight p → IsLightBoard p
light-board is = grind (arith, common_steps, number-few)

pub light-counting : {p : Light} → IsLight p → IsCounting (light_cells p) (λ c. not (white p c)) (light_houses p) (solves_lights p)
unfolding black_right
light-counting {p} is = record {
  few_cells = let b = light-board is in omega (arith, mul-le-mul_right p.size.h b.w_few);
  are_houses = λ h lt. (all-at _ _ (each-met p (light-board is)) lt).is_house;
  blocked_zero =
      λ g grid good c lt blocked. elim (or_cases _ _
      (all_below-at _ _ c (lit-parts p g good).black lt)) [
        | inl on ↦ absurd (true≢false (sym on ∙ not-true _ blocked))
        | inr none ↦ eqb-true _ _ none
      ];
  meets_each = λ g grid good h lt. (all-at _ _ (each-met p (light-board is)) lt).met g grid good;
}

pub light-lawful : {p : Light} → IsLight p → IsLawful (light_rules p)
light-lawful is = count-lawful _ _ _ _ (light-counting is)

-- In Light Up the test of a solution is the rule.

-- ---- who sees whom
div-under : {a b w : ℕ} → 0 < w → a ≤ b → a / w ≤ b / w
div-under {a} {b} {w} pos le = le-div (a / w) b w pos (omega (arith, div-mul-le_self a w))

places-between : (p : Light) (kind : RunKind) (a b c : ℕ) → 0 < p.size.w → own_line p kind a ≡ own_line p kind b → own_line p kind c ≡ own_line p kind a
    → IsFromTo a b c → (min (own_number p kind a) (own_number p kind b) ≤ own_number p kind c) × (own_number p kind c ≤ max (own_number p kind a) (own_number p kind b))
places-between = grind (arith, common_steps, div-under)

line-seen : (p : Light) (kind : RunKind) (a b : ℕ) → 0 < p.size.w → joined_on p kind a b ≡ true → AreJoined p (own_line p kind) a b
line-seen p kind a b pos on = record {
  same_line = (line-parts p kind a b on).0;
  all_white = λ c same between.
      let inside = places-between p kind a b c pos (line-parts p kind a b on).0 same between in
      let here : cell_on p kind (own_line p kind a) (own_number p kind c) ≡ c = rw (sym same) (own-cell p kind c) in
      rw here at (line-white p kind a b on (own_number p kind c) inside.0 inside.1);
}

joined-row : (p : Light) (a b : ℕ) → 0 < p.size.w → AreJoined p (light_row p) a b → joined_in_row p a b ≡ true
unfolding joined_in_row
joined-row p a b pos is = grind (arith, common_steps, and_from, eq-eqb, clear-from, mod-lt, div-mul-add, cases_lt)

joined-column : (p : Light) (a b : ℕ) → 0 < p.size.w → AreJoined p (light_column p) a b → joined_in_column p a b ≡ true
unfolding joined_in_column
joined-column p a b pos is = and_from _ _ (eq-eqb _ _ is.same_line)
    (clear-from (λ y. white p _) _ _ (λ y low high.
    let here : a / p.size.w * p.size.w + a % p.size.w ≡ a = omega arith in
    let there : b / p.size.w * p.size.w + a % p.size.w ≡ b = rw is.same_line (omega arith) in
    is.all_white (y * p.size.w + a % p.size.w) (mod-mul-add y p.size.w _ (mod-lt a pos))
    (grind (arith, common_steps, cases_lt, mul-le-mul_right))))

sees-rule : (p : Light) (a b : ℕ) → 0 < p.size.w → sees p a b ≡ true → Sees p a b
unfolding sees
sees-rule p a b pos on =
    let v = and_parts _ _ on in
    (λ e. true≢false (sym (eq-eqb a b e) ∙ not-true _ v.0), elim (or_cases _ _ v.1) [ inl row ↦ inl (line-seen p Rows a b pos row) | inr column ↦ inr (line-seen p Columns a b pos column) ])

rule-sees : {p : Light} {a b : ℕ} → 0 < p.size.w → Sees p a b → sees p a b ≡ true
unfolding sees
rule-sees pos is = grind (arith, common_steps, and_from, ne_eqb, or_left, joined-row, or_right, joined-column)

bulb-rule : {p : Light} {g : List ℕ} {c : ℕ} → 0 < p.size.w → sees_bulb p g c ≡ true → SeesBulb p g c
unfolding sees_bulb
bulb-rule pos on = grind (arith, common_steps, any_below-some, and_parts, sees-rule)

rule-bulb : (p : Light) (g : List ℕ) (c : ℕ) → 0 < p.size.w → SeesBulb p g c → sees_bulb p g c ≡ true
unfolding sees_bulb
rule-bulb p g c pos is = any_below-here _ _ is.other is.within (and_from _ _ (rule-sees pos is.seen) is.has_bulb)

-- ---- the four rules
number-rule : {cell : LightCell} {bulbs : ℕ} (n : ℕ) → number_is cell bulbs ≡ true → cell ≡ Numbered n → bulbs ≡ n
number-rule {bulbs} n on e = eqb-true bulbs n (rw e at on)

not-alone : {on seen : Bool} → not (on && seen) ≡ true → on ≡ true → seen ≡ true → ⊥
not-alone right a b = grind (arith, common_steps)

pub rule-from-test : (p : Light) (g : List ℕ) → IsGrid (light_cells p) 2 g → solves_lights p g ≡ true → IsLightSolution p g
unfolding black_right number_right bulb_right lit_right
rule-from-test p g grid on =
    let parts = lit-parts p g on in
    record {
      grid = grid;
      none_on_black = λ c lt bulb_on. elim (or_cases _ _ (all_below-at (black_right p g) (light_cells p) c parts.black lt)) [
        | inl is ↦ is
        | inr zero_at ↦ let a = eqb-true _ _ zero_at in let b = eqb-true _ _ bulb_on in absurd (omega arith)
      ];
      numbers = λ c n lt e. number-rule n (all_below-at (number_right p g) (light_cells p) c parts.number lt) e;
      none_seen = λ c d lc ld on_c on_d is.
          not-alone (all_below-at (bulb_right p g) (light_cells p) c parts.seen lc) on_c
          (rule-bulb p g c (some-column p lc) (record { other = d; within = ld; has_bulb = on_d; seen = is }));
      all_lit = λ c lt is_white. elim (or_cases _ _ (all_below-at (lit_right p g) (light_cells p) c parts.lit lt)) [
        | inl black ↦ absurd (true≢false (sym is_white ∙ not-true _ black))
        | inr lit ↦ elim (or_cases _ _ lit) [ inl here ↦ inl here | inr seen ↦ inr (bulb-rule (some-column p lt) seen) ]
      ];
    }

-- ---- each test, as it is computed
module _ (p : Light) (g : List ℕ) where
  abbrev pub black : TestKind LightFault
  black = record { test = fault.Black; count = light_cells p; right = black_right p g }

  abbrev pub number : TestKind LightFault
  number = record { test = fault.Number; count = light_cells p; right = number_right p g }

  abbrev pub seen : TestKind LightFault
  seen = record { test = fault.Seen; count = light_cells p; right = bulb_right p g }

  abbrev pub dark : TestKind LightFault
  dark = record { test = fault.Dark; count = light_cells p; right = lit_right p g }

  abbrev pub kinds : List (TestKind LightFault)
  kinds = black ∷ number ∷ seen ∷ dark ∷ []

  module _ (grid : IsGrid (light_cells p) 2 g) where
    black-made : IsKindMade (FailsLight p g) black
    unfolding black_right
    black-made = grind (arith, common_steps, or_parts, cases_eq, eq-eqb, or_cases)

    number-made : IsKindMade (FailsLight p g) number
    unfolding number_right
    number-made = grind (arith, common_steps, number-rule, eq-eqb)

    seen-made : IsKindMade (FailsLight p g) seen
    unfolding bulb_right
    seen-made = grind (arith, common_steps, and_parts, not-false, bulb-rule, some-column, not-alone, rule-bulb)

    dark-made : IsKindMade (FailsLight p g) dark
    unfolding lit_right
    dark-made = grind (arith, common_steps, or_parts, not-false, rule-bulb, some-column, or_cases, not-true, bulb-rule)

    pub light-made : AllByRecursion (IsKindMade (FailsLight p g)) kinds
    light-made = (black-made, (number-made, (seen-made, (dark-made, tt))))

    none-right : AllByRecursion (AreRight (FailsLight p g)) kinds → solves_lights p g ≡ true
    none-right (a, (b, (c, (d, _)))) = lit-from p g (all_below-from _ _ a) (all_below-from _ _ b) (all_below-from _ _ c) (all_below-from _ _ d)

    -- no test fails a solution, and no other grid passes all
    pub light-none : IsLightSolution p g → NoneFails (FailsLight p g) (light_tests p)
    light-none s = none_held _ kinds (
      (λ c lt (on, off). true≢false (sym (s.none_on_black c lt on) ∙ off)),
      (
        (λ c lt (k, e, other). other (s.numbers c k lt e)),
        ((λ c lt (on, one). s.none_seen c one.other lt one.within on one.has_bulb one.seen), (lit, tt)),
      ),
    )
      where
        lit : (c : ℕ) → c < light_cells p → FailsLight p g (fault.Dark c) → ⊥
        lit c lt (is_white, off, unseen) = elim (s.all_lit c lt is_white) [ inl here ↦ true≢false (sym here ∙ off) | inr there ↦ unseen there ]

    pub test-from-rule : IsLightSolution p g → solves_lights p g ≡ true
    test-from-rule s = none-right (right_none (FailsLight p g) kinds light-made (light-none s))

    pub light-sound : NoneFails (FailsLight p g) (light_tests p) → IsLightSolution p g
    light-sound none = rule-from-test p g grid (none-right (right_none _ kinds light-made none))

    pub light-known : AllByRecursion (IsKnown (FailsLight p g)) (light_tests p)
    light-known = known_tests _ kinds light-made

    pub light-tells : (fault : Option LightFault) {told : Bool} → IsLightFault p g fault → is_some fault ≡ not told → told ≡ solves_lights p g
    light-tells fault {told} is e =
        none_tells _ _ light-none told _
        (rule-from-test p g grid) test-from-rule fault is e
