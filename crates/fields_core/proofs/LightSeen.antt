-- Light Up: the bulbs that a cell sees, and the next number that passes a test.
use Rattle.fields_core.proofs.Common.{Bool, IsAround, IsNext, IsTentAmong, Light, List, None, Option, RunsBack, RunsOn, SeesAlong, ShinesAlong, Some, and_from, and_parts, any_below-here, any_below-some, ap, arith, bulb, cases_eq, cases_lt, clear, common_steps, eq-eqb, eqb, eqb-false, false, false_from_ne_true, false≢true, inl, inr, is_some, joined_in_column, joined_in_row, light_cells, mod-lt, mul-add-lt, ne_eqb, not, not-false, not-true, or_cases, or_left, or_right, sees, sees_bulb, slice_index, sym, tent, true, true≢false, white, ℕ, ◌%◌, ◌&&◌, ◌*◌, ◌+◌, ◌-◌, ◌/◌, ◌<◌, ◌==◌, ◌||◌, ◌∙◌, ◌≡◌, ◌≢◌, ◌≤◌}
use Rattle.fields_core.proofs.LightHouseLaws.{clear-from, line-parts, line-start, mul-inj}
use Rattle.fields_core.proofs.RunLemmas.{around-joined, clear-same, column-cell-joined, row-cell-joined}
use Rattle.fields_core.proofs.BesideLemmas.{row-in}
use Rattle.fields_core.specs.declared.planes.light_up.waits.RunKind.TheVariants.{Columns, Rows}
use Rattle.std.specs.Option.{unwrap_or}

-- A cell sees a bulb exactly if a walk from it along its row or its column comes to one before a black cell.

-- ---- the run around a white cell
module _ (white bulb : ℕ → Bool) {len at start end : ℕ} (run : IsAround white len at start end) where
  pub run-bulb : {i : ℕ} → start ≤ i → i < end → i ≢ at → bulb i ≡ true → ShinesAlong white bulb at len true
  run-bulb {i} low high ne on = grind (arith, common_steps, clear-from)

  pub run-dark : ((i : ℕ) → start ≤ i → i < end → i ≢ at → bulb i ≡ false) → ShinesAlong white bulb at len false
  run-dark dark i lt ne joined = let here = around-joined run lt joined in dark i here.0 here.1 ne

-- ---- the line of a cell
whole : (c w : ℕ) → c ≡ c / w * w + c % w
whole c w = omega arith

-- a line of n cells, the cell's number in it, and what is joined to the cell
module _ (p : Light) (g : List ℕ) {c at n : ℕ} (first stride : ℕ) (joined : ℕ → ℕ → Bool)
    (inside : (k : ℕ) → k < n → first + k * stride < light_cells p) (own : (k : ℕ) → k ≢ at → first + k * stride ≢ c)
    (joins : (k : ℕ) → k < n → clear (λ i. white p (first + i * stride)) at k ≡ joined c (first + k * stride))
    (lies : (d : ℕ) → d < light_cells p → joined c d ≡ true → (k : ℕ) × (k < n) × (first + k * stride ≡ d)) (here : first + at * stride ≡ c) where
  line-sees : (b : Bool) → ShinesAlong (λ i. white p (first + i * stride)) (λ i. bulb g (first + i * stride)) at n b → SeesAlong joined (light_cells p) g c b
  line-sees true s = (first + s.0 * stride, inside s.0 s.1, own s.0 s.2, sym (joins s.0 s.1) ∙ s.3, s.4)
  line-sees false s = grind (arith, common_steps)

pub row-sees : (p : Light) (g : List ℕ) {c : ℕ} (b : Bool) → 0 < p.size.w → c < light_cells p
    → ShinesAlong (λ i. white p (c / p.size.w * p.size.w + i * 1)) (λ i. bulb g (c / p.size.w * p.size.w + i * 1)) (c % p.size.w) p.size.w b
    → SeesAlong (joined_in_row p) (light_cells p) g c b
row-sees p g {c} b some in_grid = line-sees p g (c / p.size.w * p.size.w) 1 (joined_in_row p)
    (λ k lt. rw (same k) (omega (arith, mul-add-lt (c / p.size.w) p.size.w k p.size.h (row-in {w = p.size.w} p.size.h c some in_grid) lt)))
    (λ k ne e. ne (omega (arith, whole c p.size.w, e)))
    (λ k lt. clear-same _ _ _ k (λ i. ap (white p) (same i)) ∙ sym (row-cell-joined p c lt) ∙ ap (joined_in_row p c) (sym (same k)))
    (λ d _ on. (d % p.size.w, mod-lt d some, same (d % p.size.w) ∙ rw (line-parts p Rows c d on).0 (sym (whole d p.size.w))))
    (same (c % p.size.w) ∙ sym (whole c p.size.w)) b
  where
    same : (i : ℕ) → c / p.size.w * p.size.w + i * 1 ≡ c / p.size.w * p.size.w + i
    same i = omega arith

pub column-sees : (p : Light) (g : List ℕ) (c : ℕ) (b : Bool) → 0 < p.size.w
    → ShinesAlong (λ i. white p (c % p.size.w + i * p.size.w)) (λ i. bulb g (c % p.size.w + i * p.size.w)) (c / p.size.w) p.size.h b
    → SeesAlong (joined_in_column p) (light_cells p) g c b
column-sees p g c b some = line-sees p g (c % p.size.w) p.size.w (joined_in_column p)
    (λ k lt. rw (same k) (omega (arith, mul-add-lt k p.size.w (c % p.size.w) p.size.h lt (mod-lt c some))))
    (λ k ne e. ne (mul-inj some (omega (arith, whole c p.size.w, e))))
    (λ k _. clear-same _ _ _ k (λ i. ap (white p) (same i)) ∙ sym (column-cell-joined p c k some) ∙ ap (joined_in_column p c) (sym (same k)))
    (λ d lt on. (d / p.size.w, row-in p.size.h d some lt, same (d / p.size.w) ∙ rw (line-parts p Columns c d on).0 (sym (whole d p.size.w))))
    (same (c / p.size.w) ∙ sym (whole c p.size.w)) b
  where
    same : (i : ℕ) → c % p.size.w + i * p.size.w ≡ i * p.size.w + c % p.size.w
    same i = omega arith

-- ---- both lines
swapped : (c d : ℕ) → d ≢ c → not (eqb c d) ≡ true
swapped c d off = ap not (ne_eqb c d (λ e. off (sym e)))

pub seen-there : (p : Light) (g : List ℕ) {c d : ℕ} → d < light_cells p → d ≢ c
    → (joined_in_row p c d || joined_in_column p c d) ≡ true → bulb g d ≡ true
    → sees_bulb p g c ≡ true
unfolding sees_bulb sees
seen-there p g {c} {d} lt off joined on =
    any_below-here (λ e. (not (eqb c e) && (joined_in_row p c e || joined_in_column p c e)) && eqb (slice_index g e) 1) (light_cells p) d lt
    (and_from _ _ (and_from _ _ (swapped c d off) joined) on)

pub seen-in-row : (p : Light) (g : List ℕ) (c : ℕ) → SeesAlong (joined_in_row p) (light_cells p) g c true → sees_bulb p g c ≡ true
seen-in-row p g c s = seen-there p g s.1 s.2 (or_left _ _ s.3) s.4

unseen : (p : Light) (g : List ℕ) (c : ℕ)
    → ((d : ℕ) → d < light_cells p → d ≢ c → (joined_in_row p c d || joined_in_column p c d) ≡ true
    → bulb g d ≡ false) → sees_bulb p g c ≡ false
unfolding sees_bulb sees
unseen p g c none = grind (arith, common_steps, false_from_ne_true, any_below-some, and_parts, eq-eqb, not-true)

pub seen-in-column : (p : Light) (g : List ℕ) (c : ℕ) (b : Bool) → SeesAlong (joined_in_row p) (light_cells p) g c false
    → SeesAlong (joined_in_column p) (light_cells p) g c b → b ≡ sees_bulb p g c
seen-in-column p g c true row s = sym (seen-there p g s.1 s.2 (or_right _ _ s.3) s.4)
seen-in-column p g c false row s = grind (arith, common_steps, unseen, or_cases)

-- a black cell sees none
pub black-unseen : (p : Light) (g : List ℕ) (c : ℕ) → white p c ≡ false → sees_bulb p g c ≡ false
black-unseen p g c off = unseen p g c (λ d lt ne joined. elim (or_cases _ _ joined) [
  | inl row ↦
      absurd (true≢false (sym (line-start p Rows c d row) ∙ off))
  | inr column ↦
      absurd (true≢false (sym (line-start p Columns c d column) ∙ off))
])

-- What the next number that passes a test tells of a line.

-- the first number after `at` that fails ends the run
pub run-on : (test : ℕ → Bool) (len at : ℕ) (found : Option ℕ) → at < len → IsNext (λ i. not (test i)) len (at + 1) found → RunsOn test len at (unwrap_or found len)
run-on test len at None lt next = grind (arith, common_steps, not-false)
run-on test len at (Some k) lt next = grind (arith, common_steps, not-false, not-true)

-- so many numbers before `at` pass, one after another
pub back-few : (test : ℕ → Bool) (at : ℕ) (found : Option ℕ) → IsNext (λ back. not (test (at - back - 1))) at 0 found → unwrap_or found at ≤ at
back-few test at None next = omega arith
back-few test at (Some k) next = omega (arith, next.1)

pub run-back : (test : ℕ → Bool) (at : ℕ) (found : Option ℕ) → IsNext (λ back. not (test (at - back - 1))) at 0 found → RunsBack test at (at - unwrap_or found at)
run-back test at None next = record {
  low = omega arith;
  pass = λ i low high. let e : at - (at - i - 1) - 1 ≡ i = omega arith in rw e at (not-false _ (next (at - i - 1) (omega arith) (omega arith)));
  edge = λ i e. absurd (omega (arith, e));
}
run-back test at (Some k) next = record {
  low = omega arith;
  pass = λ i low high. let e : at - (at - i - 1) - 1 ≡ i = omega arith in rw e at (not-false _ (next.3 (at - i - 1) (omega arith) (omega arith)));
  edge = λ i e. let f : at - k - 1 ≡ i = omega (arith, e, next.1) in rw f at (not-true _ next.2);
}

-- a bulb in the run around a number, but not there
pub shines-along : (white bulb : ℕ → Bool) {len at start end : ℕ} (found : Option ℕ) → IsAround white len at start end
    → IsNext (λ i. not (i == at) && bulb i) end start found → ShinesAlong white bulb at len (is_some found)
shines-along white bulb None run next = run-dark white bulb run (λ i low high ne. rw (ne_eqb _ _ ne) at (next i low high))
shines-along white bulb (Some k) run next = let parts = and_parts _ _ next.2 in run-bulb white bulb run next.0 next.1 (eqb-false k _ (not-true _ parts.0)) parts.1

pub tent-among : (g : List ℕ) (place from end : ℕ) (found : Option ℕ) → IsNext (λ d. not (d == place) && tent g d) end from found → IsTentAmong g place from end (is_some found)
tent-among g place from end None next = record { some = λ on. absurd (false≢true on); none = λ off d low high ne. rw (ne_eqb _ _ ne) at (next d low high) }
tent-among g place from end (Some k) next = grind (arith, common_steps, and_parts, eqb-false, not-true)

-- what ends a run on both sides of a white cell is around it
pub around-from : {test : ℕ → Bool} {len at start end : ℕ} → RunsBack test at start → RunsOn test len at end → test at ≡ true → IsAround test len at start end
around-from {test} {at} {start} {end} back on white = grind (arith, common_steps, cases_lt, cases_eq)
