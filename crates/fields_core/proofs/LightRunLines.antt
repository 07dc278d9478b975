-- The runs of one line, visited at once.
use Rattle.fields_core.proofs.Common.{AllByRecursion, AreAround, ArePlanesAlive, AreRunsOf, AreVisited, Bool, CountHouse, Extent, IsClash, IsFurther, IsHouse, IsLeast, IsRunOf, Layers, Line, List, [], and-false, and-true, and_from, and_parts, any_below, any_below-here, any_below-none, any_below-some, ap, arith, at_line, cases_Bool, cases_eq, cases_lt, common_steps, covers, crosses, distinct-from, eq-eqb, eqb, false, false_from_ne_true, false≢true, fun_ext, planes_have, has_bit, has_place, inl, inr, list_any, lt-ltb, ltb, ltb-true, ne_eqb, not, not-true, or_cases, or_left, or_right, refl, sym, true, true≢false, without_taking, ℕ, ◌%◌, ◌&&◌, ◌*◌, ◌/◌, ◌<◌, ◌||◌, ◌∙◌, ◌∷◌, ◌≡◌, ◌≢◌, ◌≤◌, ◌⊎◌}
use Rattle.fields_core.proofs.VisitLemmas.{IsBinaryAlive, IsOneAtMost, visited-dies, visited-left, visits-met, visits-two, zeros_of}
unfoldable use Rattle.fields_core.proofs.VisitLemmas.{is_met, without_met}
use Rattle.fields_core.proofs.PlaceLists.{any-here, any-some, count-one}
use Rattle.fields_core.proofs.CellLemmas.{same-truth}
use Rattle.fields_core.proofs.PartLemmas.{value-in}

-- ---- the numbers around marked ones, from the lowest on
-- those that are marked and not in the rest are done, and lower than the rest
pub record AreAroundDone (run : ℕ → ℕ) (room marked rest bits : ℕ) : Type 0 where
  pub inside : (k : ℕ) → has_bit rest k ≡ true → has_bit marked k ≡ true
  pub lower : (j k : ℕ) → has_bit marked j ≡ true → has_bit rest j ≡ false → has_bit rest k ≡ true → j < k
  pub is : (k : ℕ) → has_bit bits k ≡ any_below (λ j. (has_bit marked j && not (has_bit rest j)) && has_bit (run j) k) room
  pub apart : (j k : ℕ) → j < k → has_bit marked j ≡ true → has_bit rest j ≡ false → has_bit marked k ≡ true
      → has_bit (run j) k ≡ false

pub around-none : (run : ℕ → ℕ) (room marked bits : ℕ) → ((k : ℕ) → has_bit bits k ≡ false) → AreAroundDone run room marked marked bits
around-none run room marked bits none = grind (arith, common_steps, false_from_ne_true, any_below-some, and_parts, not-true)

module _ (run : ℕ → ℕ) (room marked rest bits at later more : ℕ) (done : AreAroundDone run room marked rest bits)
    (least : IsLeast (has_bit rest) room at)
    (marked_in : (k : ℕ) → has_bit marked k ≡ true → k < room)
    (later_is : (k : ℕ) → has_bit later k ≡ (has_bit rest k && not (eqb k at))) where
  -- another marked number in its run
  pub around-clash : (both : ℕ) → ((k : ℕ) → has_bit both k ≡ (has_bit later k && has_bit (run at) k)) → any_below (has_bit both) room ≡ true
      → IsClash run marked
  around-clash both both_is some = grind (arith, common_steps, any_below-some, and_parts, not-true, cases_lt, cases_eq, eq-eqb)

  pub around-more : (both : ℕ) → ((k : ℕ) → has_bit both k ≡ (has_bit later k && has_bit (run at) k)) → any_below (has_bit both) room ≡ false
      → ((k : ℕ) → has_bit more k ≡ (has_bit bits k || has_bit (run at) k)) → AreAroundDone run room marked later more
  around-more both both_is none more_is = record {
    inside = λ k on. done.inside k (and_parts _ _ (sym (later_is k) ∙ on)).0;
    lower = λ j k on off there. lower j k on (later-off j off) (and_parts _ _ (sym (later_is k) ∙ there));
    is = λ k. more_is k ∙ same-truth _ _ (to k) (back k);
    apart = λ j k less on off there. apart j k less on (later-off j off) there;
  }
    where
      later-off : (j : ℕ) → has_bit later j ≡ false → (j ≡ at) ⊎ (has_bit rest j ≡ false)
      later-off j off = grind (arith, common_steps, cases_eq, eqb, and-true, ne_eqb)

      lower : (j k : ℕ) → has_bit marked j ≡ true → (j ≡ at) ⊎ (has_bit rest j ≡ false)
          → (has_bit rest k ≡ true) × (not (eqb k at) ≡ true) → j < k
      lower j k on (inr off) there = done.lower j k on off there.0
      lower j k on (inl same) there = grind (arith, common_steps, cases_lt, true≢false, cases_eq, eq-eqb, not-true, eqb)

      apart : (j k : ℕ) → j < k → has_bit marked j ≡ true → (j ≡ at) ⊎ (has_bit rest j ≡ false) → has_bit marked k ≡ true
          → has_bit (run j) k ≡ false
      apart j k less on (inr off) there = done.apart j k less on off there
      apart j k less on (inl same) there = rw same (false_from_ne_true _ (λ in_run.
          let high : k ≢ at = λ e. absurd (omega arith) in
          let resting : has_bit rest k ≡ true = (elim (cases_Bool (has_bit rest k)) [
            | inl still ↦ still
            | inr off ↦ let below = done.lower k at there off least.has in absurd (omega arith)
          ]) in
          let late = later_is k ∙ and_from _ _ resting (ap not (ne_eqb k at high)) in
          true≢false (sym (both_is k ∙ and_from _ _ late in_run) ∙ any_below-none (has_bit both) room none k (marked_in k there))))

      to : (k : ℕ) → (has_bit bits k || has_bit (run at) k) ≡ true
          → any_below (λ j. (has_bit marked j && not (has_bit later j)) && has_bit (run j) k) room ≡ true
      to k on = elim (or_cases (has_bit bits k) (has_bit (run at) k) on) [
        | inl old ↦
            let w = any_below-some (λ j. (has_bit marked j && not (has_bit rest j)) && has_bit (run j) k) room (sym (done.is k) ∙ old) in
            let parts = and_parts _ _ w.2 in let own = and_parts _ _ parts.0 in
            let gone : has_bit later w.0 ≡ false = later_is w.0 ∙ rw (not-true (has_bit rest w.0) own.1) refl in
            any_below-here (λ j. (has_bit marked j && not (has_bit later j)) && has_bit (run j) k) room w.0 w.1
            (and_from _ _ (and_from _ _ own.0 (ap not gone)) parts.1)
        | inr new ↦
            let gone : has_bit later at ≡ false = later_is at ∙ rw (eq-eqb at at refl) (and-false (has_bit rest at)) in
            any_below-here (λ j. (has_bit marked j && not (has_bit later j)) && has_bit (run j) k) room at least.within
            (and_from _ _ (and_from _ _ (done.inside at least.has) (ap not gone)) new)
      ]

      back : (k : ℕ) → any_below (λ j. (has_bit marked j && not (has_bit later j)) && has_bit (run j) k) room ≡ true
          → (has_bit bits k || has_bit (run at) k) ≡ true
      back k on =
          let w = any_below-some (λ j. (has_bit marked j && not (has_bit later j)) && has_bit (run j) k) room on in
          let parts = and_parts _ _ w.2 in let own = and_parts _ _ parts.0 in
          elim (later-off w.0 (not-true (has_bit later w.0) own.1)) [
            | inl here ↦ or_right _ _ (ap (λ j. has_bit (run j) k) (sym here) ∙ parts.1)
            | inr off ↦ or_left _ _
                (done.is k ∙ any_below-here (λ j. (has_bit marked j && not (has_bit rest j)) && has_bit (run j) k) room w.0 w.1
                (and_from _ _ (and_from _ _ own.0 (ap not off)) parts.1))
          ]

pub around-all : {run : ℕ → ℕ} {room marked rest bits : ℕ} → AreAroundDone run room marked rest bits
    → ((k : ℕ) → has_bit marked k ≡ true → k < room) → any_below (has_bit rest) room ≡ false → AreAround run room marked bits
around-all {run} {room} {marked} {rest} done marked_in none = record {
  is = λ k. done.is k ∙ same-truth _ _
      (λ on.
      let w = any_below-some (λ j. (has_bit marked j && not (has_bit rest j)) && has_bit (run j) k) room on in
      let parts = and_parts (has_bit marked w.0 && not (has_bit rest w.0)) (has_bit (run w.0) k) w.2 in
      let own = and_parts (has_bit marked w.0) (not (has_bit rest w.0)) parts.0 in
      any_below-here (λ j. has_bit marked j && has_bit (run j) k) room w.0 w.1 (and_from _ _ own.0 parts.1))
      (λ on.
      let w = any_below-some (λ j. has_bit marked j && has_bit (run j) k) room on in let parts = and_parts _ _ w.2 in
      any_below-here (λ j. (has_bit marked j && not (has_bit rest j)) && has_bit (run j) k) room w.0 w.1
      (and_from _ _ (and_from _ _ parts.0 (ap not (off w.0 parts.0))) parts.1));
  apart = λ j k less on there. done.apart j k less on (off j on) there;
}
  where
    off : (j : ℕ) → has_bit marked j ≡ true → has_bit rest j ≡ false
    off j on = any_below-none (has_bit rest) room none j (marked_in j on)

-- ---- houses of a list
-- one that passes
pub some-of : (P : CountHouse → Type 0) (test : CountHouse → Bool) (houses : List CountHouse) → AllByRecursion P houses
    → list_any test houses ≡ true → (house : CountHouse) × P house × (test house ≡ true)
some-of P test [] all on = absurd (false≢true on)
some-of P test (house ∷ houses) (is, all) on = elim (or_cases _ _ on) [
  | inl here ↦ (house, is, here)
  | inr more ↦ some-of P test houses all more
]

-- what passes one test passes another
pub any-more : (test other : CountHouse → Bool) (houses : List CountHouse) → ((house : CountHouse) → test house ≡ true → other house ≡ true)
    → list_any test houses ≡ true → list_any other houses ≡ true
any-more test other [] more on = on
any-more test other (house ∷ houses) more on = elim (or_cases _ _ on) [
  | inl here ↦ or_left _ _ (more house here)
  | inr rest ↦ or_right _ _ (any-more test other houses more rest)
]

pub each-more : (P Q : CountHouse → Type 0) (houses : List CountHouse) → ((house : CountHouse) → P house → Q house)
    → AllByRecursion P houses → AllByRecursion Q houses
each-more P Q [] more all = tt
each-more P Q (house ∷ houses) more (is, all) = (more house is, each-more P Q houses more all)

module _ (size : Extent) (line : Line) (n room : ℕ) (cell : ℕ → ℕ) (joined : ℕ → ℕ → Bool) (houses : List CountHouse)
    (are : AreRunsOf size line n cell joined houses) (from : Layers) (same_size : from.size ≡ size) (alive : ArePlanesAlive from)
    (must : ℕ) (run : ℕ → ℕ) (fits : n ≤ room)
    (must_is : (k : ℕ) → has_bit must k ≡ (ltb k n && not (at_line from line 0 k)))
    (run_is : (j k : ℕ) → j < n → has_bit (run j) k ≡ (ltb k n && joined j k)) where
  abbrev cells : ℕ
  cells = size.w * size.h

  abbrev zeros : ℕ → Bool
  zeros = zeros_of (planes_have from)

  must-at : (k : ℕ) → has_bit must k ≡ true → (k < n) × (zeros (cell k) ≡ false)
  must-at k on = grind (arith, common_steps, and_parts, ltb-true, not-true)

  must-from : {k : ℕ} → k < n → zeros (cell k) ≡ false → has_bit must k ≡ true
  must-from {k} lt off = must_is k ∙ and_from _ _ (lt-ltb _ _ lt) (ap not (are.values from 0 k same_size (omega arith) lt ∙ off))

  -- ---- two in one run
  pub runs-clash : IsClash run must → AreVisited houses from from false
  runs-clash clash =
      let inside : (j k : ℕ) → j < n → k < n → joined j k ≡ true → cell j < cells = λ j k lj lk on. grind (arith, common_steps, some-of, and_parts) in
      let one = must-at clash.one clash.one_marked in let other = must-at clash.other clash.other_marked in
      let both = and_parts _ _ (sym (run_is clash.one clash.other one.0) ∙ clash.same) in let after = clash.after in
      visited-dies (cell clash.one) (rw same_size (inside clash.one clash.other one.0 other.0 both.1))
      (λ v low. visits-two cells houses (planes_have from) (cell clash.one) (cell clash.other) v
      (each-more (IsRunOf cells n cell joined) (λ house. IsHouse cells house × (house.most ≡ 1)) houses (λ house is. (is.is, is.most_is)) are.each)
      (λ e. let same = are.own clash.one clash.other one.0 other.0 e in absurd (omega arith))
      (are.some clash.one clash.other one.0 other.0 both.1) one.1 other.1 low) alive

  -- ---- no two: what is around is taken
  pub runs-met : {around : ℕ} (taken : ℕ) {to : Layers} → AreAround run room must around
      → ((k : ℕ) → has_bit taken k ≡ (has_bit around k && at_line from line 0 k))
      → planes_have to ≡ without_taking from.size.w (planes_have from) (record { line = line; value = 1; bits = taken }) → IsFurther from to
      → AreVisited houses from to true
  unfolding without_taking covers without_met is_met
  runs-met {around} taken {to} is taken_is left further =
      let full : IsBinaryAlive cells (planes_have from) = record { low = value-in from; some = λ c lt. alive c (rw same_size lt) } in
      visited-left (met ∙ sym (visits-met houses (planes_have from) full each)) (λ c lt. living c (alive c (rw (further.same_size) at lt))) further
    where
      -- two that must be ones are in no house
      apart : (j k : ℕ) → j < n → k < n → zeros (cell j) ≡ false → zeros (cell k) ≡ false → joined j k ≡ true → j < k → ⊥
      apart j k lj lk off_j off_k on less =
          true≢false (sym (run_is j k lj ∙ and_from _ _ (lt-ltb _ _ lk) on) ∙ is.apart j k less (must-from lj off_j) (must-from lk off_k))

      alone : (house : CountHouse) → IsRunOf cells n cell joined house → (c d : ℕ) → has_place house.places c ≡ true
          → has_place house.places d ≡ true → not (zeros c) ≡ true → not (zeros d) ≡ true → c ≡ d
      alone house of c d in_c in_d on_c on_d =
          let w = of.joins c d in_c in_d in let v = of.joins d c in_d in_c in
          let off_c = not-true _ on_c in let off_d = not-true _ on_d in
          elim (cases_lt w.0 w.1) [
            | inl less ↦ absurd (apart w.0 w.1 w.2 w.3 (ap zeros w.4 ∙ off_c) (ap zeros w.5 ∙ off_d) w.6 less)
            | inr more ↦ grind (arith, common_steps, cases_eq, apart)
          ]

      each : AllByRecursion (IsOneAtMost cells zeros) houses
      each = each-more (IsRunOf cells n cell joined) (IsOneAtMost cells zeros) houses (λ house of. record {
        is = of.is;
        least_is = of.least_is;
        most_is = of.most_is;
        few = count-one (λ d. not (zeros d)) house.places (distinct-from house.places of.is.different) (alone house of);
      }) are.each

      -- what is taken from is met by a house
      to-house : (c : ℕ) → crosses line taken (c / size.w) (c % size.w) ≡ true
          → (zeros c ≡ true) × (list_any (λ house. is_met zeros house c) houses ≡ true)
      to-house c on = grind (arith, common_steps, and_parts, any_below-some, must-at, ltb-true, any-more, and_from, any-here)

      from-house : (c : ℕ) → zeros c ≡ true → list_any (λ house. is_met zeros house c) houses ≡ true
          → crosses line taken (c / size.w) (c % size.w) ≡ true
      from-house c has_zero on =
          let w = some-of (IsRunOf cells n cell joined) (λ house. is_met zeros house c) houses are.each on in
          let parts = and_parts _ _ w.2 in let d = any-some (λ d. not (zeros d)) w.0.places parts.1 in
          let v = w.1.joins d.0 c d.1 parts.0 in let marked = must-from v.2 (ap zeros v.4 ∙ not-true _ d.2) in
          let here : (has_bit must v.0 && has_bit (run v.0) v.1) ≡ true =
          and_from _ _ marked (run_is v.0 v.1 v.2 ∙ and_from _ _ (lt-ltb _ _ v.3) v.6) in
          let lies : has_bit around v.1 ≡ true = is.is v.1 ∙ any_below-here (λ j. has_bit must j && has_bit (run j) v.1) room v.0 (omega (arith, v.2)) here in
          let zero : at_line from line 0 v.1 ≡ true = are.values from 0 v.1 same_size (omega arith) v.3 ∙ ap zeros v.5 ∙ has_zero in
          rw v.5 at (are.from_cell taken v.1 v.3 (taken_is v.1 ∙ and_from _ _ lies zero))

      hits : (c : ℕ) → crosses line taken (c / size.w) (c % size.w) ≡ (zeros c && list_any (λ house. is_met zeros house c) houses)
      hits c = same-truth _ _ (λ on. let w = to-house c on in and_from _ _ w.0 w.1) (λ on. let w = and_parts _ _ on in from-house c w.0 w.1)

      width : from.size.w ≡ size.w
      width = ap (λ (s : Extent). s.w) same_size

      met : planes_have to ≡ without_met houses (planes_have from)
      met = left ∙ fun_ext λ c. fun_ext λ v. ap (λ (b : Bool). planes_have from c v && not (eqb v 1 && b)) (ap (λ k. crosses line taken (c / k) (c % k)) width ∙ hits c)

      living : (c : ℕ) → (planes_have from c 0 ≡ true) ⊎ (planes_have from c 1 ≡ true) → (planes_have to c 0 ≡ true) ⊎ (planes_have to c 1 ≡ true)
      living c some = by (list_any (λ house. is_met zeros house c) houses) (ap (λ (L : ℕ → ℕ → Bool). L c 0) met) (ap (λ (L : ℕ → ℕ → Bool). L c 1) met) some
        where
          by : (any : Bool) → planes_have to c 0 ≡ (planes_have from c 0 && not (false && (planes_have from c 0 && any)))
              → planes_have to c 1 ≡ (planes_have from c 1 && not (true && (planes_have from c 0 && any)))
              → (planes_have from c 0 ≡ true) ⊎ (planes_have from c 1 ≡ true) → (planes_have to c 0 ≡ true) ⊎ (planes_have to c 1 ≡ true)
          by any zero one some = grind (arith, common_steps, cases_Bool (planes_have from c 0), cases_Bool (planes_have from c 1), cases_Bool any)
