-- Lines whose cells have one value at most: one way along the clue tells what is kept.
use Rattle.pattern_core.proofs.Common.{AreRowsKept, Bool, List, Track, [], and_from, and_parts, any_below, any_below-same, any_cells, ap, arith, cases_Bool, cases_eq, cell_is, common_steps, drop, drop_all, eq-eqb, eqb-true, false, get_or, get_or-map, has_bit, length, length-map, refl, set_of_bits, sets_by, sets_of, some_leads, subst, suc, sym, true, true≢false, zero, ℕ, ◌&&◌, ◌<◌, ◌∙◌, ◌≡◌, ◌≤◌}
use Rattle.engine_core.specs.Filling.{Fills, has_value}
use Rattle.engine_core.specs.FillingLaws.{filling_from_test, has_value_below, test_from_filling}
use Rattle.pattern_core.proofs.LineWords.{length-sets, sets-bit, word_of}
use Rattle.pattern_core.proofs.SpelledRuns.{same_tests}
use Rattle.pattern_core.proofs.TableSteps.{AreReached, leads_end}

-- whether the places reached by all cells have an end
met-is : {n at : ℕ} {t : Track} {sets : List ℕ} {reached both : ℕ → Bool} → AreReached n t sets reached at → length sets ≤ at
    → ((p : ℕ) → both p ≡ (reached p && t.ends p)) → any_below both n ≡ some_leads t (sets_of sets) any_cells 0
unfolding any_cells
met-is {n} {at} {t} {sets} {reached} {both} r all is =
    any_below-same both (λ p. reached p && some_leads t (drop at (sets_of sets)) any_cells p) n
    (λ p low. is p ∙ ap (λ x. reached p && x) (sym (leads_end t p)
    ∙ ap (λ s. some_leads t s any_cells p) (sym (drop_all at (sets_of sets) (omega (arith, all, length-map sets (set_of_bits 2)))))))
    ∙ r.shown any_cells

-- a set of one value at most
one-value : (set u v : ℕ) → (has_bit set 0 && has_bit set 1) ≡ false → u < 2 → v < 2 → has_bit set u ≡ true → has_bit set v ≡ true → u ≡ v
one-value set u v one lu lv on has = grind (arith, common_steps, cases_eq, true≢false)

value-of : (set v : ℕ) → v < 2 → has_value (set_of_bits 2 set) v ≡ has_bit set v
unfolding set_of_bits
value-of set zero low = refl
value-of set (suc zero) low = refl
value-of set (suc (suc v)) low = absurd (omega arith)

filled : (sets : List ℕ) (k : ℕ) → k < length sets → (filling : List ℕ) → Fills (sets_of sets) filling
    → (get_or filling k 0 < 2) × (has_bit (get_or sets k 0) (get_or filling k 0) ≡ true)
unfolding set_of_bits
filled sets k lt filling f =
    let has = ap (λ s. has_value s (get_or filling k 0)) (sym (get_or-map (set_of_bits 2) sets k 0 [] lt)) ∙ f.each k (omega (arith, length-map sets (set_of_bits 2))) in
    let low = has_value_below (set_of_bits 2 (get_or sets k 0)) (get_or filling k 0) has in
    (low, sym (value-of (get_or sets k 0) (get_or filling k 0) low) ∙ has)

shown-settled : (t : Track) (sets : List ℕ) (k v : ℕ) → k < length sets → v < 2 → (has_bit (get_or sets k 0) 0 && has_bit (get_or sets k 0) 1) ≡ false
    → some_leads t (sets_of sets) (cell_is k v) 0 ≡ (has_bit (get_or sets k 0) v && some_leads t (sets_of sets) any_cells 0)
unfolding some_leads cell_is any_cells
shown-settled t sets k v lt low one = same_tests _ _
    (λ on.
    let w = filling_from_test (sets_of sets) _ on in let parts = and_parts _ _ w.2 in
    let e = eqb-true _ _ parts.1 in
    and_from _ _ (subst (λ u. has_bit (get_or sets k 0) u ≡ true) e (filled sets k lt w.0 w.1).1)
    (test_from_filling (sets_of sets) _ w.0 w.1 (and_from _ _ parts.0 refl)))
    (λ on.
    let both = and_parts _ _ on in
    let w = filling_from_test (sets_of sets) _ both.1 in let parts = and_parts _ _ w.2 in
    let e = one-value (get_or sets k 0) _ v one (filled sets k lt w.0 w.1).0 low (filled sets k lt w.0 w.1).1 both.0 in
    test_from_filling (sets_of sets) _ w.0 w.1 (and_from _ _ parts.0 (eq-eqb _ _ e)))

-- so all is kept, or nothing
pub settled-kept : (white black count white' black' : ℕ) {n at : ℕ} {t : Track} {met : Bool} {reached both : ℕ → Bool} → AreReached n t (sets_by white black count) reached at → count ≤ at → ((p : ℕ) → both p ≡ (reached p && t.ends p)) → met ≡ any_below both n
    → ((k : ℕ) → k < count → (has_bit white k && has_bit black k) ≡ false)
    → ((k : ℕ) → has_bit white' k ≡ (has_bit white k && met)) → ((k : ℕ) → has_bit black' k ≡ (has_bit black k && met))
    → AreRowsKept t (sets_by white black count) (sets_by white' black' count)
settled-kept white black count white' black' {t} {met} r all ends is one is_white is_black = record {
  as_many = length-sets white' black' count ∙ sym (length-sets white black count);
  bits = λ k v lt low.
      let less : k < count = omega (arith, length-sets white black count) in
      let here : (has_bit (get_or (sets_by white black count) k 0) 0 && has_bit (get_or (sets_by white black count) k 0) 1) ≡ false
      = rw (sets-bit white black count k 0 less (omega arith), sets-bit white black count k 1 less (omega arith)) (one k less) in
      rw (shown-settled t (sets_by white black count) k v lt low here, ← (is ∙ met-is r (omega (arith, all, length-sets white black count)) ends), sets-bit white' black' count k v less low, sets-bit white black count k v less low) (each k v less low);
}
  where
    each : (k v : ℕ) → k < count → v < 2 → has_bit (word_of white' black' v) k
        ≡ (has_bit (word_of white black v) k && (has_bit (word_of white black v) k && met))
    each k zero lt low = is_white k ∙ grind (arith, common_steps, cases_Bool (has_bit white k))
    each k (suc zero) lt low = is_black k ∙ grind (arith, common_steps, cases_Bool (has_bit black k))
    each k (suc (suc v)) lt low = absurd (omega arith)
