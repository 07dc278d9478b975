-- The open cells of a house, as they are taken from the least on.
use Rattle.std.proofs.lemmas.List.{take_more_set}
use Rattle.solo_core.proofs.Common.{List, [], and_parts, ap, arith, cases_Bool, cases_eq, cases_lt, eq-eqb, eqb, has_bit, inl, inr, length, length-append, ne_eqb, not, refl, slice_index, slice_set, suc, sym, take, take-length, take_more, true, true≢false, zero, ℕ, ◌&&◌, ◌++◌, ◌+◌, ◌<◌, ◌∙◌, ◌∷◌, ◌≡◌, ◌≤◌, if◌then◌else◌}
use Rattle.solo_core.specs.Bits.{NoneIsSet}
use Rattle.solo_core.specs.OpenHouses.{ListsBits, ListsBitsBelow}
use Rattle.solo_core.proofs.OpenLemmas.{listed-all, listed-next, listed-none}

-- the numbers below n whose bit is set
pub set_below : ℕ → ℕ → List ℕ
set_below bits zero = []
set_below bits (suc n) = if has_bit bits n then set_below bits n ++ n ∷ [] else set_below bits n

listed-skip : (bits n : ℕ) (list : List ℕ) → ListsBitsBelow bits n list → (has_bit bits n ≡ true → ⊥) → ListsBitsBelow bits (n + 1) list
listed-skip bits n list l off = record {
  set = l.set;
  below = λ t lt. omega (arith, l.below t lt);
  rising = l.rising;
  all = λ k on lt. elim (cases_eq k n) [ inl e ↦ absurd (off (rw e at on)) | inr ne ↦ l.all k on (omega arith) ];
}

next : (n : ℕ) → n + 1 ≡ suc n
next n = omega arith

listed-below : (bits n : ℕ) → ListsBitsBelow bits n (set_below bits n)
unfolding set_below
listed-below bits zero = listed-none bits
listed-below bits (suc n) = elim (cases_Bool (has_bit bits n)) [
  | inl on ↦ rw on (rw (next n) at (listed-next bits n (set_below bits n) (listed-below bits n) n (omega arith) on (λ v le lt. absurd (omega arith))))
  | inr off ↦ rw off (rw (next n) at (listed-skip bits n (set_below bits n) (listed-below bits n) (λ on. true≢false (sym on ∙ off))))
]

pub set_below-few : (bits n : ℕ) → length (set_below bits n) ≤ n
unfolding set_below
set_below-few bits zero = omega arith
set_below-few bits (suc n) = elim (cases_Bool (has_bit bits n)) [
  | inl on ↦ rw on (omega (arith, length-append (set_below bits n) (n ∷ []), set_below-few bits n))
  | inr off ↦ rw off (omega (arith, set_below-few bits n))
]

pub set_below-lists : (bits n : ℕ) → ((k : ℕ) → has_bit bits k ≡ true → k < n) → ListsBits bits (set_below bits n)
set_below-lists bits n within = listed-all bits n (set_below bits n) (listed-below bits n) n (λ v le lt. absurd (omega arith)) within

-- the first so many numbers of the list were taken, and stand in the other one; the later ones are left
pub record AreLeft (list : List ℕ) (count left : ℕ) (rest : List ℕ) : Type 0 where
  pub few : count ≤ length list
  pub taken : take count rest ≡ take count list
  pub inside : (k : ℕ) → has_bit left k ≡ true → (t : ℕ) × (count ≤ t) × (t < length list) × (slice_index list t ≡ k)
  pub all : (t : ℕ) → count ≤ t → t < length list → has_bit left (slice_index list t) ≡ true

module _ {bits : ℕ} {list : List ℕ} (l : ListsBits bits list) where
  pub left-first : (rest : List ℕ) → AreLeft list 0 bits rest
  left-first rest = record {
    few = omega arith;
    taken = refl;
    inside = λ k on. let w = l.all k on in (w.0, omega arith, w.1, w.2);
    all = λ t le lt. l.set t lt;
  }

  module _ {count left : ℕ} {rest : List ℕ} (a : AreLeft list count left rest) where
    pub left-in : (n : ℕ) → ((k : ℕ) → has_bit bits k ≡ true → k < n) → (k : ℕ) → has_bit left k ≡ true → k < n
    left-in n within k on = let w = a.inside k on in rw w.3 at (within _ (l.set w.0 w.2))

    -- the least that is left comes next
    pub left-next : (k : ℕ) → has_bit left k ≡ true → NoneIsSet left 0 k → (count < length list) × (k ≡ slice_index list count)
    left-next k on none =
        let w = a.inside k on in
        elim (cases_lt count w.0) [
          | inl before ↦ absurd (none (slice_index list count) (omega arith) (omega (arith, l.rising count w.0 before w.2, w.3)) (a.all count (omega arith) (omega (arith, w.2))))
          | inr upto ↦ let e : count ≡ w.0 = omega (arith, w.1) in (omega (arith, w.2), sym w.3 ∙ ap (slice_index list) (sym e))
        ]

    pub left-more : {k more : ℕ} → count < length list → k ≡ slice_index list count → count < length rest
        → ((j : ℕ) → has_bit more j ≡ (has_bit left j && not (eqb j k))) → AreLeft list (count + 1) more (slice_set rest count k)
    left-more {k} {more} lt is room bits = record {
      few = omega arith;
      taken = take_more_set rest count k room ∙ rw (a.taken, is) (sym (take_more list count 0 lt));
      inside = λ j on.
          let parts = and_parts (has_bit left j) _ (sym (bits j) ∙ on) in
          let w = a.inside j parts.0 in
          elim (cases_eq w.0 count) [
            | inl e ↦ absurd (let same = eq-eqb j k (sym w.3 ∙ ap (slice_index list) e ∙ sym is) in let z = parts.1 in true≢false (sym z ∙ ap not same))
            | inr later ↦ (w.0, omega (arith, w.1), w.2, w.3)
          ];
      all = λ t le low.
          let on = a.all t (omega arith) low in
          let off = ne_eqb (slice_index list t) k (λ e. absurd (omega (arith, l.rising count t (omega arith) low, is, e))) in
          bits (slice_index list t) ∙ rw (on, off) refl;
    }

    -- where no more is left, all were taken
    pub left-none : (n : ℕ) → ((t : ℕ) → t < length list → slice_index list t < n) → NoneIsSet left 0 n → (count ≡ length list) × (take count rest ≡ list)
    left-none n within none =
        let all : count ≡ length list = elim (cases_lt count (length list)) [
          | inl low ↦ absurd (none (slice_index list count) (omega arith) (within count low) (a.all count (omega arith) low))
          | inr high ↦ omega (arith, a.few)
        ] in
        (all, a.taken ∙ ap (λ n. take n list) all ∙ take-length list)
