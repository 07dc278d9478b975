-- What a mark gives back, and what was taken, noted at the end of a trail and put back from its end.
use Rattle.grid_core.proofs.Common.{AreTakings, Candidates, Extent, IsInside, IsTakingIn, List, Taking, add-one, and_parts, any_below, ap, arith, cases_Bool, cases_eq, covers, crosses, differ, eqb-true, false, common_steps, get_or-set_other, get_or-set_same, inl, inr, le-leb, length, length-set, lt-leb, no_taking, put_back, refl, set, suc, sym, taking_at, total, true, true≢false, turned_by, with_first, zero, ℕ, ◌%◌, ◌&&◌, ◌*◌, ◌+◌, ◌-◌, ◌/◌, ◌<◌, ◌∙◌, ◌≡◌, ◌≤◌}
use Rattle.std.specs.Prelude.{slice_index_or}
use Rattle.std.proofs.lemmas.Bool.{leb-true}
use Rattle.std.proofs.Math.Dec.{leb}
use Rattle.grid_core.proofs.BoardLemmas.{any_below-none, any_below-some}

-- the board before the steps of any kind from a number on
module _ {S : Type 0} (back : Candidates → S → Candidates) (none : S) where
  pub put_back-none : (K : Candidates) (steps : List S) (m n : ℕ) → n ≤ m → put_back back none K steps m n ≡ K
  unfolding put_back
  put_back-none K steps m zero le = refl
  put_back-none K steps m (suc n) le = rw (lt-leb m n (omega arith)) refl

  pub put_back-last : (K : Candidates) (steps : List S) (m n : ℕ) → m ≤ n
      → put_back back none K steps m (n + 1) ≡ put_back back none (back K (slice_index_or steps n none)) steps m n
  unfolding put_back
  put_back-last K steps m n le = rw (add-one, le-leb m n le) refl

  -- what is written past the trail's end does not count
  put_back-past : (K : Candidates) (steps : List S) (l m n : ℕ) (t : S) → m ≤ n
      → put_back back none K (set steps n t) l m ≡ put_back back none K steps l m
  unfolding put_back
  put_back-past K steps l zero n t le = refl
  put_back-past K steps l (suc m) n t le =
      grind (arith, common_steps, get_or-set_other, put_back-past (back K (slice_index_or steps m none)) steps l m n t)

  -- what is noted gives back what was before it
  pub put_back-noted : (K L : Candidates) (steps : List S) (m n : ℕ) (t : S) → m ≤ n → n < length steps → back L t ≡ K
      → put_back back none L (set steps n t) m (n + 1) ≡ put_back back none K steps m n
  put_back-noted K L steps m n t le lt same = grind (arith, put_back-last, set, get_or-set_same, put_back-past)

  pub put_back-undone : (K : Candidates) (steps : List S) (m n : ℕ) → m < n
      → put_back back none (back K (slice_index_or steps (n - 1) none)) steps m (n - 1) ≡ put_back back none K steps m n
  put_back-undone K steps m n lt = let e : n - 1 + 1 ≡ n = omega arith in
      sym (put_back-last K steps m (n - 1) (omega arith)) ∙ ap (put_back back none K steps m) e

-- ---- the trail stays in order
pub takings-none : (size : Extent) (K : Candidates) (takings : List Taking)
    → size.w * size.h * 2 ≤ length takings → total (size.w * size.h) 2 K ≤ size.w * size.h * 2
    → AreTakings size K takings 0
takings-none size K takings long few = record {
  long = long;
  takings_in = λ k lt. absurd (omega arith);
  room = λ m le. rw (put_back-none (turned_by size.w) no_taking K takings m 0 (omega arith)) (omega arith);
  falls = λ m n le lt. rw (put_back-none (turned_by size.w) no_taking K takings m 0 (omega arith), put_back-none (turned_by size.w) no_taking K takings n 0 (omega arith)) (λ c v on. on);
}

pub takings-len : (size : Extent) (K : Candidates) (takings : List Taking) (n : ℕ) → AreTakings size K takings n → n ≤ length takings
takings-len size K takings n t = let room = t.room n (omega arith) in omega arith

pub takings-room : (size : Extent) (K L : Candidates) (takings : List Taking) (n : ℕ)
    → AreTakings size K takings n → total (size.w * size.h) 2 L < total (size.w * size.h) 2 K
    → n < length takings
takings-room size K L takings n t fewer = let room = rw (put_back-none (turned_by size.w) no_taking K takings n n (omega arith)) at (t.room n (omega arith)) in omega arith

pub takings-noted : (size : Extent) (K L : Candidates) (takings : List Taking) (n : ℕ) (t : Taking)
    → AreTakings size K takings n → total (size.w * size.h) 2 L < total (size.w * size.h) 2 K → IsInside L K
    → IsTakingIn size t → turned_by size.w L t ≡ K → AreTakings size L (set takings n t) (n + 1)
takings-noted size K L takings n t are fewer inside within back =
    let lt = takings-room size K L takings n are fewer in
    record {
      long = rw (length-set takings n t) are.long;
      takings_in = λ k less. grind (arith, common_steps, cases_eq k n, get_or-set_same, get_or-set_other, are.takings_in k);
      room = λ m le. elim (cases_eq m (n + 1)) [
        | inl e ↦ rw (put_back-none (turned_by size.w) no_taking L (set takings n t) m (n + 1) (omega arith), length-set takings n t)
            (let room = rw (put_back-none (turned_by size.w) no_taking K takings n n (omega arith)) at (are.room n (omega arith)) in omega arith)
        | inr ne ↦ rw (put_back-noted (turned_by size.w) no_taking K L takings m n t (omega arith) lt back, length-set takings n t) (are.room m (omega arith))
      ];
      falls = λ m k le least. elim (cases_eq m (n + 1)) [
        | inl e ↦ let same : k ≡ m = omega arith in rw same (λ c v on. on)
        | inr ne ↦ rw (put_back-noted (turned_by size.w) no_taking K L takings m n t (omega arith) lt back) (elim (cases_eq k (n + 1)) [
          | inl e ↦ rw (put_back-none (turned_by size.w) no_taking L (set takings n t) k (n + 1) (omega arith)) (λ c v on.
              are.falls m n (omega arith) (omega arith) c v (rw (put_back-none (turned_by size.w) no_taking K takings n n (omega arith)) (inside c v on)))
          | inr other ↦ rw (put_back-noted (turned_by size.w) no_taking K L takings k n t (omega arith) lt back) (are.falls m k le (omega arith))
        ])
      ];
    }

pub takings-undone : (size : Extent) (K : Candidates) (takings : List Taking) (n : ℕ) → 0 < n → AreTakings size K takings n
    → AreTakings size (turned_by size.w K (taking_at takings (n - 1))) takings (n - 1)
takings-undone size K takings n pos are = record {
  long = are.long;
  takings_in = λ k lt. are.takings_in k (omega arith);
  room = λ m le. rw (put_back-undone (turned_by size.w) no_taking K takings m n (omega arith)) (are.room m (omega arith));
  falls = λ m k le lt. rw (put_back-undone (turned_by size.w) no_taking K takings m n (omega arith), put_back-undone (turned_by size.w) no_taking K takings k n (omega arith)) (are.falls m k le (omega arith));
}

-- a cell that none of the takings from m on covers gets nothing back
pub put_back-off : (w : ℕ) (K : Candidates) (takings : List Taking) (m n c v : ℕ)
    → ((k : ℕ) → m ≤ k → k < n → covers w (taking_at takings k) c v ≡ false) → with_first w K takings m n c v ≡ K c v
unfolding put_back turned_by differ
put_back-off w K takings m zero c v off = refl
put_back-off w K takings m (suc n) c v off = elim (cases_Bool (leb m n)) [
  | inr low ↦ rw low refl
  | inl le ↦ rw le (put_back-off w (turned_by w K (taking_at takings n)) takings m n c v (λ k at lt. off k at (omega arith))
      ∙ turned-off w K (taking_at takings n) c v (off n (leb-true m n le) (omega arith)))
]
  where
    turned-off : (w : ℕ) (K : Candidates) (t : Taking) (c v : ℕ) → covers w t c v ≡ false → turned_by w K t c v ≡ K c v
    turned-off w K t c v off = rw off refl

-- a value that came back with the takings from m on was covered by one of them; so what is true of the lines of all is true of its
pub covered_since : (w : ℕ) (K : Candidates) (takings : List Taking) (m n c v : ℕ) {A : Type 0}
    → with_first w K takings m n c v ≡ true → K c v ≡ false
    → ((k : ℕ) → m ≤ k → k < n → v ≡ (taking_at takings k).value → crosses (taking_at takings k).line (taking_at takings k).bits (c / w) (c % w) ≡ true → A) → A
unfolding covers
covered_since w K takings m n c v on off each = elim (cases_Bool (any_below (λ k. leb m k && covers w (taking_at takings k) c v) n)) [
  | inl some ↦
      let k = any_below-some _ n some in
      let both = and_parts _ _ k.2 in
      let at = and_parts _ _ both.1 in
      each k.0 (leb-true m k.0 both.0) k.1 (eqb-true _ _ at.0) at.1
  | inr none ↦ absurd (true≢false (sym on ∙ put_back-off w K takings m n c v
      (λ k from lt. by k from (any_below-none _ n none k lt)) ∙ off))
]
  where
    by : (k : ℕ) → m ≤ k → (leb m k && covers w (taking_at takings k) c v) ≡ false → covers w (taking_at takings k) c v ≡ false
    by k from e = rw (le-leb m k from) at e

pub ruleset taking_laws = (put_back-none)
