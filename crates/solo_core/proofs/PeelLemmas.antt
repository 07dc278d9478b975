-- Houses in which cells are alone, and houses that are whole.
use Rattle.solo_core.proofs.Common.{AreAllCounts, AreAlone, AreLone, AreMetOutside, AreSettledCells, AreValueCounts, AreWhole, Bool, IsAlone, IsDropped, IsPeeled, IsRest, IsSingleSet, KeepsFillings, KeepsOthers, List, PairsCells, and_le_r, ap, arith, bit_and, bit_or, both-bits, cases_Bool, cases_eq, common_steps, cond, either-bits, eq-eqb, eqb, eqb-true, false, false_from_ne_true, get_or-map-range_with_len, has_bit, has_in, inl, inr, is_struck, length, length-map-range_with_len, ltb, map, meets, nat_tests, no_repeat, none_missed, not, or_cases, or_lt, or_right, range_with_len, refl, set_of_bits, shown_from_test, slice_index, suc, sym, true, true_from_ne_false, true≢false, zero, zero-bits, ℕ, ◌&&◌, ◌<◌, ◌^◌, ◌||◌, ◌∙◌, ◌≡◌, ◌≤◌, ◌⊎◌}
use Rattle.solo_core.proofs.MateLemmas.{decided_by_all, last, last-below, last-passes, pairing_of_filling, shown_by_pairing}
use Rattle.solo_core.proofs.BitLemmas.{none_in_zero, some_set}

-- Striking the value of a cell that has one alone from the other cells takes no filling away.

-- ---- what is peeled
-- a pairing is one of other sets where they have its values too
pairing_over : {n : ℕ} (old new : List ℕ) {mates : List ℕ} → length new ≡ length old
    → ((k : ℕ) → k < length old → has_in old k (slice_index mates k) ≡ true → has_in new k (slice_index mates k) ≡ true)
    → PairsCells n old mates → PairsCells n new mates
pairing_over old new same joined p = grind (arith, common_steps)

pairing_peeled : (n : ℕ) {old new mates : List ℕ} → IsPeeled n old new → PairsCells n old mates
    → PairsCells n new mates
pairing_peeled n {old} {new} {mates} e p = pairing_over old new e.as_many (λ k lk on. e.keeps mates p k lk) p

pub peeled-none : (n : ℕ) {sets : List ℕ} → IsPeeled n sets sets
peeled-none n = grind (arith, common_steps)

pub peeled-more : {n : ℕ} {first second third : List ℕ} → IsPeeled n first second → IsPeeled n second third → IsPeeled n first third
peeled-more {n} a b = record {
  as_many = b.as_many ∙ a.as_many;
  inside = λ k v lk on. a.inside k v lk (b.inside k v (omega (arith, a.as_many)) on);
  keeps = λ mates p k lk. b.keeps mates (pairing_peeled n a p) k (omega (arith, a.as_many));
}

-- ---- counts
pub counts-none : {sets : List ℕ} {cells : ℕ → Type 0} {some single shared : ℕ} → ((j : ℕ) → cells j → ⊥)
    → (some ≡ 0) × (single ≡ 0) × (shared ≡ 0) → AreValueCounts sets cells some single shared
counts-none none (a, b, c) = grind (arith, common_steps, none_in_zero)

-- the counts are those of the same cells of another list that has the same sets there
pub counts-same : {sets new : List ℕ} {cells same : ℕ → Type 0} {some single shared : ℕ} → AreValueCounts sets cells some single shared
    → ((j : ℕ) → cells j → slice_index new j ≡ slice_index sets j) → ((j : ℕ) → same j → cells j) → ((j : ℕ) → cells j → same j)
    → AreValueCounts new same some single shared
counts-same {sets} {new} {cells} {same} c is from to = grind (arith, common_steps, c.has, c.singles, c.shares)

-- the counts of one more cell
pub counts-more : {sets : List ℕ} {cells more : ℕ → Type 0} (cell : ℕ) {some single shared some' single' shared' : ℕ}
    → AreValueCounts sets cells some single shared
    → ((j : ℕ) → more j → (j ≡ cell) ⊎ cells j) → ((j : ℕ) → cells j → more j) → more cell
    → ((v : ℕ) → has_bit some' v ≡ (has_bit some v || has_in sets cell v))
    → ((v : ℕ) → has_bit single' v ≡ true → (has_bit single v ≡ true) ⊎ IsSingleSet (slice_index sets cell) v)
    → ((v : ℕ) → has_bit shared' v ≡ (has_bit shared v || (has_bit some v && has_in sets cell v)))
    → AreValueCounts sets more some' single' shared'
counts-more {sets} cell c split to here a b d = record {
  has = λ j v on has. elim (split j on) [
    | inl e ↦ let z = a v in let there = ap (λ i. has_in sets i v) (sym e) ∙ has in grind arith
    | inr was ↦ let z = a v in let y = c.has j v was has in grind arith
  ];
  singles = λ v on. elim (b v on) [
    | inl was ↦ let w = c.singles v was in (w.0, to w.0 w.1, w.2)
    | inr new ↦ (cell, here, new)
  ];
  shares = λ j k v on_j on_k ne has_j has_k. elim (split j on_j) [
    | inl e ↦ elim (split k on_k) [
      | inl e_k ↦ absurd (ne (e ∙ sym e_k))
      | inr was ↦ let z = d v in let y = c.has k v was has_k in let there = ap (λ i. has_in sets i v) (sym e) ∙ has_j in grind arith
    ]
    | inr was ↦ elim (split k on_k) [
      | inl e ↦ let z = d v in let y = c.has j v was has_j in let there = ap (λ i. has_in sets i v) (sym e) ∙ has_k in grind arith
      | inr was_k ↦ let z = d v in let y = c.shares j k v was was_k ne has_j has_k in grind arith
    ]
  ];
}

-- a cell with one of the values meets them
pub meets-here : (sets : List ℕ) (values k v : ℕ) → has_in sets k v ≡ true → has_bit values v ≡ true → meets sets values k ≡ true
meets-here sets values k v has on = true_from_ne_false (meets sets values k)
    (λ off. let z : bit_and (slice_index sets k) values ≡ 0 = grind (arith, nat_tests) in
    true≢false (sym (both-bits (slice_index sets k) values v ∙ grind arith) ∙ ap (λ b. has_bit b v) z ∙ zero-bits v))

-- what is dropped, no pairing has: each value has a cell, and a cell with one value alone has it
module _ {n : ℕ} {old : List ℕ} (square : length old ≡ n) {some single shared : ℕ} (c : AreAllCounts old some single shared) where
  not_dropped : (mates : List ℕ) → PairsCells n old mates → (k : ℕ) → k < length old
      → IsDropped n single shared (slice_index old k) (slice_index mates k) → ⊥
  not_dropped mates p k lk (w, lw, has, ne, inl lone) =
      none_missed (slice_index mates) (λ x lx. p.in_range x (omega arith)) (λ x y lx ly same. p.own x y (omega arith) (omega arith) same) lw
      (λ x lx is. let s = c.shares x k w (omega arith) lk in let j = p.joined x (omega arith) in grind arith)
  not_dropped mates p k lk (w, lw, has, ne, inr on) =
      let j = c.singles (slice_index mates k) on in
      let own = p.own j.0 k j.1 lk in
      let a = j.2 w in
      let b = j.2 (slice_index mates j.0) in
      let has_mate = p.joined j.0 j.1 in
      grind (arith, nat_tests)

  pub peeled-step : {new : List ℕ} → length new ≡ length old
      → ((k v : ℕ) → k < length old → has_in new k v ≡ true → has_in old k v ≡ true)
      → ((k v : ℕ) → k < length old → v < n → has_in old k v ≡ true → has_in new k v ≡ false → IsDropped n single shared (slice_index old k) v)
      → IsPeeled n old new
  peeled-step {new} as_many inside dropped = record {
    as_many = as_many;
    inside = inside;
    keeps =
        λ mates p k lk. true_from_ne_false (has_in new k (slice_index mates k))
        (λ off. not_dropped mates p k lk (dropped k _ lk (p.in_range k lk) (p.joined k lk) off));
  }

  -- a cell with a value that some cell has alone, and that no two have
  pub alone-lone : (k v : ℕ) → k < length old → v < n → has_in old k v ≡ true → has_bit single v ≡ true → has_bit shared v ≡ false → IsAlone n old k
  alone-lone k v lk lv has on off =
      let j = c.singles v on in
      record {
        value = v;
        value_in = lv;
        has = has;
        only = λ w there. elim (cases_eq j.0 k) [
          | inl e ↦ eqb-true w v (sym (j.2 w) ∙ ap (λ i. has_in old i w) e ∙ there)
          | inr nj ↦ absurd (true≢false (sym (c.shares j.0 k v j.1 lk nj (j.2 v ∙ eq-eqb v v refl) has) ∙ off))
        ];
        apart = λ m lm ne. false_from_ne_true _ (λ there. true≢false (sym (c.shares m k v lm lk ne there has) ∙ off));
      }

  -- the values that some cell has alone and no two have
  pub lone-counts : {lone : ℕ} → lone < 2 ^ 32 → ((v : ℕ) → has_bit lone v ≡ (has_bit single v && (ltb v n && not (has_bit shared v)))) → AreLone n old lone
  lone-counts {lone} low is = record {
    alone = λ k lk on.
        let at = some_set (bit_and (slice_index old k) lone) (omega (arith, and_le_r (slice_index old k) lone)) on in
        let both = both-bits (slice_index old k) lone at.0 in
        let i = is at.0 in
        alone-lone k at.0 lk (grind (arith, nat_tests)) (grind arith) (grind arith) (grind arith);
    held = λ v on.
        let i = is v in
        let j = c.singles v (grind arith) in
        let has = j.2 v ∙ eq-eqb v v refl in
        (j.0, j.1, meets-here old lone j.0 v has on, has);
  }

pub lone-joined : {n a b : ℕ} {sets : List ℕ} → AreLone n sets a → AreLone n sets b → bit_or a b < 2 ^ 32 → AreLone n sets (bit_or a b)
lone-joined {n} {a} {b} {sets} p q low = record {
  alone = λ k lk on.
      let at = some_set (bit_and (slice_index sets k) (bit_or a b)) (omega (arith, and_le_r (slice_index sets k) (bit_or a b))) on in
      let both = both-bits (slice_index sets k) (bit_or a b) at.0 in
      let is = either-bits a b at.0 in
      elim (or_cases (has_bit a at.0) (has_bit b at.0) (grind arith)) [
        | inl first ↦ p.alone k lk (meets-here sets a k at.0 (grind arith) first)
        | inr second ↦ q.alone k lk (meets-here sets b k at.0 (grind arith) second)
      ];
  held = λ v on. elim (or_cases (has_bit a v) (has_bit b v) (sym (either-bits a b v) ∙ on)) [
    | inl first ↦ let w = p.held v first in (w.0, w.1, meets-here sets (bit_or a b) w.0 v w.3 on, w.3)
    | inr second ↦ let w = q.held v second in (w.0, w.1, meets-here sets (bit_or a b) w.0 v w.3 on, w.3)
  ];
}

module _ {n settled : ℕ} {sets rest : List ℕ} (r : IsRest n sets rest) (s : AreSettledCells sets rest settled) where
  pub rest-lone : settled < 2 ^ 32 → AreLone n sets settled
  rest-lone low = record {
    alone = λ k lk on.
        let at = some_set (bit_and (slice_index sets k) settled) (omega (arith, and_le_r (slice_index sets k) settled)) on in
        let both = both-bits (slice_index sets k) settled at.0 in
        let j = s.singles at.0 (grind arith) in
        let a = r.alone j.0 j.1.0 (λ t lt e. j.1.1 t (omega arith) lt e) in
        let is = a.only at.0 (j.2 at.0 ∙ eq-eqb at.0 at.0 refl) in
        elim (cases_eq k j.0) [
          | inl e ↦ rw e a
          | inr ne ↦ absurd (true≢false (sym (let has : has_in sets k at.0 ≡ true = grind arith in has) ∙ ap (has_in sets k) is ∙ a.apart k lk ne))
        ];
    held = λ v on.
        let j = s.singles v on in
        let has = j.2 v ∙ eq-eqb v v refl in
        (j.0, j.1.0, meets-here sets settled j.0 v has on, has);
  }

  -- each cell outside has one of these values, and of more
  pub rest-met : (more : ℕ) → ((v : ℕ) → has_bit settled v ≡ true → has_bit more v ≡ true) → AreMetOutside sets rest more
  rest-met more inside k lk out =
      let a = r.alone k lk out in
      meets-here sets more k a.value a.has (inside a.value (s.has k a.value (lk, λ t le lt e. out t lt e) a.has))

  -- with them other values are lone too, and each cell outside is met
  pub with-settled : {lone : ℕ} → AreLone n sets lone → lone < 2 ^ 32 → settled < 2 ^ 32
      → AreLone n sets (bit_or lone settled) × AreMetOutside sets rest (bit_or lone settled)
  with-settled {lone} l low small = (
    lone-joined l (rest-lone small) (or_lt 32 lone settled low small),
    rest-met (bit_or lone settled) (λ v on. either-bits lone settled v ∙ or_right _ _ on),
  )

-- what stays of the rest is the rest
pub rest-peeled : {n : ℕ} {old new rest : List ℕ} → IsPeeled n old new → KeepsOthers rest old new → IsRest n old rest → IsRest n new rest
rest-peeled {n} {old} {new} {rest} p keeps r = record {
  few = omega (arith, p.as_many, r.few);
  within = λ t lt. omega (arith, p.as_many, r.within t lt);
  different = r.different;
  alone = λ k lk out.
      let a = r.alone k (omega (arith, p.as_many)) out in
      let same = keeps k out in
      record {
        value = a.value;
        value_in = a.value_in;
        has = ap (λ b. has_bit b a.value) same ∙ a.has;
        only = λ v has. a.only v (sym (ap (λ b. has_bit b v) same) ∙ has);
        apart = λ m lm ne. false_from_ne_true (has_in new m a.value)
            (λ on. true≢false (sym (p.inside m a.value (omega (arith, p.as_many)) on) ∙ a.apart m (omega (arith, p.as_many)) ne));
      };
}

pub settled-peeled : {n settled : ℕ} {old new : List ℕ} (rest : List ℕ) → IsPeeled n old new → KeepsOthers rest old new → AreSettledCells old rest settled → AreSettledCells new rest settled
settled-peeled rest p keeps c = counts-same c (λ j on. keeps j (λ t lt. on.1 t (omega arith) lt)) (λ j on. (omega (arith, p.as_many, on.0), on.1))
    (λ j on. (omega (arith, p.as_many, on.0), on.1))

-- ---- what is decided of the peeled sets is decided of the sets
-- what is shown by a pairing is shown where each pairing of the sets is one of the others
shown_over : (n : ℕ) (old new : List ℕ) → ((mates : List ℕ) → PairsCells n old mates → PairsCells n new mates)
    → (k v : ℕ) → k < length new → is_struck n old k v ≡ false → (has_in new k v ≡ true) × (is_struck n new k v ≡ false)
shown_over n old new over k v lk off =
    let w = shown_from_test no_repeat (map (set_of_bits n) old) k v off in
    let p = over w.0 (pairing_of_filling old n w.1) in
    (rw w.1.has_it at (p.joined k lk), rw w.1.has_it at (shown_by_pairing new p k))

pub decided_by_peeled : {n : ℕ} {sets peeled kept : List ℕ} → IsPeeled n sets peeled → KeepsFillings n peeled kept
    → KeepsFillings n sets kept
decided_by_peeled {n} {sets} {peeled} e d = record {
  as_many = d.as_many ∙ e.as_many;
  bits = λ k v lk lv.
      let low : k < length peeled = omega (arith, e.as_many) in grind (arith, shown_over n sets peeled (λ mates p. pairing_peeled n e p) k v low, shown_over n peeled sets (λ mates p. pairing_over peeled sets (sym e.as_many) (λ j lj on. e.inside j (slice_index mates j) (omega (arith, e.as_many)) on) p) k v lk, d.bits k v low lv, e.inside k v lk);
}

-- A house in which each cell that is not alone has all values but those of the cells that are: each value of a cell is in a
-- filling. First each cell has its own number. Then one cell after another that is alone gets its value, from the cell that has
-- it, which takes the other's in turn. At last the cell gets the value.

-- ---- numbers in another order
record Permutes (n : ℕ) (f : ℕ → ℕ) : Type 0 where
  below : (x : ℕ) → x < n → f x < n
  differ : (x y : ℕ) → x < n → y < n → f x ≡ f y → x ≡ y

-- the number v goes to the place k, and what was there to where v was
put : ℕ → ℕ → (ℕ → ℕ) → ℕ → ℕ
put k v f x = cond (eqb (f x) (f k)) v (cond (eqb (f x) v) (f k) (f x))

put-here : (k v : ℕ) (f : ℕ → ℕ) → put k v f k ≡ v
unfolding put
put-here k v f = grind (arith, nat_tests)

put-other : (k v : ℕ) (f : ℕ → ℕ) (x : ℕ) → (f x ≡ f k → ⊥) → (f x ≡ v → ⊥) → put k v f x ≡ f x
unfolding put
put-other k v f x ne other = grind (arith, nat_tests)

put-permutes : {n k v : ℕ} {f : ℕ → ℕ} → Permutes n f → k < n → v < n → Permutes n (put k v f)
unfolding put
put-permutes {n} {k} {v} {f} p lk lv = grind (arith, common_steps, nat_tests, p.below, p.differ)

-- ---- the values of the cells that are alone
module _ {n : ℕ} {sets : List ℕ} (square : length sets ≡ n) (cells : ℕ → Bool) (alone : AreAlone n sets cells) where
  own : ℕ → ℕ
  own k = last n (has_in sets k)

  module _ {k : ℕ} (lk : k < n) (on : cells k ≡ true) where
    own-in : own k < n
    unfolding own
    own-in = last-below n (has_in sets k) (omega arith)

    own-is : (v : ℕ) → has_in sets k v ≡ true → own k ≡ v
    unfolding own
    own-is v has =
        let a = alone k (omega (arith, square)) on in
        a.only (own k) (last-passes n (has_in sets k) a.value a.value_in a.has) ∙ sym (a.only v has)

    own-has : has_in sets k (own k) ≡ true
    own-has = let a = alone k (omega (arith, square)) on in ap (has_in sets k) (own-is a.value a.has) ∙ a.has

    own-apart : (j v : ℕ) → j < n → (j ≡ k → ⊥) → has_in sets j v ≡ true → own k ≡ v → ⊥
    own-apart j v lj ne has e =
        let a = alone k (omega (arith, square)) on in
        true≢false (sym has ∙ ap (has_in sets j) (sym e ∙ own-is a.value a.has) ∙ a.apart j (omega (arith, square)) ne)

  -- an order in which the first cells have their values, as far as they are alone
  sent : (first : ℕ) → first ≤ n → (f : ℕ → ℕ) × Permutes n f × ((k : ℕ) → k < first → cells k ≡ true → f k ≡ own k)
  sent zero le = (λ x. x, record { below = λ x lt. lt; differ = λ x y lx ly e. e }, λ k lk on. absurd (omega arith))
  sent (suc j) le =
      let s = sent j (omega arith) in
      elim (cases_Bool (cells j)) [
        | inl on ↦ (
          put j (own j) s.0,
          put-permutes s.1 (omega arith) (own-in (omega arith) on),
          λ k lk on_k. elim (cases_eq k j) [
            | inl e ↦ ap (put j (own j) s.0) e ∙ put-here j (own j) s.0 ∙ ap own (sym e)
            | inr ne ↦
                let was = s.2 k (omega arith) on_k in
                put-other j (own j) s.0 k (λ e. ne (s.1.differ k j (omega arith) (omega arith) e))
                (λ e. own-apart (omega arith) on_k j (own j) (omega arith) (λ e. ne (sym e)) (own-has (omega arith) on) (sym was ∙ e))
                ∙ was
          ],
        )
        | inr off ↦ (s.0, s.1, λ k lk on. s.2 k (omega (arith, λ (e : k ≡ j). true≢false (sym on ∙ ap cells e ∙ off))) on)
      ]

-- ---- the house
module _ {n : ℕ} {sets : List ℕ} {lone : ℕ} (square : length sets ≡ n) (l : AreLone n sets lone) (w : AreWhole n sets lone) where
  module _ {k v : ℕ} (lk : k < n) (lv : v < n) (has : has_in sets k v ≡ true) where
    abbrev cells : ℕ → Bool
    cells = meets sets lone

    abbrev s : (f : ℕ → ℕ) × Permutes n f × ((k : ℕ) → k < n → cells k ≡ true → f k ≡ own square cells l.alone k)
    s = sent square cells l.alone n (omega arith)

    abbrev mate : ℕ → ℕ
    mate = put k v s.0

    mates : Permutes n mate
    mates = put-permutes s.1 lk lv

    mate-own : {i : ℕ} → i < n → cells i ≡ true → mate i ≡ own square cells l.alone i
    mate-own {i} li on = elim (cases_eq i k) [
      | inl e ↦ ap mate e ∙ put-here k v s.0 ∙ sym (own-is square cells l.alone li on v (rw e has))
      | inr ne ↦ put-other k v s.0 i (λ e. ne (s.1.differ i k li lk e))
          (λ e. own-apart square cells l.alone li on k v lk (λ e. ne (sym e)) has (sym (s.2 i li on) ∙ e)) ∙ s.2 i li on
    ]

    joined : (x : ℕ) → x < n → has_in sets x (mate x) ≡ true
    joined x lx = elim (cases_Bool (cells x)) [
      | inl on ↦ rw (mate-own lx on) (own-has square cells l.alone lx on)
      | inr off ↦ elim (cases_Bool (has_bit lone (mate x))) [
        | inl one ↦
            let i = l.held (mate x) one in
            let li : i.0 < n = omega (arith, i.1, square) in
            let e = mates.differ i.0 x li lx (mate-own li i.2 ∙ own-is square cells l.alone li i.2 (mate x) i.3) in
            absurd (true≢false (sym i.2 ∙ ap cells e ∙ off))
        | inr free ↦ w x (mate x) (omega (arith, square)) (mates.below x lx) off free
      ]
    ]

    filled : List ℕ
    filled = map mate (range_with_len 0 n)

    filled-at : (x : ℕ) → x < n → slice_index filled x ≡ mate x
    unfolding filled
    filled-at x lx = get_or-map-range_with_len mate 0 n x x 0 lx (omega arith)

    pairs : PairsCells n sets filled
    unfolding filled
    pairs = record {
      len = length-map-range_with_len mate 0 n ∙ sym square;
      in_range = λ x lx. rw (filled-at x (omega (arith, square))) (mates.below x (omega (arith, square)));
      joined = λ x lx. rw (filled-at x (omega (arith, square))) (joined x (omega (arith, square)));
      own = λ x y lx ly same. mates.differ x y (omega (arith, square)) (omega (arith, square))
          (sym (filled-at x (omega (arith, square))) ∙ same ∙ filled-at y (omega (arith, square)));
    }

    shown : is_struck n sets k v ≡ false
    shown = ap (is_struck n sets k) (sym (filled-at k lk ∙ put-here k v s.0)) ∙ shown_by_pairing sets pairs k

  pub decided_whole : KeepsFillings n sets sets
  decided_whole = decided_by_all (λ k v lk lv has. shown (omega (arith, square)) lv has)
