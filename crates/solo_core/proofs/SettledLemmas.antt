-- Cells that are settled, and what is left of the others.
use Rattle.std.proofs.lemmas.Grind.{common_steps}
use Rattle.std.specs.Prelude.{count_ones}
use Rattle.std.proofs.lemmas.Nat.{ones_le_self}
use Rattle.std.proofs.lemmas.Bool.{ltb-true}
use Rattle.solo_core.proofs.Common.{and_parts, nat_tests, ◌&&◌, ltb, lt-ltb, ◌^◌, ◌≤◌, AreSettledBut, IsOutside, IsPassedCell, IsPeeled, IsRest, IsSingleSet, List, [], ap, arith, cases_Bool, cases_eq, cases_lt, eq-eqb, eqb-true, false, false_from_ne_true, get_or_append_left, get_or_push, has_bit, has_in, inl, inr, length, length-append, not, or_cases, refl, slice_index, sym, true, true_from_ne_false, true≢false, zero-bits, ℕ, ◌++◌, ◌+◌, ◌<◌, ◌||◌, ◌∙◌, ◌∷◌, ◌≡◌}
use Rattle.solo_core.proofs.BitLemmas.{none_in_zero, one_value, ones_or}
use Rattle.solo_core.proofs.MateLemmas.{in_or_out}
use Rattle.solo_core.proofs.Common.{AreAllCounts, AreLone, AreMetOutside, AreSettledCells, Bool, slice_set, ◌⊎◌}
use Rattle.std.proofs.lemmas.List.{set-get_or}
use Rattle.std.proofs.lemmas.Nat.Bits.{bit_at-lt, same_from_bits}
use Rattle.solo_core.proofs.Common.{bit_and, bit_at, bit_or, both-bits, either-bits, ne_eqb}
use Rattle.std.proofs.lemmas.Bool.{eqb-false}
use Rattle.std.proofs.Math.Bool.{or-true}
use Rattle.solo_core.proofs.NarrowLemmas.{IsNarrowed, narrowed-before, narrowed-here, narrowed-more, narrowed-none}
use Rattle.solo_core.proofs.PeelLemmas.{counts-more, counts-same, rest-lone, rest-met, settled-peeled}

-- ---- cell by cell
pub settled-none : {values settled : ℕ} {sets : List ℕ} → ((v : ℕ) → has_bit settled v ≡ true → ⊥) → AreSettledBut values sets [] 0 settled
settled-none none = grind (arith, common_steps)

module _ {values n settled : ℕ} {sets rest : List ℕ} (s : AreSettledBut values sets rest n settled) where
  -- a cell that has one value alone, which is not settled yet
  pub settled-more : {more : ℕ} (value : ℕ) → value < values → has_in sets n value ≡ true → has_bit settled value ≡ false → IsSingleSet (slice_index sets n) value
      → ((v : ℕ) → has_bit more v ≡ (has_bit settled v || has_in sets n v)) → AreSettledBut values sets rest (n + 1) more
  settled-more {more} value low has free single is = record {
    few = omega (arith, s.few);
    within = λ t lt. omega (arith, s.within t lt);
    different = s.different;
    some = λ k lt out. elim (cases_eq k n) [ inl e ↦ (value, rw e has) | inr ne ↦ s.some k (omega arith) out ];
    counts = counts-more {more = λ (k : ℕ). (k < n + 1) × IsPassedCell rest 0 k} n s.counts
        (λ j on. elim (cases_eq j n) [ inl e ↦ inl e | inr ne ↦ inr (omega (arith, on.0), on.1) ])
        (λ j on. (omega (arith, on.0), on.1))
        (omega arith, λ t le lt e. absurd (omega (arith, s.within t lt)))
        is
        (λ v on. elim (or_cases (has_bit settled v) (has_in sets n v) (sym (is v) ∙ on)) [
          | inl was ↦ inl was
          | inr here ↦ inr (rw (one v here) single)
        ])
        (λ v. elim (cases_Bool (has_in sets n v)) [
          | inl on ↦ let at = one v on in let z = zero-bits v in let f = ap (has_bit settled) at ∙ free in grind arith
          | inr off ↦ let z = zero-bits v in grind arith
        ]);
    below = λ v on. elim (or_cases (has_bit settled v) (has_in sets n v) (sym (is v) ∙ on)) [
      | inl was ↦ s.below v was
      | inr here ↦ rw (one v here) low
    ];
  }
    where
      one : (v : ℕ) → has_in sets n v ≡ true → v ≡ value
      one v on = eqb-true v value (sym (single v) ∙ on)

  -- a cell that is left
  longer : length (rest ++ n ∷ []) ≡ length rest + 1
  longer = length-append rest (n ∷ [])

  first : (t : ℕ) → t < length rest → slice_index (rest ++ n ∷ []) t ≡ slice_index rest t
  first t lt = get_or_append_left rest (n ∷ []) 0 t lt

  last : (t : ℕ) → length rest ≡ t → slice_index (rest ++ n ∷ []) t ≡ n
  last t e = get_or_push rest n 0 t e

  under : (t : ℕ) → t < length (rest ++ n ∷ []) → slice_index (rest ++ n ∷ []) t < n + 1
  under t lt = elim (cases_lt t (length rest)) [
    | inl low ↦ omega (arith, first t low, s.within t low)
    | inr high ↦ omega (arith, last t (omega (arith, longer)))
  ]

  passed : (j : ℕ) → j < n → IsPassedCell rest 0 j → IsPassedCell (rest ++ n ∷ []) 0 j
  passed j lj out t le lt e = elim (cases_lt t (length rest)) [
    | inl low ↦ out t le low (sym (first t low) ∙ e)
    | inr high ↦ absurd (omega (arith, last t (omega (arith, longer)), e))
  ]

  pub settled-but : AreSettledBut values sets (rest ++ n ∷ []) (n + 1) settled
  settled-but = record {
    few = omega (arith, longer, s.few);
    within = under;
    different = λ j k lj lk e. elim (cases_lt j (length rest)) [
      | inl low_j ↦ elim (cases_lt k (length rest)) [
        | inl low_k ↦ s.different j k low_j low_k (sym (first j low_j) ∙ e ∙ first k low_k)
        | inr high ↦ absurd (omega (arith, first j low_j, s.within j low_j, last k (omega (arith, longer)), e))
      ]
      | inr high_j ↦ elim (cases_lt k (length rest)) [
        | inl low_k ↦ absurd (omega (arith, first k low_k, s.within k low_k, last j (omega (arith, longer)), e))
        | inr high ↦ omega (arith, longer)
      ]
    ];
    some = λ k lt out. s.some k (omega (arith, λ (e : k ≡ n). out (length rest) (omega (arith, longer)) (last (length rest) refl ∙ sym e)))
        (λ t low e. out t (omega (arith, longer)) (first t low ∙ e));
    counts = counts-same s.counts (λ j on. refl)
        (λ j on. (
          omega (arith, on.0, λ (e : j ≡ n). on.1 (length rest) (omega arith) (omega (arith, longer)) (last (length rest) refl ∙ sym e)),
          λ t le low e. on.1 t le (omega (arith, longer)) (first t low ∙ e),
        ))
        (λ j on. (omega (arith, on.0), passed j on.0 on.1));
    below = s.below;
  }

-- ---- there are as many values as settled cells at most, and if as many, these are settled
pub record IsSettling (values : ℕ) (sets rest : List ℕ) (n taken : ℕ) : Type 0 where
  pub few : count_ones taken + length rest ≤ n
  pub settled : count_ones taken + length rest ≡ n → AreSettledBut values sets rest n taken

pub settling-none : (values : ℕ) (sets : List ℕ) → IsSettling values sets [] 0 0
settling-none values sets = record { few = omega (arith, ones_le_self 0); settled = λ e. settled-none none_in_zero }

module _ {values n taken : ℕ} {sets rest : List ℕ} (s : IsSettling values sets rest n taken) where
  pub settling-but : IsSettling values sets (rest ++ n ∷ []) (n + 1) taken
  settling-but = record {
    few = omega (arith, length-append rest (n ∷ []), s.few);
    settled = λ e. settled-but (s.settled (omega (arith, length-append rest (n ∷ []))));
  }

  pub settling-more : (more : ℕ) → taken < 2 ^ 32 → more < 2 ^ 32 → slice_index sets n < 2 ^ 32 → count_ones (slice_index sets n) ≡ 1
      → ((v : ℕ) → has_bit more v ≡ (has_bit taken v || (has_in sets n v && ltb v values))) → IsSettling values sets rest (n + 1) more
  settling-more more low_t low_m low one is = record {
    few = omega (arith, s.few, most, one);
    settled = λ e.
        let w = one_value (slice_index sets n) low one in
        let twice : ((v : ℕ) → v ≡ w.0 → v < values → has_bit taken v ≡ true) → ⊥ = λ was. absurd (omega (
          arith,
          e,
          s.few,
          ones_le_self 0,
          ones_or taken 0 more low_t (omega arith) low_m (λ v on. inl (elim (or_cases _ _ (sym (is v) ∙ on)) [
            | inl on ↦ on
            | inr here ↦ let both = and_parts _ _ here in was v (eqb-true v w.0 (sym (w.2 v) ∙ both.0)) (ltb-true v values both.1)
          ])),
        )) in
        elim (cases_Bool (has_bit taken w.0)) [
          | inl on ↦ absurd (twice (λ v at lt. rw at on))
          | inr off ↦ elim (cases_lt w.0 values) [
            | inl inside ↦ settled-more (s.settled (omega (arith, e, s.few, most, one))) w.0 inside w.1 off w.2
                (λ v. is v ∙ elim (cases_Bool (has_in sets n v)) [
                  | inl on ↦ let lt = lt-ltb v values (omega (arith, eqb-true v w.0 (sym (w.2 v) ∙ on))) in grind (arith, nat_tests)
                  | inr out ↦ grind (arith, nat_tests)
                ])
            | inr outside ↦ absurd (twice (λ v at lt. absurd (omega arith)))
          ]
        ];
  }
    where
      most : count_ones more ≤ count_ones taken + count_ones (slice_index sets n)
      most = ones_or taken (slice_index sets n) more low_t low low_m
          (λ v on. elim (or_cases _ _ (sym (is v) ∙ on)) [ inl was ↦ inl was | inr here ↦ inr (and_parts _ _ here).0 ])

-- ---- the values of the settled cells are struck from the others
abbrev pub drops_settled : ℕ → ℕ → ℕ → Type 0
drops_settled settled set v = has_bit settled v ≡ true

-- no cell of the rest before the i-th has such a value
abbrev pub IsFreeOf : ℕ → List ℕ → List ℕ → ℕ → Type 0
IsFreeOf settled sets rest i = (t v : ℕ) → t < i → t < length rest → has_in sets (slice_index rest t) v ≡ true → has_bit settled v ≡ false

module _ {values settled some single shared : ℕ} {old new rest : List ℕ} (s : AreSettledBut values old rest (length old) settled)
    (n : IsNarrowed (drops_settled settled) values old new rest (length rest) some single shared) (free : IsFreeOf settled new rest (length rest)) where
  -- the value of a cell outside
  own : (k : ℕ) → k < length old → IsOutside rest k → (v : ℕ) × (has_bit settled v ≡ true) × (has_in old k v ≡ true) × IsSingleSet (slice_index old k) v
  own k lk out =
      let w = s.some k lk out in
      let on = s.counts.has k w.0 (lk, λ t le lt e. out t lt e) w.1 in
      let j = s.counts.singles w.0 on in (
        w.0,
        on,
        w.1,
        elim (cases_eq j.0 k) [
          | inl e ↦ rw e at j.2
          | inr ne ↦ absurd (none_in_zero w.0 (s.counts.shares j.0 k w.0 j.1 (lk, λ t le lt e. out t lt e) ne (j.2 w.0 ∙ eq-eqb w.0 w.0 refl) w.1))
        ],
      )

  kept : (k v : ℕ) → IsOutside rest k → has_in new k v ≡ has_in old k v
  kept k v out = ap (λ bits. has_bit bits v) (n.others k out)

  pub settled-peeled_off : IsPeeled values old new
  settled-peeled_off = record {
    as_many = n.as_many;
    inside = λ k v lk on. n.inside k v on;
    keeps = λ mates p k lk. true_from_ne_false (has_in new k (slice_index mates k)) (λ off.
        let v = slice_index mates k in
        let j = s.counts.singles v (n.dropped k v (p.in_range k lk) (p.joined k lk) off) in
        let is = eqb-true (slice_index mates j.0) v (sym (j.2 (slice_index mates j.0)) ∙ p.joined j.0 j.1.0) in
        let same = p.own j.0 k j.1.0 lk is in
        true≢false (sym (p.joined k lk) ∙ sym (kept k v (λ t lt e. j.1.1 t (omega arith) lt (e ∙ sym same))) ∙ off));
  }

  pub settled-rest : IsRest values new rest
  settled-rest = record {
    few = omega (arith, n.as_many, s.few);
    within = λ t lt. omega (arith, n.as_many, s.within t lt);
    different = s.different;
    alone = λ k lk out.
        let o = own k (omega (arith, n.as_many)) out in
        record {
          value = o.0;
          value_in = s.below o.0 o.1;
          has = kept k o.0 out ∙ o.2;
          only = λ v on. eqb-true v o.0 (sym (o.3 v) ∙ sym (kept k v out) ∙ on);
          apart = λ m lm ne. false_from_ne_true (has_in new m o.0) (λ on. elim (in_or_out rest m) [
            | inl w ↦ true≢false (sym o.1 ∙ free w.0 o.0 w.1 w.1 (rw w.2 on))
            | inr away ↦ none_in_zero o.0 (s.counts.shares m k o.0 (omega (arith, n.as_many), λ t le lt e. away t lt e)
                (omega (arith, n.as_many), λ t le lt e. out t lt e) ne (sym (kept m o.0 away) ∙ on) o.2)
          ]);
        };
  }

-- each value that was had is kept
abbrev pub AreAllKept : ℕ → ℕ → Type 0
AreAllKept had kept = (v : ℕ) → has_bit had v ≡ true → has_bit kept v ≡ true

-- then each set is the same, whatever else is struck
kept-bit : (x kept v : ℕ) → AreAllKept x kept → bit_at (bit_and x kept) v ≡ bit_at x v
kept-bit x kept v all = elim (cases_eq (bit_at x v) 1) [
  | inl one ↦ let on = eqb-true (bit_at kept v) 1 (all v (eq-eqb (bit_at x v) 1 one)) in eqb-true _ 1 (both-bits x kept v ∙ rw (one, on) refl) ∙ sym one
  | inr ne ↦
      let off = ne_eqb (bit_at x v) 1 ne in
      let none = eqb-false (bit_at (bit_and x kept) v) 1 (both-bits x kept v ∙ rw off refl) in
      omega (arith, bit_at-lt x v, bit_at-lt (bit_and x kept) v, ne, none)
]

pub same-while : {sets old : List ℕ} (had kept cell : ℕ) → (AreAllKept had kept → sets ≡ old) → AreAllKept (bit_or had (slice_index sets cell)) kept
    → slice_set sets cell (bit_and (slice_index sets cell) kept) ≡ old
same-while {sets} {old} had kept cell same all =
    let x = slice_index sets cell in
    let e = same_from_bits (bit_and x kept) x (λ v. kept-bit x kept v (λ w on. all w (either-bits had x w ∙ rw on (or-true (has_bit had w))))) in
    ap (slice_set sets cell) e ∙ set-get_or sets cell 0 ∙ same (λ v on. all v (either-bits had x v ∙ rw on refl))

-- a set of which no value is left beside those that are kept
pub kept-all : (had kept : ℕ) {gone : ℕ} → ((v : ℕ) → has_bit gone v ≡ (has_bit had v && not (has_bit kept v))) → gone ≡ 0 → AreAllKept had kept
kept-all had kept {gone} is none v on =
    let z = zero-bits v in
    let e = is v in
    let none_here = ap (λ x. has_bit x v) none in
    grind (arith, nat_tests)

-- the values of the settled cells were struck from the first i of the others, and all values are counted but those of the later ones
pub record AreStruck (values settled : ℕ) (old sets rest : List ℕ) (i some single shared : ℕ) (struck : Bool) : Type 0 where
  pub narrowed : IsNarrowed (drops_settled settled) values old sets rest i some single shared
  pub free : IsFreeOf settled sets rest i
  pub same : struck ≡ false → sets ≡ old

module _ {values settled : ℕ} {old rest : List ℕ} (s : AreSettledBut values old rest (length old) settled) where
  pub struck-first : {some single shared : ℕ} → some ≡ settled → single ≡ settled → shared ≡ 0 → AreStruck values settled old old rest 0 some single shared false
  struck-first a b d = rw (a, b, d) (record { narrowed = narrowed-none s.counts; free = λ t v low. absurd (omega arith); same = λ off. refl })

  pub struck-none : {some single shared : ℕ} → some ≡ settled → single ≡ settled → shared ≡ 0 → AreStruck values settled old old rest 0 some single shared true
  struck-none a b d = let s = struck-first a b d in record { narrowed = s.narrowed; free = s.free; same = λ off. absurd (true≢false off) }

  -- one cell more, which keeps what is kept of all
  pub struck-more : {sets : List ℕ} {i some single shared cell : ℕ} {struck : Bool} → AreStruck values settled old sets rest i some single shared struck
      → i < length rest → cell ≡ slice_index rest i → (set kept : ℕ) {some' single' shared' : ℕ} {now : Bool}
      → ((v : ℕ) → has_bit set v ≡ (has_in sets cell v && has_bit kept v))
      → ((v : ℕ) → v < values → has_bit kept v ≡ false → has_bit settled v ≡ true) → ((v : ℕ) → has_bit kept v ≡ true → has_bit settled v ≡ false)
      → ((v : ℕ) → has_bit some' v ≡ (has_bit some v || has_bit set v))
      → ((v : ℕ) → has_bit single' v ≡ true → (has_bit single v ≡ true) ⊎ IsSingleSet set v)
      → ((v : ℕ) → has_bit shared' v ≡ (has_bit shared v || (has_bit some v && has_bit set v)))
      → (now ≡ false → (set ≡ slice_index sets cell) × (struck ≡ false))
      → AreStruck values settled old (slice_set sets cell set) rest (i + 1) some' single' shared' now
  struck-more {sets} {i} {cell = cell} a lt is set kept bits out apart b d e same = record {
    narrowed = narrowed-more s.within s.different a.narrowed lt is set (λ v on. let both = bits v in grind arith)
        (λ v lv on off. out v lv (let both = bits v in grind arith)) b d e;
    free = λ t v low lr on. elim (cases_eq t i) [
      | inl here ↦
          let left : slice_index (slice_set sets cell set) (slice_index rest t) ≡ set =
          ap (λ (k : ℕ). slice_index (slice_set sets cell set) k) (ap (slice_index rest) here ∙ sym is) ∙ narrowed-here s.within s.different a.narrowed lt is set in
          let both = bits v in
          let has = ap (λ (x : ℕ). has_bit x v) (sym left) ∙ on in apart v (grind arith)
      | inr ne ↦ a.free t v (omega arith) lr (ap (λ (x : ℕ). has_bit x v) (sym (narrowed-before s.within s.different a.narrowed lt is set t (omega arith))) ∙ on)
    ];
    same = λ off. let w = same off in ap (slice_set sets cell) w.0 ∙ set-get_or sets cell 0 ∙ a.same w.1;
  }

  -- the whole rest was struck
  module _ {sets : List ℕ} {some single shared : ℕ} {struck : Bool} (a : AreStruck values settled old sets rest (length rest) some single shared struck) where
    pub struck-peeled : IsPeeled values old sets
    struck-peeled = settled-peeled_off s a.narrowed a.free

    pub struck-rest : IsRest values sets rest
    struck-rest = settled-rest s a.narrowed a.free

    pub struck-settled : AreSettledCells sets rest settled
    struck-settled = settled-peeled rest struck-peeled a.narrowed.others s.counts

    pub struck-counts : AreAllCounts sets some single shared
    struck-counts = counts-same {same = λ (k : ℕ). k < length sets} a.narrowed.counts (λ j on. refl) (λ j on. (omega (arith, a.narrowed.as_many, on), λ t le lt e. absurd (omega arith)))
        (λ j on. omega (arith, a.narrowed.as_many, on.0))

    pub struck-lone : settled < 2 ^ 32 → AreLone values sets settled
    struck-lone low = rest-lone struck-rest struck-settled low

    pub struck-outside : AreMetOutside sets rest settled
    struck-outside = rest-met struck-rest struck-settled settled (λ v on. on)
