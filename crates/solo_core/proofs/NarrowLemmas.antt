-- The rest of a house, cell by cell, as it is narrowed and counted.
use Rattle.std.proofs.lemmas.Grind.{common_steps}
use Rattle.solo_core.proofs.Common.{AreDifferent, AreSettledCells, AreValueCounts, IsPassedCell, IsSingleSet, KeepsOthers, List, ap, arith, cases_eq, false, get_or-set_at, get_or-set_other, has_bit, has_in, inl, inr, length, length-set, refl, slice_index, slice_set, sym, true, true≢false, ℕ, ◌&&◌, ◌+◌, ◌<◌, ◌||◌, ◌∙◌, ◌≡◌, ◌≤◌, ◌⊎◌}
use Rattle.solo_core.specs.PeeledHouses.{AreCellsOf}
use Rattle.solo_core.proofs.PeelLemmas.{counts-more, counts-same}

-- the cells of the rest before the i-th were narrowed, and with those outside the rest they are counted
pub record IsNarrowed (drops : ℕ → ℕ → Type 0) (values : ℕ) (old new rest : List ℕ) (i some single shared : ℕ) : Type 0 where
  pub as_many : length new ≡ length old
  pub counts : AreValueCounts new (λ k. (k < length old) × IsPassedCell rest i k) some single shared
  pub inside : (j v : ℕ) → has_in new j v ≡ true → has_in old j v ≡ true
  pub dropped : (j v : ℕ) → v < values → has_in old j v ≡ true → has_in new j v ≡ false → drops (slice_index old j) v
  pub ahead : (t : ℕ) → i ≤ t → t < length rest → slice_index new (slice_index rest t) ≡ slice_index old (slice_index rest t)
  pub others : KeepsOthers rest old new

pub narrowed-none : {drops : ℕ → ℕ → Type 0} {values settled : ℕ} {old rest : List ℕ} → AreSettledCells old rest settled
    → IsNarrowed drops values old old rest 0 settled settled 0
narrowed-none settled = grind (arith, common_steps, true≢false)

module _ {drops : ℕ → ℕ → Type 0} {values i some single shared : ℕ} {old sets rest : List ℕ} (within : AreCellsOf old rest) (different : AreDifferent rest)
    (n : IsNarrowed drops values old sets rest i some single shared) (lt : i < length rest) {cell : ℕ} (is : cell ≡ slice_index rest i) where
  -- the cell is as it was
  pub narrowed-ahead : slice_index sets cell ≡ slice_index old cell
  narrowed-ahead = ap (slice_index sets) is ∙ n.ahead i (omega arith) lt ∙ ap (slice_index old) (sym is)

  there : (set j : ℕ) → (j ≡ cell → ⊥) → slice_index (slice_set sets cell set) j ≡ slice_index sets j
  there set j ne = get_or-set_other sets cell j set 0 ne

  pub narrowed-here : (set : ℕ) → slice_index (slice_set sets cell set) cell ≡ set
  narrowed-here set = get_or-set_at sets cell cell set 0 refl (omega (arith, n.as_many, within i lt, is))

  pub narrowed-more : (set : ℕ) {some' single' shared' : ℕ} → ((v : ℕ) → has_bit set v ≡ true → has_in sets cell v ≡ true)
      → ((v : ℕ) → v < values → has_in sets cell v ≡ true → has_bit set v ≡ false → drops (slice_index sets cell) v)
      → ((v : ℕ) → has_bit some' v ≡ (has_bit some v || has_bit set v))
      → ((v : ℕ) → has_bit single' v ≡ true → (has_bit single v ≡ true) ⊎ IsSingleSet set v)
      → ((v : ℕ) → has_bit shared' v ≡ (has_bit shared v || (has_bit some v && has_bit set v)))
      → IsNarrowed drops values old (slice_set sets cell set) rest (i + 1) some' single' shared'
  narrowed-more set {some'} {single'} {shared'} inside dropped a b d = record {
    as_many = length-set sets cell set ∙ n.as_many;
    counts = counts-more {more = λ (k : ℕ). (k < length old) × IsPassedCell rest (i + 1) k} cell
        (counts-same n.counts (λ j on. there set j (λ e. on.1 i (omega arith) lt (sym (e ∙ is)))) (λ j on. on) (λ j on. on))
        (λ j on. elim (cases_eq j cell) [
          | inl e ↦ inl e
          | inr ne ↦ inr (
            on.0,
            λ t le low same. elim (cases_eq t i) [
              | inl e ↦ ne (sym same ∙ ap (slice_index rest) e ∙ sym is)
              | inr later ↦ on.1 t (omega arith) low same
            ],
          )
        ])
        (λ j on. (on.0, λ t le low same. on.1 t (omega arith) low same))
        (omega (arith, within i lt, is), λ t le low same. absurd (omega (arith, different t i low lt (same ∙ is))))
        (λ v. a v ∙ ap (λ bits. has_bit some v || has_bit bits v) (sym (narrowed-here set)))
        (λ v on. rw (narrowed-here set) (b v on))
        (λ v. d v ∙ ap (λ bits. has_bit shared v || (has_bit some v && has_bit bits v)) (sym (narrowed-here set)));
    inside = λ j v on. elim (cases_eq j cell) [
      | inl e ↦
          ap (λ k. has_in old k v) e ∙ ap (λ bits. has_bit bits v) (sym narrowed-ahead)
          ∙ inside v (ap (λ bits. has_bit bits v) (sym (narrowed-here set) ∙ ap (slice_index (slice_set sets cell set)) (sym e)) ∙ on)
      | inr ne ↦ n.inside j v (ap (λ bits. has_bit bits v) (sym (there set j ne)) ∙ on)
    ];
    dropped = λ j v lv on off. elim (cases_eq j cell) [
      | inl e ↦ rw (e, sym narrowed-ahead)
          (dropped v lv (ap (λ bits. has_bit bits v) (narrowed-ahead ∙ ap (slice_index old) (sym e)) ∙ on)
          (ap (λ bits. has_bit bits v) (sym (narrowed-here set) ∙ ap (slice_index (slice_set sets cell set)) (sym e)) ∙ off))
      | inr ne ↦ n.dropped j v lv on (ap (λ bits. has_bit bits v) (sym (there set j ne)) ∙ off)
    ];
    ahead = λ t le low. there set (slice_index rest t) (λ e. absurd (omega (arith, different t i low lt (e ∙ is)))) ∙ n.ahead t (omega arith) low;
    others = λ k out. there set k (λ e. out i lt (sym (e ∙ is))) ∙ n.others k out;
  }

  -- what was left of an earlier cell is left of it still
  pub narrowed-before : (set t : ℕ) → t < i → slice_index (slice_set sets cell set) (slice_index rest t) ≡ slice_index sets (slice_index rest t)
  narrowed-before set t low = there set (slice_index rest t) (λ e. absurd (omega (arith, different t i (omega arith) lt (e ∙ is))))
