-- What stays open in a board that loses values, and in one that gets them back.
use Rattle.solo_core.proofs.Common.{Candidates, List, ap, get_or-set_at, get_or-set_other, slice_set, arith, cases_eq, eqb, has_bit, inl, inr, length, refl, slice_index, sym, true, true_from_ne_false, true≢false, ℕ, ◌+◌, ◌<◌, ◌∙◌, ◌≡◌}
use Rattle.solo_core.specs.Common.{RuleSystem}
use Rattle.solo_core.specs.OpenHouses.{StaysOpenWith}
use Rattle.solo_core.specs.OpenBoards.{AreAllSpotsOf, AreOpenIn, AreOpenSpots, IsOpenCell, StayOpenWith, house_has, no_open_house, open_at, spot_at}
use Rattle.solo_core.specs.declared.visits.open.OpenHouse.{OpenHouse}
use Rattle.solo_core.specs.declared.visits.spots.Spot.{Spot}
use Rattle.solo_core.specs.OpenLaws.{open-other}

module _ (p : RuleSystem) (K L : Candidates) (houses : List OpenHouse) (o : AreOpenIn p K houses) where
  -- the board changes in one cell, which is open
  pub open-changed : (place : ℕ) → IsOpenCell p houses place → ((c v : ℕ) → (c ≡ place → ⊥) → L c v ≡ K c v) → AreOpenIn p L houses
  open-changed place is_open same h lh = open-other (o h lh) (λ k v lk off.
      same (slice_index (p.scope h) k) v (λ e. true≢false (sym (is_open h k lh lk e) ∙ off)))

-- a cell that has not one value alone is open
pub several-open : (p : RuleSystem) (K : Candidates) (houses : List OpenHouse) → AreOpenIn p K houses → (place : ℕ)
    → ((v : ℕ) → ((w : ℕ) → K place w ≡ eqb w v) → ⊥) → IsOpenCell p houses place
several-open p K houses o place several h k lh lk e = true_from_ne_false _ (λ off.
    let c = (o h lh).closed k lk off in
    several c.value (λ w. ap (λ x. K x w) (sym e) ∙ c.alone w))

-- a cell that is open at all its spots is open
pub open-spots : (p : RuleSystem) (houses : List OpenHouse) (spots : List Spot) (place : ℕ) → AreAllSpotsOf p place spots
    → AreOpenSpots houses spots (length spots) → IsOpenCell p houses place
open-spots p houses spots place all here h k lh lk e =
    let w = all h k (record { house_in = lh; cell_in = lk; is = e }) in
    rw (w.2, w.3) at (here w.0 w.1 w.1)

-- ---- a cell leaves its houses one after another, or comes back to them
pub stay-more : (first houses : List OpenHouse) (spots : List Spot) (set : ℕ) {i h k : ℕ} (house : OpenHouse) → StayOpenWith spots set first houses
    → i < length spots → h < length houses → (spot_at spots i).house ≡ h → (spot_at spots i).cell ≡ k
    → StaysOpenWith k set (open_at houses h) house → StayOpenWith spots set first (slice_set houses h house)
stay-more first houses spots set {i} {h} {k} house was lt lh e_h e_k step p K place value of lv single alone o j lj =
    let s = of i lt in
    let is : slice_index (p.scope h) k ≡ place = rw (← e_h, ← e_k) s.is in
    let before = was p K place value of lv single alone o in
    elim (cases_eq j h) [
      | inl e ↦ rw (e, get_or-set_at houses h h house no_open_house refl lh)
          (step (house_has p h K) p.values value (before h (omega (arith, e, lj))) (omega (arith, s.cell_in, e_k)) lv single (λ w. ap (λ x. K x w) is ∙ alone w))
      | inr ne ↦ rw (get_or-set_other houses h j house no_open_house ne) (before j lj)
    ]

pub here-more : (houses : List OpenHouse) (spots : List Spot) {i h k : ℕ} (house : OpenHouse) → h < length houses
    → (spot_at spots i).house ≡ h → (spot_at spots i).cell ≡ k → has_bit house.cells k ≡ true
    → ((j : ℕ) → has_bit (open_at houses h).cells j ≡ true → has_bit house.cells j ≡ true)
    → AreOpenSpots houses spots i → AreOpenSpots (slice_set houses h house) spots (i + 1)
here-more houses spots {i} {h} {k} house lh e_h e_k here grows was j lj lt = elim (cases_eq (spot_at spots j).house h) [
  | inl e ↦ rw (e, get_or-set_at houses h h house no_open_house refl lh) (elim (cases_eq j i) [
    | inl same ↦ rw (same, e_k) here
    | inr ne ↦ grows (spot_at spots j).cell (rw e at (was j (omega arith) lt))
  ])
  | inr other ↦ rw (get_or-set_other houses h (spot_at spots j).house house no_open_house other) (elim (cases_eq j i) [
    | inl same ↦ absurd (other (ap (λ n. (spot_at spots n).house) same ∙ e_h))
    | inr ne ↦ was j (omega arith) lt
  ])
]
