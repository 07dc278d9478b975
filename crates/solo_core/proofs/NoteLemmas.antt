-- What is noted of a board, when a cell is closed, when one is opened, and at the start.
use Rattle.solo_core.proofs.Common.{Candidates, IsSingleSet, IsSolo, List, Solo, ap, arith, cases_Bool, cases_lt, eq-eqb, eqb, eqb-true, filled_houses, get_or-replicate, has_bit, houses_of, houses_rules, inl, inr, length, ne_eqb, refl, replicate, slice_index, solo_cells, solo_n, sym, true, true≢false, ℕ, ◌*◌, ◌<◌, ◌^◌, ◌∙◌, ◌≡◌, ◌≤◌}
use Rattle.std.proofs.lemmas.Nat.Bits.{bit_at_above}
use Rattle.std.specs.Prelude.{slice_index_or}
use Rattle.std.proofs.lemmas.List.{get_or_default, length-replicate}
use Rattle.grid_core.specs.Board.{Layout, has}
use Rattle.grid_core.specs.Candidates.{count_below}
use Rattle.grid_core.proofs.BoardLemmas.{count_below-few, count_below-one, count_below-pos, has-within, least_below-passes}
use Rattle.engine_core.specs.Notes.{HasOnly, SameBut}
use Rattle.engine_core.specs.RuleSystem.{Needs}
use Rattle.solo_core.specs.OpenBoards.{AreNotesOf, AreOpenSpots, AreSpotsAt, AreSpotsIn, HasRoomFor, IsSizeOf, SpotList, StayOpenWith, no_open_house, spots_each}
use Rattle.solo_core.specs.OpenHouses.{IsOpenOf}
use Rattle.solo_core.specs.declared.visits.open.OpenHouse.{OpenHouse}
use Rattle.solo_core.specs.declared.visits.spots.Spot.{Spot}
use Rattle.solo_core.proofs.HouseLemmas.{filled-length}
use Rattle.solo_core.proofs.OpenBoardLemmas.{open-changed, open-spots, several-open}
use Rattle.solo_core.proofs.SpotLemmas.{all-spots-of, spots-of}

-- ---- a cell with one value
module _ (b : Layout) (place : ℕ) where
  within : (v : ℕ) → has b place v ≡ true → v < b.values
  within v on = (has-within b place v on).1

  pub one-only : count_below (has b place) b.values ≡ 1 → (v : ℕ) × (v < b.values) × HasOnly (has b) place v
  one-only one =
      let w = least_below-passes (has b place) b.values (omega arith) in (
        _,
        w.0,
        λ u. elim (cases_Bool (has b place u)) [
          | inl on ↦ on ∙ sym (eq-eqb u _ (count_below-one (has b place) b.values u _ (omega arith) (within u on) w.0 on w.1))
          | inr off ↦ off ∙ sym (ne_eqb u _ (λ e. true≢false (sym w.1 ∙ ap (has b place) (sym e) ∙ off)))
        ],
      )

  pub only-one : (v : ℕ) → HasOnly (has b) place v → count_below (has b place) b.values ≡ 1
  only-one v only =
      let on = only v ∙ eq-eqb v v refl in
      omega (
        arith,
        count_below-pos (has b place) b.values v (within v on) on,
        count_below-few (has b place) b.values (λ k j lk lj on_k on_j. eqb-true k v (sym (only k) ∙ on_k) ∙ sym (eqb-true j v (sym (only j) ∙ on_j))),
      )

  pub single-set : {bits v : ℕ} → bits < 2 ^ b.values → ((w : ℕ) → w < b.values → has_bit bits w ≡ has b place w) → v < b.values
      → HasOnly (has b) place v → IsSingleSet bits v
  single-set {bits} {v} small same lv only w = elim (cases_lt w b.values) [
    | inl low ↦ same w low ∙ only w
    | inr high ↦ ap (λ n. eqb n 1) (bit_at_above bits b.values w small high) ∙ sym (ne_eqb w v (λ e. absurd (omega arith)))
  ]

module _ (p : Solo) (ok : IsSolo p) {K : Candidates} {houses : List OpenHouse} {table : SpotList} (notes : AreNotesOf p K houses table)
    (place : ℕ) (lt : place < solo_cells p) {spots : List Spot} (at : AreSpotsAt table.c table.r (spots_each table.x) place spots) where
  here : AreSpotsAt p.c p.r (spots_each p.x) place spots
  here = rw (notes.size.same_c, notes.size.same_r, notes.size.same_x) at at

  -- its spots are of its houses
  pub noted-spots : AreSpotsIn houses spots
  noted-spots i li =
      let s = spots-of p ok place lt here i li in
      (omega (arith, s.house_in, filled-length p, notes.enough), omega (arith, s.cell_in, ok.n_high))

  -- it is closed, or put back
  pub noted-stay : (set : ℕ) {v : ℕ} {more : List OpenHouse} → length more ≡ length houses → StayOpenWith spots set houses more → v < solo_n p
      → IsSingleSet set v → HasOnly K place v → AreNotesOf p K more table
  noted-stay set {v = v} long stay lv single only = record {
    enough = omega (arith, notes.enough);
    size = notes.size;
    are_open = stay (houses_rules p) K place v (spots-of p ok place lt here) lv single only notes.are_open;
  }

  -- once it is open, it may have other values
  pub noted-open : AreOpenSpots houses spots (length spots) → {L : Candidates} → SameBut place K L → AreNotesOf p L houses table
  noted-open open_here {L} same = record {
    enough = notes.enough;
    size = notes.size;
    are_open = open-changed (houses_rules p) K L houses notes.are_open place (open-spots (houses_rules p) houses spots place (all-spots-of p ok place lt here) open_here) same;
  }

-- a cell with several values may have others
pub noted-several : (p : Solo) {K : Candidates} {houses : List OpenHouse} {table : SpotList} → AreNotesOf p K houses table → (place : ℕ)
    → ((v : ℕ) → HasOnly K place v → ⊥) → {L : Candidates} → SameBut place K L → AreNotesOf p L houses table
noted-several p {K} {houses} notes place several {L} same = record {
  enough = notes.enough;
  size = notes.size;
  are_open = open-changed (houses_rules p) K L houses notes.are_open place (several-open (houses_rules p) K houses notes.are_open place several) same;
}

-- all cells and values of each house are open
pub noted-all : (p : Solo) (K : Candidates) {m : ℕ} (all : ℕ) {table : SpotList} → length (houses_of p) ≤ m → IsSizeOf p table
    → ((v : ℕ) → v < solo_n p → has_bit all v ≡ true) → ((v : ℕ) → has_bit all v ≡ true → v < solo_n p)
    → AreNotesOf p K (replicate m (record { cells = all; values = all })) table
noted-all p K {m} all few size set below = record {
  enough = omega (arith, length-replicate {A = OpenHouse} m (record { cells = all; values = all }));
  size = size;
  are_open = λ h lh.
      let is = get_or-replicate {A = OpenHouse} m h (record { cells = all; values = all }) no_open_house (omega (arith, filled-length p)) in
      let house : IsOpenOf (λ k v. K (slice_index ((houses_rules p).scope h) k) v) (solo_n p) all all = record {
        cells_in = below;
        values_in = below;
        closed = λ k lk off. absurd (true≢false (sym (set k lk) ∙ off));
        different = λ j k v lj lk off. absurd (true≢false (sym (set j lj) ∙ off));
        held = λ v lv off. absurd (true≢false (sym (set v lv) ∙ off));
      } in
      rw is house;
}

-- ---- the memory of notes
pub room-made : {houses spots kept rest : ℕ} (needs : Needs) → houses ≡ needs.houses → spots ≡ needs.cells * 5 → kept ≡ needs.values → rest ≡ needs.values
    → HasRoomFor houses spots kept rest needs
room-made needs h s k r = record { houses_in = omega arith; spots_in = omega arith; kept_in = sym k; rest_in = sym r }

-- which cells and values of a house are open
pub noted-house : (p : Solo) {K : Candidates} {houses : List OpenHouse} {table : SpotList} → AreNotesOf p K houses table → (h : ℕ) → h < length (filled_houses p)
    → {places : List ℕ} {values : ℕ} {house : OpenHouse} → places ≡ (houses_rules p).scope h → values ≡ solo_n p → house ≡ slice_index_or houses h house
    → IsOpenOf (λ k v. K (slice_index places k) v) values house.cells house.values
noted-house p {houses = houses} notes h lh {house = house} s_is v_is is =
    rw (s_is, v_is, is, get_or_default houses h house no_open_house (omega (arith, filled-length p, notes.enough))) (notes.are_open h lh)
