-- Laws of open houses and of what is noted of them.
use Rattle.std.proofs.Common.{◌≡◌, ◌∙◌, ◌<◌, ℕ, Bool, List, arith, false, sym}
use Rattle.engine_core.specs.Notes.{KeepsOnly}
use Rattle.engine_core.specs.RuleSystem.{FitsIn, Needs}
use Rattle.solo_core.specs.Common.{Candidates, Solo, has_bit}
use Rattle.solo_core.specs.OpenHouses.{IsOpenOf}
use Rattle.solo_core.specs.OpenBoards.{AreNotesOf, HasRoomFor, SpotList}
use Rattle.solo_core.specs.declared.visits.open.OpenHouse.{OpenHouse}

-- the board changes in open cells alone
pub open-other : {has : ℕ → ℕ → Bool} {n cells values : ℕ} → IsOpenOf has n cells values → {now : ℕ → ℕ → Bool} → ((k v : ℕ) → k < n → has_bit cells k ≡ false → now k v ≡ has k v) → IsOpenOf now n cells values
open-other o {now} same = record {
  cells_in = o.cells_in;
  values_in = o.values_in;
  closed = λ k lk off.
      let c = o.closed k lk off in
      record { value = c.value; value_in = c.value_in; not_open = c.not_open; alone = λ w. same k w lk off ∙ c.alone w };
  different = λ j k v lj lk off_j off_k on_j on_k. o.different j k v lj lk off_j off_k (sym (same j v lj off_j) ∙ on_j) (sym (same k v lk off_k) ∙ on_k);
  held = λ v lv off. let w = o.held v lv off in (w.0, w.1, w.2, same w.0 v w.1 w.2 ∙ w.3);
}

-- what stays noted where each cell with one value keeps it
pub noted-kept : (p : Solo) {K L : Candidates} {houses : List OpenHouse} {table : SpotList} → KeepsOnly K L → AreNotesOf p K houses table → AreNotesOf p L houses table
noted-kept p {K} {L} {houses} keeps notes = record {
  enough = notes.enough;
  size = notes.size;
  are_open = λ h lh. open-other (notes.are_open h lh) (λ k v lk off.
      let c = (notes.are_open h lh).closed k lk off in
      keeps _ c.value c.alone v ∙ sym (c.alone v));
}

-- notes serve smaller needs
pub room-smaller : {need had : Needs} {houses spots kept rest : ℕ} → FitsIn need had → HasRoomFor houses spots kept rest had → HasRoomFor houses spots kept rest need
room-smaller f room = record {
  houses_in = omega (arith, f.houses_in, room.houses_in);
  spots_in = omega (arith, f.same_cells, room.spots_in);
  kept_in = f.same_values ∙ room.kept_in;
  rest_in = f.same_values ∙ room.rest_in;
}
