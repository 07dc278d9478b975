-- The places of the rows, the columns and the blocks, as they are written into one list.
use Rattle.solo_core.proofs.Common.{IsSolo, List, Listed, Solo, [], arith, block-within, cases_eq, cases_lt, div-mul-add, ext_get_or, get_or, get_or-map-range_with_len, get_or-set_at, get_or-set_other, get_or-take, house_count, house_places, houses_of, inl, inr, length, length-map, length-map-range_with_len, length-set, length-take, map, mod-mul-add, mul-add-lt, mul-le, places_of, range_with_len, refl, set, solo_cells, solo_n, sym, take, ℕ, ◌*◌, ◌++◌, ◌+◌, ◌-◌, ◌<◌, ◌^◌, ◌∙◌, ◌≡◌, ◌≤◌}
use Rattle.std.proofs.lemmas.List.Edits.{get_or-between, length-between}
use Rattle.std.proofs.Math.Seq.{take-append_seam}
use Rattle.std.specs.List.{between}
use Rattle.engine_core.specs.HouseList.{cut_evenly}
use Rattle.solo_core.specs.Work.{HasHouses, block_cell}
use Rattle.solo_core.proofs.HouseLemmas.{block-listed, column-listed, first_listed, row-listed}

-- ---- one place more of the columns, and of the blocks
pub houses-more : (p : Solo) {all : List ℕ} (h k v w : ℕ) → h < solo_n p → k < solo_n p → length all ≡ 3 * solo_n p * solo_n p
    → v ≡ k * solo_n p + h → w ≡ block_cell p.c p.r h k → HasHouses p (h * solo_n p + k) all
    → HasHouses p (h * solo_n p + (k + 1))
    (set (set all (solo_n p * solo_n p + h * solo_n p + k) v) (solo_n p * solo_n p + (solo_n p * solo_n p + h * solo_n p + k)) w)
houses-more p {all} h k v w h_in k_in room is_v is_w a =
    let n = solo_n p in
    let cells = solo_n p * solo_n p in
    let second = solo_n p * solo_n p + h * solo_n p + k in
    let inside : h * solo_n p + k < solo_n p * solo_n p = mul-add-lt h n k n h_in k_in in
    let long : length all ≡ solo_n p * solo_n p + (solo_n p * solo_n p + solo_n p * solo_n p) = omega (arith, room) in
    record {
      rows = λ j lt. get_or-set_other (set all second v) (cells + second) j w 0 (λ e. omega arith)
          ∙ get_or-set_other all second j v 0 (λ e. omega arith) ∙ a.rows j lt;
      columns = λ j lt. get_or-set_other (set all second v) (cells + second) (cells + j) w 0 (λ e. omega (arith, inside)) ∙ elim (cases_eq j (h * n + k)) [
        | inl e ↦ get_or-set_at all second (cells + j) v 0 (omega arith) (omega (arith, inside, long))
            ∙ rw (e, mod-mul-add h n k k_in, div-mul-add h n k k_in) is_v
        | inr ne ↦ get_or-set_other all second (cells + j) v 0 (λ e. ne (omega arith)) ∙ a.columns j (omega arith)
      ];
      blocks = λ j lt. elim (cases_eq j (h * n + k)) [
        | inl e ↦ get_or-set_at (set all second v) (cells + second) (cells + (cells + j)) w 0 (omega arith) (omega (arith, inside, long, length-set all second v))
            ∙ rw (e, mod-mul-add h n k k_in, div-mul-add h n k k_in) is_w
        | inr ne ↦ get_or-set_other (set all second v) (cells + second) (cells + (cells + j)) w 0 (λ e. ne (omega arith))
            ∙ get_or-set_other all second (cells + (cells + j)) v 0 (λ e. omega (arith, inside)) ∙ a.blocks j (omega arith)
      ];
    }

pub cell-low : {p : Solo} → IsSolo p → (h k : ℕ) → h < solo_n p → k < solo_n p → block_cell p.c p.r h k < 2 ^ 32
cell-low {p} ok h k h_in k_in = omega (arith, block-within p.c p.r h k h_in k_in, mul-le (solo_n p) (solo_n p) 31 31 ok.n_high ok.n_high)

-- ---- what is written, house by house
piece-is : (all : List ℕ) (from n : ℕ) (f : ℕ → ℕ) → from + n ≤ length all → ((k : ℕ) → k < n → get_or all (from + k) 0 ≡ f k)
    → between from (from + n) all ≡ map f (range_with_len 0 n)
piece-is all from n f room same =
    let long = length-between all from (from + n) room in
    let many = length-map-range_with_len f 0 n in
    ext_get_or 0 _ _ (omega arith) (λ k lt.
    let l : k < n = omega arith in
    get_or-between all from (from + n) k 0 (omega arith) ∙ same k l ∙ sym (get_or-map-range_with_len f 0 n k k 0 l (omega arith)))

module _ (p : Solo) (all : List ℕ) (room : length all ≡ 3 * solo_n p * solo_n p) (a : HasHouses p (solo_cells p) all) where
  abbrev piece : ℕ → List ℕ
  piece h = between (h * solo_n p) (h * solo_n p + solo_n p) all

  -- the places of a house are a piece
  piece-in : (h : ℕ) (f : ℕ → ℕ) → h < 3 * solo_n p → ((k : ℕ) → k < solo_n p → get_or all (h * solo_n p + k) 0 ≡ f k)
      → piece h ≡ map f (range_with_len 0 (solo_n p))
  piece-in h f lt = piece-is all (h * solo_n p) (solo_n p) f (omega (arith, room, mul-le (h + 1) (solo_n p) (3 * solo_n p) (solo_n p) (omega arith) (omega arith)))

  inside : (h k : ℕ) → h < solo_n p → k < solo_n p → h * solo_n p + k < solo_n p * solo_n p
  inside h k lh lk = mul-add-lt h (solo_n p) k (solo_n p) lh lk

  row-cut : (y : ℕ) → y < solo_n p → piece y ≡ get_or (house_places p) y []
  row-cut y lt = piece-in y (λ k. y * solo_n p + k) (omega arith) (λ k l. a.rows (y * solo_n p + k) (inside y k lt l)) ∙ row-listed p y lt

  column-cut : (h x : ℕ) → x < solo_n p → h ≡ solo_n p + x → piece h ≡ get_or (house_places p) h []
  column-cut h x lt is = rw is (piece-in (solo_n p + x) (λ k. k * solo_n p + x) (omega arith) (λ k l.
      let at : (solo_n p + x) * solo_n p + k ≡ solo_n p * solo_n p + (x * solo_n p + k) = omega arith in
      rw at (a.columns (x * solo_n p + k) (inside x k lt l) ∙ rw (mod-mul-add x (solo_n p) k l, div-mul-add x (solo_n p) k l) refl))
      ∙ column-listed p x lt)

  block-cut : (h b : ℕ) → b < solo_n p → h ≡ 2 * solo_n p + b → piece h ≡ get_or (house_places p) h []
  block-cut h b lt is = rw is (piece-in (2 * solo_n p + b) (block_cell p.c p.r b) (omega arith) (λ k l.
      let at : (2 * solo_n p + b) * solo_n p + k ≡ solo_n p * solo_n p + (solo_n p * solo_n p + (b * solo_n p + k)) = omega arith in
      rw at (a.blocks (b * solo_n p + k) (inside b k lt l) ∙ rw (mod-mul-add b (solo_n p) k l, div-mul-add b (solo_n p) k l) refl))
      ∙ block-listed p b lt)

  pub houses-cut : cut_evenly (solo_n p) all (3 * solo_n p) ≡ take (3 * solo_n p) (house_places p)
  houses-cut =
      let many = length-map-range_with_len piece 0 (3 * solo_n p) in
      let all_many = house_count p in
      let places_many = length-map (houses_of p) (places_of p) in
      ext_get_or [] _ _ (omega (arith, length-take (3 * solo_n p) (house_places p))) (λ h lt.
      let l : h < 3 * solo_n p = omega arith in
      get_or-map-range_with_len piece 0 (3 * solo_n p) h h [] l (omega arith)
      ∙ elim (cases_lt h (solo_n p)) [
        | inl row ↦ row-cut h row
        | inr later ↦ elim (cases_lt h (2 * solo_n p)) [
          | inl column ↦ column-cut h (h - solo_n p) (omega arith) (omega arith)
          | inr block ↦ block-cut h (h - 2 * solo_n p) (omega arith) (omega arith)
        ]
      ]
      ∙ sym (get_or-take (3 * solo_n p) (house_places p) h [] l))

-- the list of the houses but for diagonals, from a vector that was lent to be written
pub houses-listed : (p : Solo) (n room : ℕ) (all rest : List ℕ) {list : Listed} → n ≡ solo_n p → room ≡ length all
    → length all ≡ 3 * solo_n p * solo_n p → HasHouses p (solo_cells p) all
    → list ≡ record { closed = cut_evenly n (take room (all ++ rest)) (3 * n); begun = [] } → list ≡ first_listed p (3 * solo_n p)
houses-listed p n room all rest is whole long a e = e ∙ rw (is, whole, take-append_seam all rest, houses-cut p all long a) refl
