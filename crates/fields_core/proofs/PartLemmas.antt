-- Visits of count houses by pieces of lines.
use Rattle.fields_core.proofs.Common.{ArePartsCounted, ArePieces, ArePlanesAlive, Bool, Candidates, CountHouse, Extent, IsBroken, IsCount, IsHouseOfPieces, IsTally, Layers, List, Piece, add-one, after_house, and-false, and-true, and_comm, and_from, and_parts, any_below, any_below-some, ap, arith, at_line, cases_Bool, cases_eq, plane_cells, common_steps, count_below, count_below-bound, count_below-none, count_below-pos, count_below-same, count_by, covers, crosses, distinct-from, eq-eqb, eqb, false, false_from_ne_true, fun_ext, planes_have, has_bit, has_place, has_place-at, inl, inr, is_empty, is_open, le-ltb, length, lies_in, lies_in_first, line_len, lines_beside, lt-ltb, ltb, ltb-true, ne_eqb, not, number_of, piece_at, refl, slice_index, suc, sym, true, without_taking, without_value, zero, ℕ, ◌%◌, ◌&&◌, ◌+◌, ◌-◌, ◌/◌, ◌<◌, ◌||◌, ◌∙◌, ◌≡◌, ◌≢◌, ◌≤◌, ◌⊎◌}
pub use Rattle.grid_core.proofs.PlaneSteps.{value-in}
use Rattle.fields_core.proofs.CountKept.{after-at, off-scope}
use Rattle.fields_core.proofs.CellLemmas.{count-apart, line-count, crosses-both, place-count}

-- ---- the cells of the first pieces
lies-more : (w : ℕ) (pieces : List Piece) (n c : ℕ) {piece : Piece} → piece_at pieces n ≡ piece
    → lies_in_first w pieces (n + 1) c ≡ (lies_in_first w pieces n c || lies_in w piece c)
unfolding lies_in_first any_below
lies-more w pieces n c e = grind (arith, common_steps, add-one)

lies-is : (w : ℕ) (piece : Piece) (c : ℕ) → lies_in w piece c ≡ crosses piece.line piece.bits (c / w) (c % w)
unfolding lies_in
lies-is w piece c = refl

next-apart : {size : Extent} {pieces : List Piece} {n : ℕ} (c : ℕ) {piece : Piece}
    → piece_at pieces n ≡ piece → ArePieces size pieces → n < length pieces
    → lies_in_first size.w pieces n c ≡ true → lies_in size.w piece c ≡ true → ⊥
unfolding lies_in_first
next-apart {size} {pieces} c e are lt first next = grind (arith, common_steps, any_below-some)

pub line_in : {size : Extent} {pieces : List Piece} {n : ℕ} {piece : Piece} → ArePieces size pieces
    → n < length pieces → piece_at pieces n ≡ piece
    → number_of piece.line < lines_beside size piece.line
line_in {size} {n} are lt e = grind (arith, common_steps, number_of)

-- of a word of the next piece's cells that pass a test, as many pass more
pub counted-more : (p : Layers) {pieces : List Piece} (n there : ℕ) {room : ℕ} {piece : Piece}
    (test : ℕ → Bool) → piece_at pieces n ≡ piece → ArePieces p.size pieces → n < length pieces
    → line_len p.size piece.line ≤ room
    → ((k : ℕ) → has_bit there k ≡ true → k < line_len p.size piece.line)
    → ((c : ℕ) → crosses piece.line there (c / p.size.w) (c % p.size.w) ≡ (lies_in p.size.w piece c && test c))
    → count_below (λ c. lies_in_first p.size.w pieces n c && test c) (plane_cells p) + count_below
    (has_bit there) room ≡ count_below (λ c. lies_in_first p.size.w pieces (n + 1) c && test c)
    (plane_cells p)
counted-more p {pieces} n there {room} {piece} test e are lt fits within is =
    let here =
    line-count p.size piece.line there room (line_in are lt e) fits within
    ∙ count_below-same (λ c. crosses piece.line there (c / p.size.w) (c % p.size.w)) (λ c. lies_in p.size.w piece c && test c) _ (λ c _. is c) in
    rw here
    (sym (count_below-same (λ c. lies_in_first p.size.w pieces (n + 1) c && test c)
    (λ c. (lies_in_first p.size.w pieces n c || lies_in p.size.w piece c) && test c)
    _
    (λ c _. ap (λ b. b && test c) (lies-more p.size.w pieces n c e))
    ∙ count-apart _ _ test _
    (λ c _ first next. next-apart c e are lt first next)))

pub counted-none : (w : ℕ) (pieces : List Piece) (cells : ℕ) (test : ℕ → Bool) → 0 ≡ count_below (λ c. lies_in_first w pieces 0 c && test c) cells
unfolding lies_in_first any_below
counted-none w pieces cells test = sym (count_below-none (λ c. false && test c) cells (λ c lt. refl))

-- of cells that have a value, those without 0 and those with both are those with 1
count-split : (inside zero_on one_on : ℕ → Bool) (n : ℕ) → ((c : ℕ) → c < n → (zero_on c ≡ true) ⊎ (one_on c ≡ true))
    → count_below (λ c. inside c && not (zero_on c)) n + count_below (λ c. inside c && (zero_on c && one_on c)) n ≡ count_below (λ c. inside c && one_on c) n
unfolding count_below
count-split inside zero_on one_on zero full = refl
count-split inside zero_on one_on (suc n) full =
    let rest = count-split inside zero_on one_on n (λ c lt. full c (omega arith)) in
    grind (arith, common_steps, cases_Bool (inside n), cases_Bool (zero_on n), cases_Bool (one_on n), rest, full n)

-- ---- the cells of the first pieces, counted
pub counted-first : {p : Layers} {pieces : List Piece} → IsCount p pieces 0 0 0
counted-first {p} {pieces} = record {
  may_is = counted-none p.size.w pieces _ (λ c. planes_have p c 1);
  undecided_is = counted-none p.size.w pieces _ (λ c. is_open (planes_have p) c);
}

-- one piece more, whose words are those of its cells that can have 1, and that can have both
pub counted-next : {p : Layers} {pieces : List Piece} {n may undecided : ℕ} (ones both none : ℕ) {room : ℕ}
    {piece : Piece} → piece_at pieces n ≡ piece → ArePieces p.size pieces → n < length pieces
    → line_len p.size piece.line ≤ room
    → ((k : ℕ) → has_bit ones k ≡ (at_line p piece.line 1 k && has_bit piece.bits k))
    → ((k : ℕ) → has_bit both k ≡ (has_bit ones k && has_bit none k))
    → ((k : ℕ) → has_bit none k ≡ at_line p piece.line 0 k)
    → ((k : ℕ) → has_bit ones k ≡ true → k < line_len p.size piece.line)
    → IsCount p pieces n may undecided → IsCount p pieces (n + 1) (may + count_below (has_bit ones) room) (undecided + count_below (has_bit both) room)
counted-next {p} {n} ones both none {room} {piece} e are lt fits ones_is both_is none_is within first =
    let one_at : (c : ℕ) → crosses piece.line ones (c / p.size.w) (c % p.size.w) ≡ (lies_in p.size.w piece c && planes_have p c 1) = λ c.
    crosses-both p piece.line piece.bits ones 1 c (omega arith) ones_is ∙ ap (λ b. b && planes_have p c 1) (sym (lies-is p.size.w piece c)) in
    let both_at : (c : ℕ) → crosses piece.line both (c / p.size.w) (c % p.size.w) ≡ (lies_in p.size.w piece c && is_open (planes_have p) c) = λ c.
    crosses-both p piece.line ones both 0 c (omega arith) (λ k. both_is k ∙ rw (none_is k) (and_comm (has_bit ones k) (at_line p piece.line 0 k)))
    ∙ rw (one_at c) (grind (arith, common_steps, cases_Bool (lies_in p.size.w piece c), cases_Bool (planes_have p c 1), cases_Bool (planes_have p c 0))) in
    record {
      may_is = rw (first.may_is) (counted-more p n ones (λ c. planes_have p c 1) e are lt fits within one_at);
      undecided_is =
          rw (first.undecided_is) (counted-more p n both (λ c. is_open (planes_have p) c)
          e are lt fits (λ k on. within k (and_parts _ _ (sym (both_is k) ∙ on)).0) both_at);
    }

pub counted-small : {p : Layers} {pieces : List Piece} {n may undecided : ℕ} → IsCount p pieces n may undecided → (may ≤ plane_cells p) × (undecided ≤ plane_cells p)
counted-small {p} {pieces} {n} counted = grind (arith, common_steps, count_below-bound, planes_have)

-- ---- the house of all pieces
pub counted-fewer : {p : Layers} {pieces : List Piece} {may undecided : ℕ} → ArePlanesAlive p → ArePartsCounted p pieces may undecided → undecided ≤ may
counted-fewer {p} {pieces} alive counted =
    omega (arith, counted.may_is, counted.undecided_is, count-split (lies_in_first p.size.w pieces (length pieces)) (λ c. planes_have p c 0) (λ c. planes_have p c 1) (plane_cells p) alive)

tally-of : (p : Layers) {pieces : List Piece} {may undecided least most : ℕ} {house : CountHouse}
    → ArePlanesAlive p → ArePartsCounted p pieces may undecided → IsHouseOfPieces p.size pieces least most house
    → IsTally (planes_have p) house.places (record { must = may - undecided; may = may; empty = 0 })
tally-of p {pieces} {house} alive counted of =
    let inside = lies_in_first p.size.w pieces (length pieces) in let distinct = distinct-from house.places of.is.different in
    let counts : (test : ℕ → Bool) → count_by test house.places ≡ count_below (λ c. inside c && test c) (plane_cells p) = λ test.
    place-count test house.places (plane_cells p) distinct of.is.within
    ∙ count_below-same (λ c. has_place house.places c && test c) (λ c. inside c && test c) _ (λ c _. ap (λ b. b && test c) (of.cells c)) in
    let split = count-split inside (λ c. planes_have p c 0) (λ c. planes_have p c 1) _ alive in
    record {
      must_is = omega (arith, counts (λ c. not (planes_have p c 0)), counted.may_is, counted.undecided_is, split);
      may_is = counted.may_is ∙ sym (counts (λ c. planes_have p c 1));
      empty_is = sym (counts (is_empty (planes_have p)) ∙ count_below-none (λ c. inside c && is_empty (planes_have p) c) _ (λ c lt. none c (alive c lt)));
    }
  where
    none : (c : ℕ) → (planes_have p c 0 ≡ true) ⊎ (planes_have p c 1 ≡ true) → (lies_in_first p.size.w pieces (length pieces) c && is_empty (planes_have p) c) ≡ false
    none c some = grind (arith, common_steps, cases_Bool)

-- ---- a visit
-- whether the value is struck from undecided cells
abbrev pub at_bound : ℕ → ℕ → ℕ → ℕ → ℕ → Bool
at_bound least most must may v = (eqb v 1 && eqb must most) || (eqb v 0 && eqb may least)

module _ (p : Layers) (pieces : List Piece) (may undecided least most : ℕ) (alive : ArePlanesAlive p)
    (counted : ArePartsCounted p pieces may undecided) (order : least ≤ most)
    (house : CountHouse) (of : IsHouseOfPieces p.size pieces least most house) where
  abbrev inside : ℕ → Bool
  inside = lies_in_first p.size.w pieces (length pieces)

  -- a board that lost just what is struck is the one after the visit
  visited : {L : Candidates} → least ≤ may → may - undecided ≤ most
      → ((c v : ℕ) → v < 2 → planes_have p c v ≡ true → L c v ≡ not (inside c && (is_open (planes_have p) c && at_bound least most (may - undecided) may v)))
      → ((c v : ℕ) → planes_have p c v ≡ false → L c v ≡ false) → L ≡ after_house house (planes_have p)
  unfolding after_house
  visited enough spare left gone = fun_ext λ c. fun_ext λ v. elim (cases_Bool (planes_have p c v)) [
    | inr off ↦ gone c v off ∙ rw off refl
    | inl on ↦ left c v (value-in p c v on) on ∙ elim (cases_Bool (has_place house.places c)) [
      | inr out ↦ rw (on, off-scope house (planes_have p) c v out, sym (of.cells c) ∙ out) refl
      | inl there ↦
          let w = has_place-at house.places c there in
          let at =
          after-at (plane_cells p) house (planes_have p)
          (record { must = may - undecided; may = may; empty = 0 }) of.is
          (tally-of p alive counted of) w.1
          (value-in p c v on) in
          rw (sym (of.cells c) ∙ there)
          (sym ((rw w.2 at at) ∙ rw (on, of.least_is, of.most_is, le-ltb _ _ order, le-ltb _ _ enough, le-ltb _ _ spare) refl))
    ]
  ]

  pub visited-idle : least ≤ may → may - undecided ≤ most
      → ((c v : ℕ) → v < 2 → (inside c && (is_open (planes_have p) c && at_bound least most (may - undecided) may v)) ≡ false)
      → planes_have p ≡ after_house house (planes_have p)
  visited-idle enough spare none = visited enough spare (λ c v low on. on ∙ ap not (sym (none c v low))) (λ c v off. off)

  pub visited-struck : {value : ℕ} → value < 2 → least ≤ may → may - undecided ≤ most
      → ((v : ℕ) → v < 2 → at_bound least most (may - undecided) may v ≡ eqb v value)
      → without_value p.size.w pieces (length pieces) value (planes_have p) ≡ after_house house (planes_have p)
  unfolding without_value
  visited-struck {value} lt enough spare bound = visited enough spare
      (λ c v low on. rw (on, bound v low) (by c (inside c) v low on (cases_eq v value)))
      (λ c v off. rw off refl)
    where
      by : (c : ℕ) (b : Bool) (v : ℕ) → v < 2 → planes_have p c v ≡ true → (v ≡ value) ⊎ (v ≢ value)
          → not (eqb v value && (planes_have p c (1 - value) && b)) ≡ not
          (b && (is_open (planes_have p) c && eqb v value))
      by c b v low on (inr ne) = rw (ne_eqb _ _ ne) (grind (arith, common_steps, cases_Bool))
      by c b zero low on (inl e) = rw (← e) (rw on (grind (arith, common_steps, cases_Bool)))
      by c b (suc zero) low on (inl e) = rw (← e) (rw on (grind (arith, common_steps, cases_Bool)))
      by c b (suc (suc v)) low on (inl e) = absurd (omega arith)

  -- a house with too few or too many ones
  pub broken : (may < least) ⊎ (most < may - undecided) → IsBroken house (planes_have p)
  broken lacks c v there low =
      let w = has_place-at house.places c there in
      let gone : after_house house (planes_have p) (slice_index house.places w.0) v ≡ false =
      after-at (plane_cells p) house (planes_have p) (record { must = may - undecided; may = may; empty = 0 })
      of.is (tally-of p alive counted of) w.1 low
      ∙ rw (of.least_is, of.most_is, none lacks) (and-false (planes_have p (slice_index house.places w.0) v)) in
      rw w.2 at gone
    where
      none : (may < least) ⊎ (most < may - undecided) → (ltb most least || (ltb may least || ltb most (may - undecided))) ≡ true
      none (inl few) = rw (le-ltb _ _ order, lt-ltb _ _ few) refl
      none (inr many) = rw (le-ltb _ _ order, lt-ltb _ _ many) (grind (arith, common_steps, cases_Bool))

-- where nothing is undecided, no cell is
pub none-undecided : {p : Layers} {pieces : List Piece} {may undecided : ℕ} (c : ℕ) {least most : ℕ} (at : Bool)
    {house : CountHouse} → IsHouseOfPieces p.size pieces least most house
    → ArePartsCounted p pieces may undecided → undecided ≡ 0
    → (lies_in_first p.size.w pieces (length pieces) c && (is_open (planes_have p) c && at)) ≡ false
none-undecided {p} {pieces} c at of counted none = false_from_ne_true _ (λ on.
    let parts = and_parts _ _ on in let open_here = and_parts _ _ parts.1 in
    let lt = of.is.within c (of.cells c ∙ parts.0) in
    let pos =
    count_below-pos (λ c. lies_in_first p.size.w pieces (length pieces) c && is_open (planes_have p) c)
    _ c lt (and_from _ _ parts.0 open_here.0) in
    absurd (omega (arith, counted.undecided_is)))

-- which bound is reached
pub bound-reached : {least most must may value : ℕ} → ((least < may) × (most ≤ must)) ⊎ (may ≤ least) → least ≤ may → must ≤ most → must < may → least ≤ most
    → (must ≡ most → value ≡ 1) → ((must ≡ most → ⊥) → value ≡ 0)
    → (value < 2) × ((v : ℕ) → v < 2 → at_bound least most must may v ≡ eqb v value)
bound-reached {least} {most} {must} {may} {value} reached enough spare room order one none = grind (arith, common_steps, cases_eq, eq-eqb, ne_eqb)

-- ---- strikes
pub struck-more : (p q : Layers) (pieces : List Piece) (n : ℕ) {value : ℕ} (other : ℕ) {piece : Piece}
    → piece_at pieces n ≡ piece → q.size ≡ p.size → value < 2
    → planes_have q ≡ without_value p.size.w pieces n value (planes_have p)
    → ((k : ℕ) → has_bit other k ≡ (at_line q piece.line (1 - value) k && has_bit piece.bits k))
    → without_taking q.size.w (planes_have q) (record { line = piece.line; value = value; bits = other }) ≡ without_value p.size.w pieces (n + 1) value (planes_have p)
unfolding without_taking covers without_value
struck-more p q pieces n {value} other {piece} e size lt left is = fun_ext λ c. fun_ext λ v.
    let both : crosses piece.line other (c / q.size.w)
    (c % q.size.w) ≡ (crosses piece.line piece.bits (c / q.size.w) (c % q.size.w) && planes_have q c
    (1 - value)) = crosses-both q piece.line piece.bits other (1 - value) c (omega arith) is in
    let first : planes_have q c v ≡ (planes_have p c v && not (eqb v value && (planes_have p c (1 - value) && lies_in_first p.size.w pieces n c))) =
    ap (λ (L : Candidates). L c v) left in
    let stays : planes_have q c (1 - value) ≡ planes_have p c (1 - value) =
    ap (λ (L : Candidates). L c (1 - value)) left
    ∙ rw (ne_eqb (1 - value) value (λ e. absurd (omega arith)))
    (and-true (planes_have p c (1 - value))) in
    let at : crosses piece.line piece.bits (c / q.size.w) (c % q.size.w) ≡ lies_in p.size.w piece
    c = ap (λ (s : Extent). crosses piece.line piece.bits (c / s.w) (c % s.w)) size
    ∙ sym (lies-is p.size.w piece c) in
    rw (both, first, stays, at, lies-more p.size.w pieces n c e)
    (grind (arith, common_steps, cases_Bool (planes_have p c v), cases_Bool (eqb v value), cases_Bool (planes_have p c (1 - value)), cases_Bool (lies_in_first p.size.w pieces n c), cases_Bool (lies_in p.size.w piece c)))

pub struck-none : (w : ℕ) (pieces : List Piece) (value : ℕ) {K : Candidates} → K ≡ without_value w pieces 0 value K
unfolding without_value lies_in_first any_below
struck-none w pieces value = grind (arith, common_steps)

-- each cell still has a value
pub struck-alive : (p q : Layers) (pieces : List Piece) (n value : ℕ) → q.size ≡ p.size → value < 2
    → ArePlanesAlive p → planes_have q ≡ without_value p.size.w pieces n value (planes_have p) → ArePlanesAlive q
unfolding without_value
struck-alive p q pieces n value size lt alive left c lc = grind (arith, common_steps, cases_Bool)
