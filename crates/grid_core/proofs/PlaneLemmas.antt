-- Planes: their words, the board that they are, and the lines of the cells that lost values.
use Rattle.grid_core.proofs.Common.{ArePlanes, AreTurned, AreWords, Bool, Candidates, Column, Extent, HasLine, HasLost, HasRoomForTaking, IsFurther, IsInside, IsLineIn, IsTakingIn, IsThere, IsWithin, Layers, List, Row, Taking, and_from, and_parts, any_below, ap, arith, at_line, back_at, bit_of, cases_Bool, cases_eq, cases_lt, plane_cells, common_steps, covers, crosses, differ, div-add-mod', div-mul-add, eq-eqb, eqb, eqb-true, false, false_from_ne_true, fun_ext, planes_have, has_bit, inl, inr, le-ltb, length, length-set, line_len, lt-ltb, ltb, ltb-true, mod-mul-add, mul-le-mul_right, ne_eqb, no_taking, not, refl, set, sym, taking_at, total, true, true≢false, turned_by, without_taking, ℕ, ◌%◌, ◌&&◌, ◌*◌, ◌+◌, ◌-◌, ◌/◌, ◌<◌, ◌==◌, ◌∙◌, ◌≡◌, ◌≤◌}
use Rattle.grid_core.proofs.BoardLemmas.{any_below-none, any_below-some, total-lt}
use Rattle.grid_core.specs.declared.planes.line.Line.{Line}
use Rattle.grid_core.proofs.TakingLemmas.{put_back-noted, put_back-undone, takings-noted, takings-room, takings-undone}
use Rattle.grid_core.specs.Planes.{AreLinesOf}
use Rattle.grid_core.specs.declared.planes.touched_lines.Touched.{Touched}

-- The words of planes, and the board that they are.

-- ---- words
-- the cells of a line of the grid are in the grid
crossed-in : (size : Extent) (line : Line) (bits y x : ℕ) → IsLineIn size line bits → crosses line bits y x ≡ true → (y < size.h) × (x < size.w)
unfolding crosses
crossed-in size (Row k) bits y x within on = let w = and_parts _ _ on in (rw (eqb-true y k w.0) within.0, within.1 x w.1)
crossed-in size (Column k) bits y x within on = let w = and_parts _ _ on in (within.1 y w.1, rw (eqb-true x k w.0) within.0)

-- turned over, rows and columns still agree
pub words-turned : (size : Extent) (rows columns rows' columns' : List ℕ) (t : Taking) → AreWords size rows columns → AreTurned rows columns rows' columns' t
    → IsLineIn size t.line t.bits → AreWords size rows' columns'
unfolding differ
words-turned size rows columns rows' columns' t are turned within = record {
  within = λ y x v lt on. elim (cases_Bool (crosses t.line t.bits y x)) [
    | inl crossed ↦ crossed-in size t.line t.bits y x within crossed
    | inr off ↦ are.within y x v lt (same (eqb v t.value) _ _ (sym (turned.by_rows y v x lt) ∙ on) off)
  ];
  agree = λ y x v lt. turned.by_rows y v x lt
      ∙ ap (λ b. differ b (eqb v t.value && crosses t.line t.bits y x)) (are.agree y x v lt)
      ∙ sym (turned.by_columns x v y lt);
}
  where
    same : (value crossing before : Bool) → differ before (value && crossing) ≡ true → crossing ≡ false → before ≡ true
    same value crossing before on off = grind (arith, common_steps, cases_Bool)

-- so is the board
pub has-turned : (p p' : Layers) (t : Taking) → p'.size ≡ p.size → t.value < 2
    → AreTurned p.rows p.columns p'.rows p'.columns t → planes_have p' ≡ turned_by p.size.w (planes_have p) t
unfolding planes_have turned_by covers differ
has-turned p p' t e low turned = rw e (fun_ext λ c. fun_ext λ v.
    grind (arith, common_steps, cases_lt v 2, lt-ltb, le-ltb, ne_eqb, cases_Bool, turned.by_rows (c / p.size.w) v (c % p.size.w)))

-- ---- a taking
pub line_of_there : (size : Extent) (rows columns : List ℕ) (line : Line) (v bits : ℕ) → AreWords size rows columns → v < 2
    → ((y x : ℕ) → crosses line bits y x ≡ true → bit_of rows y v x ≡ true) → ((y : ℕ) × (x : ℕ) × (crosses line bits y x ≡ true)) → IsLineIn size line bits
unfolding crosses
line_of_there size rows columns (Row k) v bits are lt there some = grind (arith, and_parts, eqb-true, and_from, eq-eqb, are.within)
line_of_there size rows columns (Column k) v bits are lt there some = grind (arith, and_parts, eqb-true, and_from, eq-eqb, are.within)

room_of_line : (room : ℕ) (size : Extent) (rows columns v : ℕ) (line : Line) (bits : ℕ)
    → size.w ≤ room → size.h ≤ room → rows ≡ 2 * room → columns ≡ 2 * room → v < 2
    → IsLineIn size line bits
    → HasLine room rows columns line v bits
room_of_line room size rows columns v (Row k) bits narrow low tall wide lt within =
    (omega (arith, within.0), omega (arith, within.0), λ x on. let h = within.1 x on in (omega arith, omega arith))
room_of_line room size rows columns v (Column k) bits narrow low tall wide lt within =
    (omega (arith, within.0), omega (arith, within.0), λ y on. let h = within.1 y on in (omega arith, omega arith))

pub room_for : (room : ℕ) (p : Layers) (t : Taking) → ArePlanes room p → IsTakingIn p.size t → HasRoomForTaking room p.rows p.columns t
room_for room p t are within =
    (within.value_in, room_of_line room p.size (length p.rows) (length p.columns) t.value t.line t.bits are.narrow are.low are.tall are.wide within.value_in within.line_in)

pub taking_in : (room : ℕ) (p : Layers) (t : Taking) → ArePlanes room p → IsThere p t → IsTakingIn p.size t
taking_in room p t are there = record {
  line_in = line_of_there p.size p.rows p.columns t.line t.value t.bits are.words there.value_in there.there there.some;
  value_in = there.value_in;
}

-- what is there is taken by turning it over, and put back so
taken_is : (p : Layers) (t : Taking) → IsThere p t → turned_by p.size.w (planes_have p) t ≡ without_taking p.size.w (planes_have p) t
unfolding turned_by without_taking covers planes_have differ
taken_is p t there =
    fun_ext λ c. fun_ext λ v.
    grind (arith, common_steps, cases_Bool, cases_eq v t.value, eqb-true, lt-ltb, there.value_in, there.there (c / p.size.w) (c % p.size.w))

pub turned_twice : (w : ℕ) (K : Candidates) (t : Taking) → turned_by w (turned_by w K t) t ≡ K
unfolding turned_by differ
turned_twice w K t = fun_ext λ c. fun_ext λ v. grind (arith, common_steps, cases_Bool)

-- a cell by its row and column
pub place-in : (w h y x : ℕ) → y < h → x < w → y * w + x < w * h
place-in w h y x ly lx = let e : (y + 1) * w ≤ h * w = mul-le-mul_right w (omega arith) in omega arith

pub place-column : (w y x : ℕ) → x < w → (y * w + x) % w ≡ x
place-column w y x lt = mod-mul-add y w x lt

without-inside : (w : ℕ) (K : Candidates) (t : Taking) → IsInside (without_taking w K t) K
unfolding without_taking
without-inside w K t = λ c v on. (and_parts (K c v) (not (covers w t c v)) on).0

-- the cell that some taking is from loses it
taken-lost : (room : ℕ) (p : Layers) (t : Taking) → ArePlanes room p → IsThere p t → HasLost (planes_have p) (without_taking p.size.w (planes_have p) t)
unfolding without_taking covers planes_have
taken-lost room p t are there =
    let y = there.some.0 in
    let x = there.some.1 in
    let on = there.there y x there.some.2 in
    let within = are.words.within y x t.value there.value_in on in
    let row = div-mul-add y p.size.w x within.1 in
    let column = place-column p.size.w y x within.1 in
    let low = lt-ltb t.value 2 there.value_in in
    (y * p.size.w + x, t.value, rw (row, column, low, on) refl, rw (row, column, there.some.2, eq-eqb t.value t.value refl, low, on) refl)

-- the board has no other cells and values than the grid's
pub has-within : (p : Layers) (room : ℕ) → ArePlanes room p → IsWithin (plane_cells p) 2 (planes_have p)
unfolding planes_have
has-within p room are = grind (arith, and_parts, ltb, ltb-true, div-add-mod', place-in, are.words.within)

taken-fewer : (room : ℕ) (p : Layers) (t : Taking) → ArePlanes room p → IsThere p t
    → total (p.size.w * p.size.h) 2 (without_taking p.size.w (planes_have p) t) < total
    (p.size.w * p.size.h) 2 (planes_have p)
taken-fewer room p t are there =
    let w = taken-lost room p t are there in
    let within = has-within p room are w.0 w.1 w.2 in
    total-lt (p.size.w * p.size.h) 2 (without_taking p.size.w (planes_have p) t) (planes_have p) (without-inside p.size.w (planes_have p) t) w.0 w.1 within.0 within.1 w.3 w.2

none_of : (bits room n : ℕ) → n ≤ room → any_below (has_bit bits) room ≡ false → ((k : ℕ) → has_bit bits k ≡ true → k < n) → (k : ℕ) → has_bit bits k ≡ false
none_of bits room n fits none within k =
    false_from_ne_true _ (λ on. true≢false
    (sym on ∙ any_below-none (has_bit bits) room none k (let lt = within k on in omega arith)))

-- planes from which something was taken
pub record ArePlanesTaken (room : ℕ) (p p' : Layers) (t : Taking) : Type 0 where
  pub are : ArePlanes room p'
  pub left : planes_have p' ≡ without_taking p.size.w (planes_have p) t
  pub further : IsFurther p p'

pub room_to_note : (room : ℕ) (p : Layers) (t : Taking) → ArePlanes room p → IsThere p t → p.len < length p.takings
room_to_note room p t are there = takings-room p.size (planes_have p) (without_taking p.size.w (planes_have p) t) p.takings p.len are.takings (taken-fewer room p t are there)

pub taken : (room : ℕ) (p : Layers) (t : Taking) (rows columns : List ℕ) → ArePlanes room p
    → IsThere p t → AreTurned p.rows p.columns rows columns t → length rows ≡ length p.rows
    → length columns ≡ length p.columns
    → ArePlanesTaken room p (record { size = p.size; rows = rows; columns = columns; takings = set p.takings p.len t; len = p.len + 1 }) t
taken room p t rows columns are there turned tall wide =
    let p' : Layers = record { size = p.size; rows = rows; columns = columns; takings = set p.takings p.len t; len = p.len + 1 } in
    let within = taking_in room p t are there in
    let turn = has-turned p p' t refl there.value_in turned in
    let left : planes_have p' ≡ without_taking p.size.w (planes_have p) t = turn ∙ taken_is p t there in
    let fewer = rw (← left) at (taken-fewer room p t are there) in
    let back : turned_by p.size.w (planes_have p') t ≡ planes_have p = ap (λ (K : Candidates). turned_by p.size.w K t) turn ∙ turned_twice p.size.w (planes_have p) t in
    let lt = takings-room p.size (planes_have p) (planes_have p') p.takings p.len are.takings fewer in
    let inside : IsInside (planes_have p') (planes_have p) = rw left (without-inside p.size.w (planes_have p) t) in
    record {
      are = record {
        lawful = are.lawful;
        narrow = are.narrow;
        low = are.low;
        tall = tall ∙ are.tall;
        wide = wide ∙ are.wide;
        words = words-turned p.size p.rows p.columns rows columns t are.words turned within.line_in;
        takings = takings-noted p.size (planes_have p) (planes_have p') p.takings p.len t are.takings fewer inside within back;
      };
      left = left;
      further = record {
        same_size = refl;
        same_room = length-set p.takings p.len t;
        inside = inside;
        grows = omega arith;
        same = λ e. absurd (omega arith);
        lost = λ _. rw left (taken-lost room p t are there);
        back = λ m le. put_back-noted (turned_by p.size.w) no_taking (planes_have p) (planes_have p') p.takings m p.len t le lt back;
      };
    }

-- where nothing was taken, and taken in two steps
pub further-none : (p : Layers) → IsFurther p p
further-none p = grind (arith)

pub further-more : (p q r : Layers) → IsFurther p q → IsFurther q r → IsFurther p r
further-more p q r first next = record {
  same_size = next.same_size ∙ first.same_size;
  same_room = next.same_room ∙ first.same_room;
  inside = λ c v on. first.inside c v (next.inside c v on);
  grows = omega (arith, first.grows, next.grows);
  same = λ e. next.same (omega (arith, first.grows, next.grows)) ∙ first.same (omega (arith, first.grows, next.grows));
  lost = λ lt. elim (cases_lt p.len q.len) [
    | inl more ↦ let w = first.lost more in (w.0, w.1, w.2, false_from_ne_true _ (λ on. true≢false (sym (next.inside w.0 w.1 on) ∙ w.3)))
    | inr le ↦
        let same = first.same (omega (arith, first.grows)) in
        let w = next.lost (omega (arith, lt)) in (w.0, w.1, rw same at w.2, w.3)
  ];
  back = λ m le. next.back m (omega (arith, first.grows)) ∙ first.back m le;
}

-- what is taken of the cells that have it is what is taken of all
pub without-there : (p : Layers) (line : Line) (v bits there : ℕ) → ((k : ℕ) → has_bit there k ≡ (at_line p line v k && has_bit bits k))
    → without_taking p.size.w (planes_have p)
    (record { line = line; value = v; bits = there }) ≡ without_taking p.size.w (planes_have p)
    (record { line = line; value = v; bits = bits })
unfolding without_taking covers crosses planes_have
without-there p (Row n) v bits there is =
    fun_ext λ c. fun_ext λ u.
    grind (arith, common_steps, cases_Bool, cases_eq u v, cases_eq (c / p.size.w) n, eq-eqb, ne_eqb, is (c % p.size.w))
without-there p (Column n) v bits there is =
    fun_ext λ c. fun_ext λ u.
    grind (arith, common_steps, cases_Bool, cases_eq u v, cases_eq (c % p.size.w) n, eq-eqb, ne_eqb, is (c / p.size.w))

pub without-none : (p : Layers) (line : Line) (v bits room : ℕ) → line_len p.size line ≤ room
    → any_below (has_bit bits) room ≡ false
    → ((k : ℕ) → has_bit bits k ≡ true → k < line_len p.size line)
    → planes_have p ≡ without_taking p.size.w (planes_have p) (record { line = line; value = v; bits = bits })
unfolding without_taking covers crosses
without-none p (Row n) v bits room fits none within =
    fun_ext λ c. fun_ext λ u. rw (none_of bits room p.size.w fits none within (c % p.size.w))
    (grind (arith, common_steps, cases_Bool))
without-none p (Column n) v bits room fits none within =
    fun_ext λ c. fun_ext λ u. rw (none_of bits room p.size.h fits none within (c / p.size.w))
    (grind (arith, common_steps, cases_Bool))

there-by : (p : Layers) (line : Line) (v bits : ℕ)
    → ((k : ℕ) → has_bit bits k ≡ true → at_line p line v k ≡ true) → (y x : ℕ)
    → crosses line bits y x ≡ true → bit_of p.rows y v x ≡ true
unfolding crosses
there-by p (Row n) v bits there y x on = let w = and_parts _ _ on in rw (eqb-true y n w.0) (there x w.1)
there-by p (Column n) v bits there y x on = let w = and_parts _ _ on in rw (eqb-true x n w.0) (there y w.1)

some-by : (line : Line) (bits k : ℕ) → has_bit bits k ≡ true → (y : ℕ) × (x : ℕ) × (crosses line bits y x ≡ true)
unfolding crosses
some-by (Row n) bits k on = (n, k, and_from _ _ (eq-eqb n n refl) on)
some-by (Column n) bits k on = (k, n, and_from _ _ (eq-eqb n n refl) on)

pub is-there : (p : Layers) (line : Line) (v bits there room : ℕ) → v < 2 → ((k : ℕ) → has_bit there k ≡ (at_line p line v k && has_bit bits k))
    → any_below (has_bit there) room ≡ true → IsThere p (record { line = line; value = v; bits = there })
is-there p line v bits there room lt is some =
    let w = any_below-some (has_bit there) room some in
    record {
      value_in = lt;
      there = there-by p line v there (λ k on. (and_parts _ _ (sym (is k) ∙ on)).0);
      some = some-by line there w.0 w.2;
    }

-- planes with the last thing taken put back
pub record IsPutBack (room : ℕ) (p p' : Layers) : Type 0 where
  pub are : ArePlanes room p'
  pub back : (m : ℕ) → m < p.len → back_at p' m ≡ back_at p m

pub given_back : (room : ℕ) (p : Layers) (rows columns : List ℕ) (n : ℕ) → ArePlanes room p
    → n + 1 ≡ p.len → AreTurned p.rows p.columns rows columns (taking_at p.takings n)
    → length rows ≡ length p.rows → length columns ≡ length p.columns
    → IsPutBack room p (record {
      size = p.size;
      rows = rows;
      columns = columns;
      takings = p.takings;
      len = n;
    })
given_back room p rows columns n are e turned tall wide =
    let p' : Layers = record { size = p.size; rows = rows; columns = columns; takings = p.takings; len = n } in
    let n_is : n ≡ p.len - 1 = omega arith in
    let t = taking_at p.takings n in
    let within = are.takings.takings_in n (omega arith) in
    let turn : planes_have p' ≡ turned_by p.size.w (planes_have p) (taking_at p.takings (p.len - 1)) = rw (← n_is) (has-turned p p' t refl within.value_in turned) in
    record {
      are = record {
        lawful = are.lawful;
        narrow = are.narrow;
        low = are.low;
        tall = tall ∙ are.tall;
        wide = wide ∙ are.wide;
        words = words-turned p.size p.rows p.columns rows columns t are.words turned within.line_in;
        takings = rw (turn, n_is) (takings-undone p.size (planes_have p) p.takings p.len (omega arith) are.takings);
      };
      back = λ m lt. rw (turn, n_is) (put_back-undone (turned_by p.size.w) no_taking (planes_have p) p.takings m p.len lt);
    }

-- The lines of the cells that lost values.

-- the cells of takings from one number to another have their lines among these: takings of 0, or of 1
abbrev pub AreNoted : {W : Type 0} → (W → ℕ) → List Taking → ℕ → ℕ → Bool → Touched W → Type 0
AreNoted bits takings low high zero lines = (j y x : ℕ) → low ≤ j → j < high → ((taking_at takings j).value == 0) ≡ zero
    → crosses (taking_at takings j).line (taking_at takings j).bits y x ≡ true → AreLinesOf bits lines y x

-- one taking more
pub noted-more : {W : Type 0} (bits : W → ℕ) (takings : List Taking) (low k : ℕ) (zero : Bool) (before now : Touched W)
    → AreNoted bits takings low k zero before → ((y x : ℕ) → AreLinesOf bits before y x → AreLinesOf bits now y x)
    → (((taking_at takings k).value == 0) ≡ zero → (y x : ℕ) → crosses (taking_at takings k).line (taking_at takings k).bits y x ≡ true
    → AreLinesOf bits now y x) → AreNoted bits takings low (k + 1) zero now
noted-more bits takings low k zero before now noted keeps here j y x from lt is on = elim (cases_eq j k) [
  | inl e ↦ here (rw e at is) y x (rw e at on)
  | inr ne ↦ keeps y x (noted j y x from (omega (arith, lt, ne)) is on)
]
