-- What notes beside a board tell of it.
use Rattle.engine_core.proofs.Common.{Candidates, IsInside, IsKept, IsLawful, IsWithin, Layout, List, RuleSystem, SameShape, Trail, after, and_parts, ap, arith, before_changes, cases_Bool, cases_eq, change_at, common_steps, count_below, eq-eqb, eqb-true, false, false_from_ne_true, given_back, has, has_bit, inl, inr, is_dead, is_dead-not, least_below, length, ne_eqb, only, refl, slice_index, sym, true, with_set, ℕ, ◌+◌, ◌≢◌, ◌<◌, ◌∙◌, ◌≡◌, ◌≤◌}
use Rattle.std.specs.Prelude.{take}
use Rattle.std.specs.List.{range_with_len}
use Rattle.std.proofs.lemmas.List.{get_or-take, length-take-le}
use Rattle.std.proofs.lemmas.List.FromFn.{get_or-range_with_len, length-range_with_len}
use Rattle.engine_core.specs.Notes.{IsMarkedOut, KeepsOnly, SameBut}
use Rattle.engine_core.specs.Trail.{trail_back_at}
use Rattle.grid_core.proofs.BoardLemmas.{count_below-few, count_below-pos, least_below-passes}
use Rattle.grid_core.proofs.TakingLemmas.{put_back-last, put_back-none}
use Rattle.engine_core.proofs.TrailLemmas.{kept-none, upto-all}

-- ---- without notes
-- all cells of the house are listed
pub plain-all : {p : RuleSystem} {h : ℕ} {K : Candidates} {left : List ℕ} (n : ℕ) → n ≡ length left → length (p.scope h) ≤ n
    → IsKept p h K true (take (length (p.scope h)) left)
    → IsMarkedOut p h K (length (p.scope h)) (range_with_len 0 n) left
plain-all {p} {h} {K} {left} n long le kept = record {
  few = omega (arith, length-range_with_len 0 n);
  strike =
      record {
        rising =
            record {
              within = λ t lt. omega (arith, here t lt, below t lt);
              rising = λ t u less lt. omega (arith, here t (omega arith), here u lt);
            };
        long = omega arith;
        kept = λ t lt v lv on. rw (here t lt) (ap (λ bits. has_bit bits v) (sym (get_or-take (length (p.scope h)) left t 0 (below t lt))) ∙ kept.bits refl t v (below t lt) lv (rw (here t lt) at on));
        others = λ k v lt none. absurd (none k (omega (arith, listed)) (here k (omega (arith, listed))));
      };
}
  where
    listed : length (take (length (p.scope h)) (range_with_len 0 n)) ≡ length (p.scope h)
    listed = length-take-le (length (p.scope h)) (range_with_len 0 n) (omega (arith, length-range_with_len 0 n))

    below : (t : ℕ) → t < length (take (length (p.scope h)) (range_with_len 0 n)) → t < length (p.scope h)
    below t lt = omega (arith, listed)

    here : (t : ℕ) → t < length (take (length (p.scope h)) (range_with_len 0 n)) → slice_index (take (length (p.scope h)) (range_with_len 0 n)) t ≡ t
    here t lt = omega (arith, get_or-take (length (p.scope h)) (range_with_len 0 n) t 0 (below t lt), get_or-range_with_len 0 n t 0 (omega (arith, below t lt)))

-- or none, where nothing is struck
pub plain-none : {p : RuleSystem} (laws : IsLawful p) {h : ℕ} {K : Candidates} {kept : List ℕ} (left : List ℕ) (n : ℕ) → h < p.houses → IsWithin p.cells p.values K
    → length (p.scope h) ≤ length left → IsKept p h K false kept
    → IsMarkedOut p h K 0 (range_with_len 0 n) left
plain-none {p} laws {h} {K} left n lth within le kept = grind (arith, common_steps, kept-none)

-- ---- the last change is taken back
pub shape-more : {a b c : Layout} → SameShape a b → SameShape b c → SameShape a c
shape-more first next = record { same_values = next.same_values ∙ first.same_values; same_cells = next.same_cells ∙ first.same_cells }

-- then the board differs in the cell of the change alone
given-but : (K : Candidates) (change : ℕ × ℕ) → SameBut change.0 K (given_back K change)
unfolding with_set
given-but K change c v other = grind (arith, common_steps, cases_Bool, ne_eqb)

pub last-but : (t : Trail) (n : ℕ) → n + 1 ≡ t.len → SameBut (change_at t.changes n).0 (has t.board) (trail_back_at t n)
last-but t n e =
    let last : before_changes (has t.board) t.changes n t.len ≡ given_back (has t.board) (change_at t.changes n) =
    rw (← e) (put_back-last given_back (0, 0) (has t.board) t.changes n n (omega arith) ∙ put_back-none given_back (0, 0) (given_back (has t.board) (change_at t.changes n)) t.changes n n (omega arith)) in
    rw last (given-but (has t.board) (change_at t.changes n))

-- ---- a board that loses values
-- the cells that have one value keep it, as long as each has one
pub alive-keeps : {cells values : ℕ} (K L : Candidates) → IsWithin cells values K → IsInside L K → is_dead cells values L ≡ false → KeepsOnly K L
alive-keeps {cells} {values} K L within inside alive c v alone w =
    let here = within c v (alone v ∙ eq-eqb v v refl) in
    let some = least_below-passes (L c) values (is_dead-not cells values L c alive here.0) in
    let u = least_below (L c) values in
    let is : u ≡ v = eqb-true u v (sym (alone u) ∙ inside c u some.1) in
    elim (cases_eq w v) [
      | inl e ↦ ap (L c) (e ∙ sym is) ∙ some.1 ∙ sym (eq-eqb w v e)
      | inr ne ↦ false_from_ne_true (L c w) (λ on. ne (eqb-true w v (sym (alone w) ∙ inside c w on))) ∙ sym (ne_eqb w v ne)
    ]

-- one cell, which has several values, may lose them
only-cell : (K : Candidates) (cell value : ℕ) (c w : ℕ) → c ≢ cell → only K cell value c w ≡ K c w
unfolding only
only-cell K cell value c w other = grind (arith, common_steps, cases_Bool, ne_eqb)

pub only-keeps : (K : Candidates) (cell value values : ℕ) → 2 ≤ count_below (K cell) values → KeepsOnly K (only K cell value)
only-keeps K cell value values several c v alone w = grind (arith, common_steps, cases_eq, count_below-few, eqb-true, only-cell)

-- the value that is left alone is one
only-is : (K : Candidates) (cell value k : ℕ) → only K cell value cell k ≡ true → k ≡ value
unfolding only
only-is K cell value k on = grind (arith, common_steps, cases_Bool, eq-eqb, eqb-true, and_parts)

only-has : (K : Candidates) (cell value : ℕ) → K cell value ≡ true → only K cell value cell value ≡ true
unfolding only
only-has K cell value on = grind (arith, common_steps, cases_Bool, eq-eqb)

pub only-one : (K : Candidates) (cell value values : ℕ) → value < values → K cell value ≡ true → count_below (only K cell value cell) values ≡ 1
only-one K cell value values lv on =
    let few = count_below-few (only K cell value cell) values (λ k j lk lj on_k on_j. only-is K cell value k on_k ∙ sym (only-is K cell value j on_j)) in
    let some = count_below-pos (only K cell value cell) values value lv (only-has K cell value on) in
    omega arith

-- ---- a visit that strikes from no cell
pub none-struck : {p : RuleSystem} (laws : IsLawful p) {h : ℕ} {K : Candidates} (numbers left : List ℕ) → h < p.houses → IsMarkedOut p h K 0 numbers left → K ≡ after p h K
none-struck laws numbers left lth m =
    upto-all laws lth (record { done = λ j v lt. sym (m.strike.others j v lt (λ t none e. absurd (omega arith))); rest = λ c v none. refl })
