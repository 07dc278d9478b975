-- What a visit of the open cells tells of the rules' house.
use Rattle.std.specs.Prelude.{IfNone, IfSome, None, Option, Some}
use Rattle.std.proofs.Math.Pow.{pow-lt}
use Rattle.solo_core.proofs.Common.{Candidates, IsSolo, List, PairsCells, Solo, arith, cases_Bool, eq-eqb, eqb, eqb-true, fillings_sound, filled_houses, get_or-map-range_with_len, get_or-replicate, has_bit, has_in, houses_lawful, houses_rules, inl, inr, is_struck, length, length-map-range_with_len, map, pow_pos, power-bits, range_with_len, refl, replicate, slice_index, solo_n, some_numbers, sym, take, ◌≤◌, true, true≢false, zero-bits, ℕ, ◌<◌, ◌^◌, ◌∙◌, ◌≡◌, ap}
unfoldable use Rattle.engine_core.specs.RuleSystem.{after}
use Rattle.engine_core.specs.ClosingList.{IsDeadAfter}
use Rattle.engine_core.specs.Keeping.{IsKept}
use Rattle.engine_core.proofs.TrailLemmas.{struck-dead}
use Rattle.solo_core.specs.Common.{IsBitsOf}
use Rattle.engine_core.specs.Notes.{IsMarkedOut}
use Rattle.engine_core.specs.Trail.{AreRising}
use Rattle.engine_core.specs.HouseSets.{AreBitsAt}
use Rattle.solo_core.specs.OpenHouses.{AreWholeOutside, IsOpenOf, IsVisitedOpen}
use Rattle.solo_core.proofs.MateLemmas.{decided_by_all, last, last-passes, shown_by_pairing}
use Rattle.solo_core.proofs.HouseLemmas.{kept-deciding, long-at}

module _ (p : Solo) (ok : IsSolo p) (h : ℕ) (lh : h < length (filled_houses p)) (K : Candidates) (kept : List ℕ)
    (visited : IsVisitedOpen (solo_n p) K ((houses_rules p).scope h) kept) where
  -- what is kept is what the house keeps
  pub open-kept : IsKept (houses_rules p) h K true kept
  open-kept = kept-deciding true p (fillings_sound p ok) lh K {sets = visited.sets} (record { as_many = visited.as_many; bits = visited.bits }) true
      (λ _. visited.left) (λ e. absurd (true≢false e))

  -- from a cell whose set is kept nothing is struck
  pub open-outside : (k : ℕ) → k < length ((houses_rules p).scope h) → IsBitsOf (K (slice_index ((houses_rules p).scope h) k)) (solo_n p) (slice_index kept k)
      → ((v : ℕ) → K (slice_index ((houses_rules p).scope h) k) v ≡ true → v < solo_n p)
      → (v : ℕ) → after (houses_rules p) h K (slice_index ((houses_rules p).scope h) k) v ≡ K (slice_index ((houses_rules p).scope h) k) v
  unfolding after
  open-outside k lk is within v = elim (cases_Bool (K (slice_index ((houses_rules p).scope h) k) v)) [
    | inl on ↦
        let lv = within v on in
        let b = open-kept.bits refl k v lk lv on in
        let same = is.same v lv in
        grind arith
    | inr off ↦ grind arith
  ]

-- where no filling is left, the visit leaves a cell without a value
pub open-dead : (p : Solo) (ok : IsSolo p) (h : ℕ) → h < length (filled_houses p) → (K : Candidates)
    → IsVisitedOpen (solo_n p) K ((houses_rules p).scope h) (replicate (solo_n p) 0) → 0 < length ((houses_rules p).scope h) → 0 < solo_n p
    → IsDeadAfter (houses_rules p) h K
unfolding after
open-dead p ok h lh K visited some n_some = struck-dead (houses_lawful p ok) K {k = 0} lh some (record {
  small = pow_pos (solo_n p);
  same = λ v lv. elim (cases_Bool (K (slice_index ((houses_rules p).scope h) 0) v)) [
    | inl on ↦
        let b = (open-kept p ok h lh K (replicate (solo_n p) 0) visited).bits refl 0 v some lv on in
        let none = ap (λ x. has_bit x v) (get_or-replicate {A = ℕ} (solo_n p) 0 0 0 n_some) in
        let z = zero-bits v in
        grind arith
    | inr off ↦ let z = zero-bits v in grind arith
  ];
})

-- ---- a house of which no cell is open
module _ (K : Candidates) (n : ℕ) (places : List ℕ) {values : ℕ} (square : length places ≡ n) (o : IsOpenOf (λ k v. K (slice_index places k) v) n 0 values) where
  abbrev value : ℕ → ℕ
  value k = last n (K (slice_index places k))

  abbrev mates : List ℕ
  mates = map value (range_with_len 0 n)

  abbrev pub closed-sets : List ℕ
  closed-sets = map (λ k. 2 ^ value k) (range_with_len 0 n)

  many : length closed-sets ≡ n
  many = length-map-range_with_len (λ k. 2 ^ value k) 0 n

  own-is : (k : ℕ) → k < n → (value k < n) × ((v : ℕ) → K (slice_index places k) v ≡ eqb v (value k))
  own-is k lk =
      let c = o.closed k lk (zero-bits k) in
      let on = last-passes n (K (slice_index places k)) c.value c.value_in (c.alone c.value ∙ eq-eqb c.value c.value refl) in
      let e : value k ≡ c.value = eqb-true (value k) c.value (sym (c.alone (value k)) ∙ on) in
      (omega (arith, e, c.value_in), λ v. c.alone v ∙ ap (eqb v) (sym e))

  has-own : (k v : ℕ) → k < n → has_in closed-sets k v ≡ eqb v (value k)
  has-own k v lk = ap (λ x. has_bit x v) (get_or-map-range_with_len (λ j. 2 ^ value j) 0 n k k 0 lk (omega arith)) ∙ power-bits (value k) v

  mate-is : (k : ℕ) → k < n → slice_index mates k ≡ value k
  mate-is k lk = get_or-map-range_with_len value 0 n k k 0 lk (omega arith)

  pairs : PairsCells n closed-sets mates
  pairs = record {
    len = length-map-range_with_len value 0 n ∙ sym many;
    in_range = λ k lk. let l : k < n = omega (arith, many) in rw (mate-is k l) (own-is k l).0;
    joined = λ k lk. let l : k < n = omega (arith, many) in has-own k (slice_index mates k) l ∙ eq-eqb (slice_index mates k) (value k) (mate-is k l);
    own = λ j k lj lk same.
        let l : j < n = omega (arith, many) in
        let m : k < n = omega (arith, many) in
        o.different j k (value j) l m (zero-bits j) (zero-bits k) ((own-is j l).1 (value j) ∙ eq-eqb (value j) (value j) refl)
        ((own-is k m).1 (value j) ∙ eq-eqb (value j) (value k) (sym (mate-is j l) ∙ same ∙ mate-is k m));
  }

  pub closed-bits : AreBitsAt n places K closed-sets
  closed-bits k lk =
      let l : k < n = omega (arith, square) in
      record {
        small = rw (get_or-map-range_with_len (λ j. 2 ^ value j) 0 n k k 0 l (omega arith)) (pow-lt (own-is k l).0);
        same = λ v lv. has-own k v l ∙ sym ((own-is k l).1 v);
      }

  pub closed-visited : IsVisitedOpen n K places closed-sets
  closed-visited = record {
    sets = closed-sets;
    as_many = many ∙ sym square;
    bits = closed-bits;
    left = decided_by_all (λ k v lk lv has.
        let l : k < n = omega (arith, many) in
        let e = eqb-true v (value k) (sym (has-own k v l) ∙ has) in
        ap (is_struck n closed-sets k) (e ∙ sym (mate-is k l)) ∙ shown_by_pairing closed-sets pairs k);
  }

-- ---- what a visit marks out, by what it keeps and lists
module _ (p : Solo) (ok : IsSolo p) (h : ℕ) (lh : h < length (filled_houses p)) (K : Candidates)
    (within : (c v : ℕ) → K c v ≡ true → v < solo_n p) {values : ℕ} {places : List ℕ} (v_is : values ≡ solo_n p) (s_is : places ≡ (houses_rules p).scope h) where
  long : length ((houses_rules p).scope h) ≡ solo_n p
  long = long-at _ p lh ok

  marked : {kept rest : List ℕ} (count : ℕ) → IsVisitedOpen (solo_n p) K ((houses_rules p).scope h) kept → length kept ≡ solo_n p → count ≤ length rest
      → AreRising (solo_n p) (take count rest) → AreWholeOutside (solo_n p) K ((houses_rules p).scope h) (take count rest) kept
      → IsMarkedOut (houses_rules p) h K count rest kept
  marked {kept} {rest} count visited full few rising whole = record {
    few = few;
    strike = record {
      rising = rw long rising;
      long = omega (arith, long, full);
      kept = λ t lt v lv on. (open-kept p ok h lh K kept visited).bits refl (slice_index (take count rest) t) v (omega (arith, long, rising.within t lt)) lv on;
      others = λ k v lk out. open-outside p ok h lh K kept visited k lk (whole k lk out) (within _) v;
    };
  }

  -- where no cell is open, none
  pub marked-none : {free : ℕ} (kept rest : List ℕ) → solo_n p ≤ length kept → IsOpenOf (λ k v. K (slice_index places k) v) values 0 free
      → IsMarkedOut (houses_rules p) h K 0 rest kept
  marked-none kept rest full closed =
      let o = rw (v_is, s_is) at closed in
      let none : length (take 0 rest) ≡ 0 = refl in
      record {
        few = omega arith;
        strike = record {
          rising = record { within = λ t lt. absurd (omega (arith, none)); rising = λ t u lt lu. absurd (omega (arith, none)) };
          long = omega (arith, long, full);
          kept = λ t lt. absurd (omega (arith, none));
          others = λ k v lk out. open-outside p ok h lh K (closed-sets K (solo_n p) _ long o) (closed-visited K (solo_n p) _ long o) k lk
              (closed-bits K (solo_n p) _ long o k lk) (within _) v;
        };
      }

  pub struck-if : (kept rest : List ℕ) → length kept ≡ solo_n p → (r : Option ℕ) → IfSome r (λ _. IsVisitedOpen values K places kept) → IfSome r (λ count. count ≤ length rest)
      → IfSome r (λ count. AreRising values (take count rest)) → IfSome r (λ count. AreWholeOutside values K places (take count rest) kept)
      → IfSome r (λ count. IsMarkedOut (houses_rules p) h K count rest kept)
  struck-if kept rest full None visited few rising whole = tt
  struck-if kept rest full (Some count) visited few rising whole = marked count (rw (v_is, s_is) at visited) full few (rw v_is at rising) (rw (v_is, s_is) at whole)

  pub dead-if : (r : Option ℕ) → IfNone r (IsVisitedOpen values K places (replicate values 0)) → IfNone r (IsDeadAfter (houses_rules p) h K)
  dead-if (Some count) visited = tt
  dead-if None visited = open-dead p ok h lh K (rw (v_is, s_is) at visited) (omega (arith, long, some_numbers ok)) (some_numbers ok)
