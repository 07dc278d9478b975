-- Spreads from a value over what it leads to, and back: the values that come out are its part.
use Rattle.solo_core.proofs.Common.{AreParts, AreWholeParts, Bool, ComesAfter, ComesBefore, GoesTo, IsPart, IsSpreadAfter, IsSpreadBefore, IsWay, IsWritten, LiesOnRounds, List, StaysBefore, [], and-false, and_le_r, and_parts, ap, arith, bit_and, bit_or, both-bits, cases_Bool, cases_eq, cases_lt, common_steps, either-bits, eq-eqb, eqb, eqb-true, false, false_from_ne_true, has_bit, has_in, inl, inr, length, nat_tests, ne_eqb, not, or_cases, or_right, refl, slice_index, sym, true, true_from_ne_false, true≢false, zero-bits, ℕ, ◌&&◌, ◌+◌, ◌<◌, ◌^◌, ◌||◌, ◌∙◌, ◌∷◌, ◌≡◌, ◌≤◌}
use Rattle.solo_core.specs.Common.{IsFirstSet}
use Rattle.solo_core.proofs.BitLemmas.{none_in_zero, some_set}
use Rattle.solo_core.proofs.WayLemmas.{no_step, one_step, two_ways}

-- ---- spreads from the root, over the values that are left: of the values that are done, what they lead to is there
pub record IsSpreading (n : ℕ) (leads : ℕ → ℕ → Bool) (root left after done : ℕ) : Type 0 where
  pub has_root : has_bit after root ≡ true
  pub inside : (v : ℕ) → has_bit after v ≡ true → has_bit left v ≡ true
  pub ways : ComesAfter n leads root after
  pub led : (u v : ℕ) → has_bit done u ≡ true → leads u v ≡ true → has_bit left v ≡ true → has_bit after v ≡ true

marked : (bits root : ℕ) → ((v : ℕ) → has_bit bits v ≡ (has_bit 0 v || eqb v root)) → (v : ℕ) → has_bit bits v ≡ eqb v root
marked bits root is v = is v ∙ ap (λ b. b || eqb v root) (zero-bits v)

pub spreading-none : {n root left after : ℕ} (leads : ℕ → ℕ → Bool) → has_bit left root ≡ true
    → ((v : ℕ) → has_bit after v ≡ (has_bit 0 v || eqb v root)) → IsSpreading n leads root left after 0
spreading-none {root = root} {after = after} leads there is = record {
  has_root = marked after root is root ∙ eq-eqb root root refl;
  inside = λ v on. rw (eqb-true v root (sym (marked after root is v) ∙ on)) there;
  ways = λ v on. rw (eqb-true v root (sym (marked after root is v) ∙ on)) no_step;
  led = λ u v on. absurd (none_in_zero u on);
}

module _ {n root left after done : ℕ} (leads : List ℕ) (s : IsSpreading n (has_in leads) root left after done) where
  module _ (value : ℕ) (below : (v : ℕ) → has_bit left v ≡ true → v < n) (in_after : has_bit after value ≡ true) where
    more_bits : (v : ℕ) → has_bit (bit_or after (bit_and (slice_index leads value) left)) v ≡ (has_bit after v || (has_in leads value v && has_bit left v))
    more_bits v = either-bits after (bit_and (slice_index leads value) left) v ∙ ap (λ b. has_bit after v || b) (both-bits (slice_index leads value) left v)

    pub spreading-more : {new : ℕ} → ((v : ℕ) → has_bit new v ≡ (has_bit done v || eqb v value))
        → IsSpreading n (has_in leads) root left (bit_or after (bit_and (slice_index leads value) left)) new
    spreading-more is = record {
      has_root = grind (arith, more_bits root, s.has_root);
      inside = λ v on. grind (arith, common_steps, more_bits v, s.inside v);
      ways = λ v on. elim (or_cases (has_bit after v) (has_in leads value v && has_bit left v) (sym (more_bits v) ∙ on)) [
        | inl was ↦ s.ways v was
        | inr new ↦
            let both = and_parts (has_in leads value v) (has_bit left v) new in
            two_ways (s.ways value in_after) (one_step both.0 (below v both.1))
      ];
      led = λ u v on lead there. elim (or_cases (has_bit done u) (eqb u value) (sym (is u) ∙ on)) [
        | inl was ↦ let old = s.led u v was lead there in grind (arith, more_bits v)
        | inr new ↦ let lead' = ap (λ w. has_in leads w v) (sym (eqb-true u value new)) ∙ lead in grind (arith, more_bits v)
      ];
    }

  pub spread-left : after ≡ left → IsSpreadAfter n (has_in leads) root left after
  spread-left e = record { has_root = s.has_root; inside = s.inside; ways = s.ways; closed = λ u v on lead there. rw e there }

  pub spread-done : (others : ℕ) → ((v : ℕ) → has_bit others v ≡ (has_bit after v && not (has_bit done v))) → others ≡ 0
      → IsSpreadAfter n (has_in leads) root left after
  spread-done others is none = record {
    has_root = s.has_root;
    inside = s.inside;
    ways = s.ways;
    closed = λ u v on lead there. s.led u v (true_from_ne_false (has_bit done u)
        (λ off. none_in_zero u (ap (λ b. has_bit b u) (sym none) ∙ is u ∙ rw (on, off) refl))) lead there;
  }

-- ---- spreads to the root: of the values that are not left to look at, those that lead to one of the old are there
pub record IsSpreadingBack (n : ℕ) (leads : ℕ → ℕ → Bool) (after old more left : ℕ) : Type 0 where
  pub old_in : (v : ℕ) → has_bit old v ≡ true → has_bit more v ≡ true
  pub inside : (v : ℕ) → has_bit more v ≡ true → has_bit old v ≡ false → has_bit after v ≡ true
  pub ways : (root : ℕ) → ComesBefore n leads root old → ComesBefore n leads root more
  pub led : (u v : ℕ) → has_bit after u ≡ true → leads u v ≡ true → has_bit old v ≡ true → has_bit left u ≡ false → has_bit more u ≡ true
  pub left_in : (v : ℕ) → has_bit left v ≡ true → has_bit after v ≡ true
  pub apart : (v : ℕ) → has_bit left v ≡ true → has_bit more v ≡ false

pub back-none : {n after old left : ℕ} (leads : ℕ → ℕ → Bool) → ((v : ℕ) → has_bit left v ≡ (has_bit after v && not (has_bit old v)))
    → IsSpreadingBack n leads after old old left
back-none leads is = record {
  old_in = λ v on. on;
  inside = λ v on off. absurd (true≢false (sym on ∙ off));
  ways = λ root b. b;
  led = λ u v on lead there off. grind (arith, common_steps, is u);
  left_in = λ v on. grind (arith, common_steps, is v);
  apart = λ v on. grind (arith, common_steps, is v);
}

module _ {n after old more left : ℕ} (leads : List ℕ) (s : IsSpreadingBack n (has_in leads) after old more left) where
  module _ (value : ℕ) (there : has_bit left value ≡ true) (next : ℕ) (is : (v : ℕ) → has_bit next v ≡ (has_bit left v && not (eqb v value))) where
    lead_in : (u v : ℕ) → has_bit after u ≡ true → has_in leads u v ≡ true → has_bit old v ≡ true → has_bit next u ≡ false → (u ≡ value → ⊥)
        → has_bit more u ≡ true
    lead_in u v on lead was off ne = s.led u v on lead was (false_from_ne_true (has_bit left u)
        (λ l. true≢false (sym (is u ∙ rw (l, ne_eqb u value ne) refl) ∙ off)))

    still : (v : ℕ) → has_bit next v ≡ true → (has_bit left v ≡ true) × (v ≡ value → ⊥)
    still v on = let both = and_parts (has_bit left v) (not (eqb v value)) (sym (is v) ∙ on) in (both.0, λ e. grind (arith, nat_tests))

    pub back-skip : bit_and (slice_index leads value) more ≡ 0 → IsSpreadingBack n (has_in leads) after old more next
    back-skip none = record {
      old_in = s.old_in;
      inside = s.inside;
      ways = s.ways;
      led = λ u v on lead was off. elim (cases_eq u value) [
        | inl e ↦ absurd (none_in_zero v (ap (λ b. has_bit b v) (sym none) ∙ both-bits (slice_index leads value) more v
            ∙ rw (ap (λ w. has_in leads w v) (sym e) ∙ lead, s.old_in v was) refl))
        | inr ne ↦ lead_in u v on lead was off ne
      ];
      left_in = λ v on. s.left_in v (still v on).0;
      apart = λ v on. s.apart v (still v on).0;
    }

    pub back-more : ((v : ℕ) → has_bit after v ≡ true → v < n) → ((v : ℕ) → has_bit old v ≡ true → v < n) → more < 2 ^ 32 → (bit_and (slice_index leads value) more ≡ 0 → ⊥) → {new : ℕ}
        → ((v : ℕ) → has_bit new v ≡ (has_bit more v || eqb v value)) → IsSpreadingBack n (has_in leads) after old new next
    back-more below old_below low some {new} new_is = record {
      old_in = λ v on. new_is v ∙ rw (s.old_in v on) refl;
      inside = λ v on off. elim (or_cases (has_bit more v) (eqb v value) (sym (new_is v) ∙ on)) [
        | inl was ↦ s.inside v was off
        | inr e ↦ rw (eqb-true v value e) (s.left_in value there)
      ];
      ways = λ root b v on. elim (or_cases (has_bit more v) (eqb v value) (sym (new_is v) ∙ on)) [
        | inl was ↦ s.ways root b v was
        | inr e ↦
            let over = some_set (bit_and (slice_index leads value) more) (omega (arith, and_le_r (slice_index leads value) more)) (grind (arith, nat_tests)) in
            let both = and_parts (has_in leads value over.0) (has_bit more over.0) (sym (both-bits (slice_index leads value) more over.0) ∙ over.1) in
            let low_over : over.0 < n = elim (cases_Bool (has_bit old over.0)) [
              | inl was ↦ old_below over.0 was
              | inr off ↦ below over.0 (s.inside over.0 both.1 off)
            ] in
            rw (eqb-true v value e) (two_ways (one_step both.0 low_over) (s.ways root b over.0 both.1))
      ];
      led = λ u v on lead was off. elim (cases_eq u value) [
        | inl e ↦ new_is u ∙ ap (λ b. has_bit more u || b) (eq-eqb u value e) ∙ or_right (has_bit more u) true refl
        | inr ne ↦ new_is u ∙ ap (λ b. b || eqb u value) (lead_in u v on lead was off ne)
      ];
      left_in = λ v on. s.left_in v (still v on).0;
      apart = λ v on. new_is v ∙ rw (s.apart v (still v on).0) (ne_eqb v value (still v on).1);
    }

  pub back-done : left ≡ 0 → StaysBefore n (has_in leads) after old more
  back-done none = record {
    old_in = s.old_in;
    inside = s.inside;
    ways = s.ways;
    led = λ u v on lead was. s.led u v on lead was (ap (λ b. has_bit b u) none ∙ zero-bits u);
  }

-- ---- the root's values, once one pass more adds none, or once all are there
pub record IsSpreadingUp (n : ℕ) (leads : ℕ → ℕ → Bool) (root after before : ℕ) : Type 0 where
  pub has_root : has_bit before root ≡ true
  pub inside : (v : ℕ) → has_bit before v ≡ true → has_bit after v ≡ true
  pub ways : ComesBefore n leads root before

pub up-none : {n root after before : ℕ} (leads : ℕ → ℕ → Bool) → has_bit after root ≡ true
    → ((v : ℕ) → has_bit before v ≡ (has_bit 0 v || eqb v root)) → IsSpreadingUp n leads root after before
up-none {root = root} {before = after} leads there is = record {
  has_root = marked after root is root ∙ eq-eqb root root refl;
  inside = λ v on. rw (eqb-true v root (sym (marked after root is v) ∙ on)) there;
  ways = λ v on. rw (eqb-true v root (sym (marked after root is v) ∙ on)) no_step;
}

module _ {n root after old new : ℕ} {leads : ℕ → ℕ → Bool} (s : IsSpreadingUp n leads root after old) (b : StaysBefore n leads after old new) where
  pub up-more : IsSpreadingUp n leads root after new
  up-more = record {
    has_root = b.old_in root s.has_root;
    inside = λ v on. elim (cases_Bool (has_bit old v)) [
      | inl was ↦ s.inside v was
      | inr off ↦ b.inside v on off
    ];
    ways = b.ways root s.ways;
  }

  pub up-same : new ≡ old → IsSpreadBefore n leads root after new
  up-same e = let u = up-more in
      record { has_root = u.has_root; inside = u.inside; ways = u.ways; closed = λ w v on lead was. b.led w v on lead (rw e at was) }

  pub up-all : new ≡ after → IsSpreadBefore n leads root after new
  up-all e = let u = up-more in
      record { has_root = u.has_root; inside = u.inside; ways = u.ways; closed = λ w v on lead was. rw e on }

-- ---- parts
module _ {n root left after part : ℕ} (leads : ℕ → ℕ → Bool) (w : AreWholeParts n leads left)
    (a : IsSpreadAfter n leads root left after) (b : IsSpreadBefore n leads root after part) where
  -- what ties to the root is spread to, along the way there
  spread_on : (u v : ℕ) (way : List ℕ) → IsWay leads n u way v → has_bit after u ≡ true → GoesTo n leads root u → GoesTo n leads v root
      → has_bit after v ≡ true
  unfolding IsWay
  spread_on u v [] way on there back = rw (sym way) on
  spread_on u v (x ∷ rest) (lead, low, way) on there back =
      let to_x = two_ways there (one_step lead low) in
      let in_left = w.whole root x (a.inside root a.has_root) (to_x, two_ways (record { way = rest; leads_on = way }) back) in
      spread_on x v rest way (a.closed u x on lead in_left) to_x back

  -- and from there back
  spread_back : (u : ℕ) (way : List ℕ) → IsWay leads n u way root → GoesTo n leads root u → has_bit part u ≡ true
  unfolding IsWay
  spread_back u [] way there = rw way b.has_root
  spread_back u (x ∷ rest) (lead, low, way) there =
      let on = spread_on root u there.way there.leads_on a.has_root no_step (record { way = x ∷ rest; leads_on = (lead, low, way) }) in
      b.closed u x on lead (spread_back x rest way (two_ways there (one_step lead low)))

  pub part-spread : IsPart n leads root part
  part-spread = record {
    below = λ v on. w.below v (a.inside v (b.inside v on));
    tied = λ v on. (a.ways v (b.inside v on), b.ways v on);
    whole = λ v tied. spread_back v tied.1.way tied.1.leads_on tied.0;
  }

-- a part is that of each of its values
pub part-moved : {n root part : ℕ} {leads : ℕ → ℕ → Bool} (v : ℕ) → IsPart n leads root part → has_bit part v ≡ true → IsPart n leads v part
part-moved v p on =
    let t = p.tied v on in
    record {
      below = p.below;
      tied = λ w there. let o = p.tied w there in (two_ways t.1 o.0, two_ways o.1 t.0);
      whole = λ w o. p.whole w (two_ways t.0 o.0, two_ways o.1 t.1);
    }

-- the parts of the values that are not left stand there, and none is left before a number
pub record ArePartsBut (n : ℕ) (leads : ℕ → ℕ → Bool) (all : ℕ) (old new : List ℕ) (left from : ℕ) : Type 0 where
  pub as_many : length new ≡ length old
  pub within : from ≤ n
  pub passed : (v : ℕ) → v < from → has_bit left v ≡ false
  pub left_in : (v : ℕ) → has_bit left v ≡ true → has_bit all v ≡ true
  pub whole : AreWholeParts n leads left
  pub parts : (v : ℕ) → has_bit all v ≡ true → has_bit left v ≡ false → IsPart n leads v (slice_index new v)
  pub others : (v : ℕ) → has_bit all v ≡ false → slice_index new v ≡ slice_index old v

pub parts-none : {n all : ℕ} {leads : ℕ → ℕ → Bool} {old : List ℕ} → AreWholeParts n leads all → ArePartsBut n leads all old old all 0
parts-none w = record {
  as_many = refl;
  within = omega arith;
  passed = λ v lt. absurd (omega arith);
  left_in = λ v on. on;
  whole = w;
  parts = λ v on off. absurd (true≢false (sym on ∙ off));
  others = λ v off. refl;
}

module _ {n all left from : ℕ} {leads : ℕ → ℕ → Bool} {old new : List ℕ} (s : ArePartsBut n leads all old new left from) where
  module _ (root part next : ℕ) {written : List ℕ} (first : IsFirstSet left from n root) (p : IsPart n leads root part) (as_many : length written ≡ length new)
      (at : IsWritten part new written) (is : (v : ℕ) → has_bit next v ≡ (has_bit left v && not (has_bit part v))) where
    part_in : (v : ℕ) → has_bit part v ≡ true → has_bit left v ≡ true
    part_in v on = s.whole.whole root v first.2 (p.tied v on)

    root_in : has_bit part root ≡ true
    root_in = p.whole root (no_step, no_step)

    kept : (v : ℕ) → has_bit next v ≡ true → (has_bit left v ≡ true) × (has_bit part v ≡ false)
    kept v on = let both = and_parts (has_bit left v) (not (has_bit part v)) (sym (is v) ∙ on) in (both.0, grind (arith, nat_tests))

    pub parts-more : ArePartsBut n leads all old written next (root + 1)
    parts-more = record {
      as_many = as_many ∙ s.as_many;
      within = omega (arith, first.1);
      passed = λ v lt. elim (cases_eq v root) [
        | inl e ↦ is v ∙ rw (e, root_in) (and-false (has_bit left root))
        | inr ne ↦ elim (cases_lt v from) [
          | inl low ↦ is v ∙ rw (s.passed v low) refl
          | inr high ↦ is v ∙ rw (false_from_ne_true (has_bit left v) (λ on. first.3 v high (omega arith) on)) refl
        ]
      ];
      left_in = λ v on. s.left_in v (kept v on).0;
      whole = record {
        below = λ v on. s.whole.below v (kept v on).0;
        whole = λ u v on tied.
            let k = kept u on in
            is v ∙ rw (
              s.whole.whole u v k.0 tied,
              false_from_ne_true (has_bit part v)
                  (λ there. let t = p.tied v there in true≢false (sym (p.whole u (two_ways t.0 tied.1, two_ways tied.0 t.1)) ∙ k.1)),
            ) refl;
      };
      parts = λ v on off. elim (cases_Bool (has_bit part v)) [
        | inl there ↦ rw (at.here v there) (part-moved v p there)
        | inr out ↦ rw (at.others v out) (s.parts v on (false_from_ne_true (has_bit left v) (λ l. true≢false (sym (is v ∙ rw (l, out) refl) ∙ off))))
      ];
      others = λ v off. at.others v (false_from_ne_true (has_bit part v) (λ there. true≢false (sym (s.left_in v (part_in v there)) ∙ off))) ∙ s.others v off;
    }

    pub one-part : part ≡ all → LiesOnRounds n leads all
    one-part e = (root, λ v on. (p.tied v (rw e on)).0, λ v on. (p.tied v (rw e on)).1)

  pub parts-all : ((v : ℕ) → from ≤ v → v < n → has_bit left v ≡ true → ⊥) → AreParts n leads all old new
  parts-all none = record {
    parts = λ v on. s.parts v on (false_from_ne_true (has_bit left v) (λ l. elim (cases_lt v from) [
      | inl low ↦ true≢false (sym l ∙ s.passed v low)
      | inr high ↦ none v high (s.whole.below v l) l
    ]));
    others = s.others;
  }
