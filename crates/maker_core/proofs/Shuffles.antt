-- Draws, shuffles and orders.
use Rattle.maker_core.proofs.Common.{All-from_get_or, All-get_or, All-permutation, Chooser, HasWords, IsDistinct-IsPermutation, IsDistinct-from_apart, IsLineOrder, IsOrder, IsPermutation, IsPermutation-swap, IsPermutation-trans, List, Stream, [], add-one, ap, apart_from_distinct, append_assoc, arith, canon, carry_room, chooser_at, chooser_next, chooser_refill, chunk_of, common_steps, cond_both, div-add-mod', div-mul-add, div_below, elements, eqb, eqb-true, get_or-range_with_len, get_or_append_left, group_added, grow, if_below, last_below, length, length-range_with_len, length_permutation, lines_of_groups, lt-ltb, ltb-false, ltb-true, map, map_more, mod_below, mul-le, narrow_swaps, nat_eq_equiv, nat_le, nat_lt, next_u32, range_with_len, refl, rest_below, rising, rising_more, rising_one, rising_positive, shuffled_order, slice_index, stream_after, subst, suc, sym, take, take_all, true≢false, zero, ℕ, ◌%◌, ◌*◌, ◌++◌, ◌+◌, ◌-◌, ◌/◌, ◌<◌, ◌==◌, ◌^◌, ◌∙◌, ◌∷◌, ◌≡◌, ◌≤◌}

-- A shuffled list of numbers is an order of them, and groups of lines that are appended in such an order, each group's lines
-- in such an order too, are an order of the lines that keeps groups together: a line is its group's number times the size,
-- and its place in the group.

-- the lines of the first k groups, each group's own lines beside each other
pub record AreGrouped (size : ℕ) (groups : List ℕ) (k : ℕ) (lines : List ℕ) : Type 0 where
  pub len : length lines ≡ k * size
  pub group : (y : ℕ) → y < k * size → slice_index lines y / size ≡ slice_index groups (y / size)
  pub apart : (y z : ℕ) → y < k * size → z < k * size → y / size ≡ z / size → slice_index lines y ≡ slice_index lines z → y ≡ z

-- ---- a shuffled list of the numbers below n
pub order_from_permutation : {n : ℕ} {xs : List ℕ} → IsPermutation (range_with_len 0 n) xs → IsOrder n xs
order_from_permutation {n} {xs} p =
    let long : length xs ≡ n = length_permutation (range_with_len 0 n) xs p ∙ length-range_with_len 0 n in
    let all = All-permutation (λ v. v < n) (range_with_len 0 n) xs p
    (All-from_get_or (λ v. v < n) (range_with_len 0 n) 0 (λ i lt. grind (arith, length-range_with_len, get_or-range_with_len))) in
    let distinct = IsDistinct-IsPermutation eqb nat_eq_equiv.symm (range_with_len 0 n) xs p
    (IsDistinct-from_apart eqb (range_with_len 0 n) (λ i j d below within. grind (arith, length-range_with_len, get_or-range_with_len))) in
    record {
      len = long;
      within = λ k lt. All-get_or (λ v. v < n) xs k 0 (omega arith) all;
      apart = λ j k lj lk same. grind (arith, apart_from_distinct eqb xs j k 0 distinct, apart_from_distinct eqb xs k j 0 distinct);
    }

-- ---- groups of lines
module _ (size : ℕ) (groups : List ℕ) (k : ℕ) (lines inside : List ℕ) (size_low : 0 < size)
    (before : AreGrouped size groups k lines) (inner : IsOrder size inside) where
  abbrev pub more : List ℕ
  more = lines ++ map (λ line. slice_index groups k * size + line) inside

  -- a line of the groups before, and of the new one
  old_line : (y : ℕ) → y < k * size → slice_index more y ≡ slice_index lines y
  old_line y lt = grind (arith, get_or_append_left)

  new_line : (y : ℕ) → k * size ≤ y → y < (k + 1) * size → slice_index more y ≡ slice_index groups k * size + slice_index inside (y - k * size)
  new_line y low high = grind (arith, elements)

  new_group : (y : ℕ) → k * size ≤ y → y < (k + 1) * size → y / size ≡ k
  new_group y low high = grind (arith, div-mul-add k size (y - k * size))

  pub AreGrouped-more : AreGrouped size groups (k + 1) more
  AreGrouped-more = record {
    len = grind (arith, common_steps);
    group = λ y lt.
        let inner_line = div-mul-add (slice_index groups k) size (slice_index inside (y - k * size)) in
        grind (arith, old_line y, before.group y, new_line y, new_group y, inner_line, inner.within (y - k * size));
    apart = λ y z ly lz same e.
        grind (
          arith,
          old_line y,
          old_line z,
          new_line y,
          new_line z,
          new_group y,
          new_group z,
          div_below y size k,
          div_below z size k,
          before.apart y z,
          inner.apart (y - k * size) (z - k * size),
        );
  }

-- all groups together
pub line_order_from_groups : (count size : ℕ) (groups lines : List ℕ) → 0 < size → IsOrder count groups
    → AreGrouped size groups count lines → IsLineOrder count size lines
line_order_from_groups count size groups lines size_low outer all = record {
  order = record {
    len = all.len;
    within = λ y lt.
        let room = mul-le (slice_index lines y / size + 1) size count size in
        grind (
          arith,
          room,
          all.group y lt,
          outer.within (y / size),
          div_below y size count size_low lt,
          div-add-mod' (slice_index lines y) size,
          mod_below (slice_index lines y) size size_low,
        );
    apart = λ y z ly lz e.
        grind (arith, all.apart y z, outer.apart (y / size) (z / size), div_below y size count, div_below z size count, all.group y, all.group z);
  };
  together = λ y z ly lz same. grind (arith, all.group y, all.group z);
}

-- one more line of a group
pub line-more : (f : ℕ → ℕ) (old lines new inside : List ℕ) (k x : ℕ) → k < length inside → lines ≡ old ++ map f (take k inside)
    → new ≡ lines ++ x ∷ [] → x ≡ f (slice_index inside k) → new ≡ old ++ map f (take (k + 1) inside)
line-more f old lines new inside k x lt before pushed is = grind (arith, common_steps, map_more f inside k 0, append_assoc)

-- all lines of a group
pub lines-all : (size group k : ℕ) (old lines inside : List ℕ) (t : Stream) {drawn : List ℕ × Stream}
    → lines ≡ old ++ map (λ line. group * size + line) (take k inside) → length inside ≤ k → (inside, t) ≡ drawn
    → (lines, t) ≡ group_added size group old drawn
lines-all size group k old lines inside t done all e = rw (done, take_all k inside all, sym e) refl

pub order_drawn : (n : ℕ) (xs : List ℕ) (t : Stream) {drawn : List ℕ × Stream} → (xs, t) ≡ drawn → IsOrder n xs → IsOrder n drawn.0
order_drawn n xs t e is = rw (sym e) is

-- no group yet
pub groups-none : (size : ℕ) (groups lines : List ℕ) (s t : Stream) → lines ≡ [] → s ≡ t
    → (lines, s) ≡ lines_of_groups size groups 0 t
unfolding lines_of_groups
groups-none size groups lines s t none same = rw (none, same) refl

pub grouped-none : (size : ℕ) (groups lines : List ℕ) → lines ≡ [] → AreGrouped size groups 0 lines
grouped-none size groups lines none = grind arith

-- one more group
pub groups-more : (size k : ℕ) {group : ℕ} (groups : List ℕ) {lines new : List ℕ} (s : Stream) {t u : Stream}
    → (lines, t) ≡ lines_of_groups size groups k s → group ≡ slice_index groups k
    → (new, u) ≡ group_added size group lines (shuffled_order size t)
    → (new, u) ≡ lines_of_groups size groups (k + 1) s
unfolding lines_of_groups
groups-more size k groups s before is added = rw (add-one, sym before, sym is) added

pub grouped-more : {size k group : ℕ} {groups lines new : List ℕ} (t : Stream) {u : Stream} → 0 < size
    → AreGrouped size groups k lines → group ≡ slice_index groups k
    → IsOrder size (shuffled_order size t).0 → (new, u) ≡ group_added size group lines (shuffled_order size t)
    → AreGrouped size groups (k + 1) new
grouped-more {size} {k} {groups} {lines} t some before is inner added =
    rw (ap (λ (q : List ℕ × Stream). q.0) added, is) (AreGrouped-more size groups k lines (shuffled_order size t).0 some before inner)

-- what the drawing of lines cites
pub ruleset draw_laws = (line_order_from_groups, line-more, lines-all, order_drawn, groups-none, grouped-none)

-- A draw below a number is below it, a shuffle brings a list into another order, and both leave a stream of words.

word_below : {s : Stream} → HasWords s → (next_u32 s).0 < 2 ^ 32
unfolding next_u32
word_below words = words.below []

words_left : {s : Stream} → HasWords s → HasWords (next_u32 s).1
unfolding next_u32
words_left words = grind (arith, common_steps)

-- words are left after each filling of a stream of words, where they are after one
pub words_later : {A : Type 0} (make : Stream → A × Stream) → ((s : Stream) → HasWords s → HasWords (make s).1)
    → {s : Stream} → HasWords s → (k : ℕ) → HasWords (stream_after make k s)
unfolding stream_after
words_later make left words zero = words
words_later make left words (suc k) = left _ (words_later make left words k)

-- a number below a range, and words after it
pub record IsDrawnBelow (range : ℕ) (draw : ℕ × Stream) : Type 0 where
  pub below : draw.0 < range
  pub words : HasWords draw.1

pub draw_is : (range : ℕ) (s : Stream) → 0 < range → range ≤ 2 ^ 32 → HasWords s → IsDrawnBelow range (canon (2 ^ 32) next_u32 range s)
unfolding canon
draw_is range s some within words =
    let w = (next_u32 s).0 in
    let high = w * range / 2 ^ 32 in
    let low = w * range % 2 ^ 32 in
    let fits = word_below words in
    let room = mul-le (w + 1) range (2 ^ 32) range (omega arith) (omega arith) in
    let under = div_below (w * range) (2 ^ 32) range (omega arith) (omega arith) in
    let left = words_left words in
    cond_both (nat_lt (2 ^ 32 - range) low) _ _ (IsDrawnBelow range) (λ carried. record {
      below = if_below (nat_le (2 ^ 32) (low + (next_u32 (next_u32 s).1).0 * range / 2 ^ 32)) _ (high + 1) high range refl
          (carry_room (2 ^ 32) range w high low fits (div-add-mod' (w * range) (2 ^ 32)) (ltb-true (2 ^ 32 - range) low carried) within) under;
      words = words_left left;
    })
    (λ plain. record { below = under; words = left })

-- ---- the factors of a draw
-- so many factors from m on, one at least, whose product fits 32 bits
record IsChunk (m : ℕ) (chunk : ℕ × ℕ) : Type 0 where
  product : chunk.0 ≡ rising m chunk.1
  within : chunk.0 < 2 ^ 32
  some : 0 < chunk.1

grow_is : (m n p c k : ℕ) → c ≡ m + k → IsChunk m (p, k) → IsChunk m (grow n p c k)
unfolding grow
grow_is m zero p c k at is = is
grow_is m (suc n) p c k at is = cond_both (nat_lt (2 ^ 32 - 1) (p * c)) _ _ (IsChunk m) (λ over. is)
    (λ fits. grow_is m n (p * c) (c + 1) (k + 1) (omega arith)
    (let more = rising_more m k in record { product = grind arith; within = grind (arith, ltb-false (2 ^ 32 - 1) (p * c) fits); some = omega arith }))

chunk_is : (m : ℕ) → m < 2 ^ 32 → IsChunk m (chunk_of m)
chunk_is m within = grow_is m 32 m (m + 1) 1 refl (record { product = rising_one m; within = within; some = omega arith })

-- ---- the next index
-- what is left of a draw is below the product of the factors that are left
pub record IsChooser (c : Chooser) : Type 0 where
  pub room : 0 < c.left → c.chunk < rising (c.n + 1) c.left

-- something is left of a draw
record IsRefilled (n : ℕ) (r : ℕ × ℕ × Stream) : Type 0 where
  some : 0 < r.1
  room : r.0 < rising (n + 1) r.1
  words : HasWords r.2

refill_is : (c : Chooser) (s : Stream) → IsChooser c → HasWords s → c.n + 1 < 2 ^ 32 → IsRefilled c.n (chooser_refill c s)
refill_is c s is words within = grind (arith, common_steps, chunk_is, chunk_of, rising_positive, draw_is, cond_both, c.left, is.room)

-- an index of at most n, and a chooser for higher ones
record IsDrawnNext (n : ℕ) (d : ℕ × Chooser × Stream) : Type 0 where
  index : d.0 ≤ n
  bound : d.1.n ≡ n + 1
  chooser : IsChooser d.1
  words : HasWords d.2

next_is : (c : Chooser) (s : Stream) → IsChooser c → HasWords s → c.n + 1 < 2 ^ 32 → IsDrawnNext c.n (chooser_next c s)
next_is c s is words within =
    let r = chooser_refill c s in
    let filled = refill_is c s is words within in
    cond_both (r.1 == 1) _ _ (IsDrawnNext c.n) (λ last. record {
      index = omega (arith, last_below r.0 (c.n + 1) (rw (eqb-true r.1 1 last) at filled.room));
      bound = refl;
      chooser = record { room = λ none. absurd (omega arith) };
      words = filled.words;
    })
    (λ more. record {
      index = omega (arith, mod_below r.0 (c.n + 1) (omega arith));
      bound = refl;
      chooser = record {
        room = λ some. let e : r.1 ≡ suc (r.1 - 1) = let f = filled.some in omega arith in
            rest_below r.0 (c.n + 1) (r.1 - 1) (omega arith) (subst (λ k. r.0 < rising (c.n + 1) k) e filled.room);
      };
      words = filled.words;
    })

-- ---- the swaps
pub record IsSwapped (items : List ℕ) (k : ℕ) (p : List ℕ × Chooser × Stream) : Type 0 where
  pub permutation : IsPermutation items p.0
  pub bound : p.1.n ≡ k
  pub chooser : IsChooser p.1
  pub words : HasWords p.2

pub swaps_are : (items : List ℕ) (s : Stream) → HasWords s → length items < 2 ^ 32 - 1 → (k : ℕ) → k ≤ length items
    → IsSwapped items k (narrow_swaps items (chooser_at 0) s k)
unfolding narrow_swaps
swaps_are items s words few zero within = grind (arith, common_steps, rising_positive)
swaps_are items s words few (suc k) within =
    let p : List ℕ × Chooser × Stream = narrow_swaps items (chooser_at 0) s k in
    let before : IsSwapped items k p = swaps_are items s words few k (omega arith) in
    let long = length_permutation items p.0 before.permutation in
    let next : IsDrawnNext p.1.n (chooser_next p.1 p.2) = next_is p.1 p.2 before.chooser before.words (omega arith) in
    record {
      permutation = IsPermutation-trans items p.0 _ before.permutation
          (IsPermutation-swap p.0 _ p.1.n (chooser_next p.1 p.2).0 (omega arith) (omega arith) refl);
      bound = omega arith;
      chooser = next.chooser;
      words = next.words;
    }

-- ---- the numbers below n in a shuffled order
pub record IsShuffledOrder (n : ℕ) (p : List ℕ × Stream) : Type 0 where
  pub order : IsOrder n p.0
  pub words : HasWords p.1

pub order_is : (n : ℕ) (s : Stream) → n < 2 ^ 32 - 1 → HasWords s → IsShuffledOrder n (shuffled_order n s)
order_is n s few words =
    let items : List ℕ = range_with_len 0 n in
    let len : length items ≡ n = length-range_with_len 0 n in
    let swapped = swaps_are items s words (omega arith) (length items - 0) (omega arith) in
    cond_both (nat_lt (length items) (2 ^ 32 - 1)) _ _ (IsShuffledOrder n)
    (λ narrow. record { order = order_from_permutation swapped.permutation; words = swapped.words })
    (λ wide. absurd (true≢false (sym (lt-ltb (length items) (2 ^ 32 - 1) (omega arith)) ∙ wide)))
