-- Lists of different numbers and places.
use Rattle.fields_core.proofs.Common.{All-from_get_or, AreDifferent, AreDistinct, Bool, List, [], and_from, and_parts, any_below-none, any_below-some, ap, arith, bulb, cases_Bool, cases_eq, cases_lt, common_steps, cond, count_below-pos, count_by, count_by-le-length, different-from, distinct-filter, eq-eqb, eqb, eqb-false, eqb-true, false, false≢true, filter, get_or, get_or-map, get_or-map-range_with_len, has_place, has_place-at, has_place-here, inl, inr, le-ltb, least_below, least_below-passes, length, length-filter, length-map, length-map-range_with_len, list_any, list_any_none, lt-ltb, ltb, ltb-false, ltb-true, map, names_none_twice, ne_eqb, nonzeros, not, not-true, or_cases, or_left, or_parts, or_right, place-filter, place-kept, range_with_len, refl, slice_index, sum_by-cons, sym, true, true≢false, ℕ, ◌&&◌, ◌+◌, ◌<◌, ◌||◌, ◌∙◌, ◌∷◌, ◌≡◌, ◌≤◌}
use Rattle.grid_core.proofs.PairingLemmas.{apart-le}

-- Lists of different numbers: a number's place in one, and a choice of different numbers below n names each of them.

-- where a number stands in a list
unfoldable pub index_of : List ℕ → ℕ → ℕ
index_of xs d = least_below (λ k. eqb (slice_index xs k) d) (length xs)

pub index-is : (xs : List ℕ) (d : ℕ) → has_place xs d ≡ true → (index_of xs d < length xs) × (slice_index xs (index_of xs d) ≡ d)
unfolding index_of
index-is xs d on =
    let w = has_place-at xs d on in let stands : ℕ → Bool = (λ k. eqb (slice_index xs k) d) in
    let least = least_below-passes stands (length xs) (count_below-pos stands (length xs) w.0 w.1 (eq-eqb _ _ w.2)) in
    (least.0, eqb-true _ _ least.1)

pub place-map : (f : ℕ → ℕ) (xs : List ℕ) (d : ℕ) → has_place xs d ≡ true → has_place (map f xs) (f d) ≡ true
place-map f xs d on =
    let w = has_place-at xs d on in
    rw (get_or-map f xs w.0 0 0 w.1 ∙ ap f w.2) at (has_place-here (map f xs) w.0 (omega (arith, w.1, length-map xs f)))

-- ---- whether some number of a list passes
pub any-here : (test : ℕ → Bool) (xs : List ℕ) (d : ℕ) → has_place xs d ≡ true → test d ≡ true → list_any test xs ≡ true
any-here test xs d on passes = grind (arith, common_steps, has_place-at)

pub any-some : (test : ℕ → Bool) (xs : List ℕ) → list_any test xs ≡ true → (d : ℕ) × (has_place xs d ≡ true) × (test d ≡ true)
unfolding has_place
any-some test [] on = absurd (true≢false (sym on))
any-some test (x ∷ xs) on = elim (or_cases _ _ on) [
  | inl here ↦ (x, or_left _ _ (eq-eqb x x refl), here)
  | inr more ↦ let w = any-some test xs more in (w.0, or_right _ _ w.1, w.2)
]

pub any-none : (test : ℕ → Bool) (xs : List ℕ) → ((d : ℕ) → has_place xs d ≡ true → test d ≡ false) → list_any test xs ≡ false
any-none test xs none = list_any_none test xs (All-from_get_or (λ d. test d ≡ false) xs 0 (λ i lt. none _ (has_place-here xs i lt)))

-- ---- a list that names none twice
pub none-twice-from : (xs : List ℕ) → AreDistinct xs → names_none_twice xs ≡ true
none-twice-from [] d = refl
none-twice-from (x ∷ xs) d = and_from _ _ (ap not d.0) (none-twice-from xs d.1)

pub distinct-none-twice : (xs : List ℕ) → names_none_twice xs ≡ true → AreDistinct xs
distinct-none-twice [] on = tt
distinct-none-twice (x ∷ xs) on = let w =
    and_parts _ _ on in
    (not-true _ w.0, distinct-none-twice xs w.1)

pub different-map : (f : ℕ → ℕ) (xs : List ℕ) → AreDifferent xs
    → ((a b : ℕ) → has_place xs a ≡ true → has_place xs b ≡ true → f a ≡ f b → a ≡ b)
    → AreDifferent (map f xs)
different-map f xs differ own j k lj lk e =
    let long = length-map xs f in let inj : j < length xs = omega arith in
    let ink : k < length xs = omega arith in
    differ j k inj ink (own _ _ (has_place-here xs j inj) (has_place-here xs k ink)
    (sym (get_or-map f xs j 0 0 inj) ∙ e ∙ get_or-map f xs k 0 0 ink))

-- ---- different numbers below m are m at most
pub few-below : (f : ℕ → ℕ) {n m : ℕ} → ((l : ℕ) → l < n → f l < m) → ((l k : ℕ) → l < n → k < n → f l ≡ f k → l ≡ k) → n ≤ m
few-below f {n} {m} below own = apart-le _ n m (omega (arith, length-map-range_with_len f 0 n))
    (record { differ = λ i j less lt e. omega (arith, own i j (omega arith) lt (sym (at i (omega arith)) ∙ e ∙ at j lt)) })
    (λ l lt. rw (at l lt) (below l lt))
  where
    at : (l : ℕ) → l < n → get_or (map f (range_with_len 0 n)) l 0 ≡ f l
    at l lt = get_or-map-range_with_len f 0 n l l 0 lt (omega arith)

-- numbers, and one more after n of them
abbrev with_next : (ℕ → ℕ) → ℕ → ℕ → ℕ → ℕ
with_next f n c l = cond (ltb l n) (f l) c

-- n different numbers below n are all of them: another would be one more
pub each-named : (f : ℕ → ℕ) {n : ℕ} (c : ℕ) → ((l : ℕ) → l < n → f l < n)
    → ((l m : ℕ) → l < n → m < n → f l ≡ f m → l ≡ m) → c < n → (l : ℕ) × (l < n) × (f l ≡ c)
each-named f {n} c below own lt = elim (cases_Bool _) [
  | inl on ↦ let w = any_below-some _ n on in (w.0, w.1, eqb-true _ _ w.2)
  | inr off ↦ absurd (omega (arith, few-below (with_next f n c) inside (apart (λ l low e. true≢false (sym (eq-eqb _ _ e) ∙ any_below-none (λ l. eqb (f l) c) n off l low)))))
]
  where
    inside : (l : ℕ) → l < n + 1 → with_next f n c l < n
    inside l low = grind (arith, common_steps, cases_lt, lt-ltb, le-ltb)

    apart : ((l : ℕ) → l < n → f l ≡ c → ⊥) → (l m : ℕ) → l < n + 1 → m < n + 1 → with_next f n c l ≡ with_next f n c m → l ≡ m
    apart none l m ll lm e = grind (arith, common_steps, cases_lt, lt-ltb, le-ltb)

-- Lists of different places, and how many of them pass a test.
pub filter-few : (test : ℕ → Bool) (xs : List ℕ) → length (filter test xs) ≤ length xs
filter-few test xs = omega (arith, length-filter test xs, count_by-le-length test xs)

-- 1 if it holds, and else 0
abbrev pub num : Bool → ℕ
num b = cond b 1 0

pub num-most : (b : Bool) → num b ≤ 1
num-most b = grind (arith, common_steps, cases_Bool b)

pub count-cons : (test : ℕ → Bool) (x : ℕ) (xs : List ℕ) → count_by test (x ∷ xs) ≡ cond (test x) 1 0 + count_by test xs
count-cons test x xs = sum_by-cons (λ c. cond (test c) 1 0) x xs

-- some pass where their number is not 0
pub some-counted : (test : ℕ → Bool) (xs : List ℕ) → ltb 0 (count_by test xs) ≡ list_any test xs
some-counted test [] = refl
some-counted test (x ∷ xs) = grind (arith, common_steps, cases_Bool, count-cons test x xs, lt-ltb, some-counted test xs)

pub none-counted : (test : ℕ → Bool) (xs : List ℕ) → eqb (count_by test xs) 0 ≡ not (list_any test xs)
none-counted test xs = grind (arith, common_steps, some-counted test xs, cases_eq, eq-eqb, ne_eqb, lt-ltb, le-ltb)

pub count-some : (test : ℕ → Bool) (xs : List ℕ) (d : ℕ) → has_place xs d ≡ true → test d ≡ true → 1 ≤ count_by test xs
count-some test xs d on passes = omega (arith, ltb-true _ _ (some-counted test xs ∙ any-here test xs d on passes))

pub count-none : (test : ℕ → Bool) (xs : List ℕ) → ((d : ℕ) → has_place xs d ≡ true → test d ≡ false) → count_by test xs ≡ 0
count-none test xs none = omega (arith, ltb-false _ _ (some-counted test xs ∙ any-none test xs none))

pub count-every : (test : ℕ → Bool) (xs : List ℕ) → ((d : ℕ) → has_place xs d ≡ true → test d ≡ true) → count_by test xs ≡ length xs
unfolding has_place
count-every test [] all = refl
count-every test (x ∷ xs) all = grind (arith, common_steps, count-cons, count-every test xs (λ d on. all d (grind (arith, common_steps, on))))

-- of different places, one at most passes where no two do
pub count-one : (test : ℕ → Bool) (xs : List ℕ) → AreDistinct xs →
    ((d e : ℕ) → has_place xs d ≡ true → has_place xs e ≡ true → test d ≡ true → test e ≡ true → d ≡ e) → count_by test xs ≤ 1
count-one test xs distinct same = elim (cases_lt 1 (length (filter test xs))) [
  | inl many ↦
      let a = place-filter test xs (slice_index (filter test xs) 0) (has_place-here (filter test xs) 0 (omega arith)) in
      let b = place-filter test xs (slice_index (filter test xs) 1) (has_place-here (filter test xs) 1 many) in
      let e = different-from (filter test xs) (distinct-filter test xs distinct) 0 1 (omega arith) many (same _ _ a.0 b.0 a.1 b.1) in
      absurd (omega arith)
  | inr few ↦ omega (arith, length-filter test xs)
]

-- two pass where two different ones do
pub count-two : (test : ℕ → Bool) (xs : List ℕ) (d e : ℕ) → has_place xs d ≡ true → has_place xs e ≡ true → test d ≡ true → test e ≡ true
    → (d ≡ e → ⊥) → 2 ≤ count_by test xs
count-two test xs d e md me on_d on_e apart =
    let j = has_place-at _ d (place-kept test xs d md on_d) in let k = has_place-at _ e (place-kept test xs e me on_e) in
    let other = λ (same : j.0 ≡ k.0). apart (sym j.2 ∙ ap (slice_index (filter test xs)) same ∙ k.2) in
    elim (cases_eq j.0 k.0) [ inl same ↦ absurd (other same) | inr ne ↦ omega (arith, ne, j.1, k.1, length-filter test xs) ]

-- a filter that leaves all that passes leaves the count
pub count-filter : (test keeps : ℕ → Bool) (xs : List ℕ) → ((d : ℕ) → test d ≡ true → keeps d ≡ true) → count_by test (filter keeps xs) ≡ count_by test xs
count-filter test keeps [] all = refl
count-filter test keeps (x ∷ xs) all = grind (arith, common_steps, cases_Bool (keeps x), cases_Bool (test x), count-cons, all x, count-filter test keeps xs all)

-- ---- where the test changed at one place
module _ (p q : ℕ → Bool) (place : ℕ) (others : (c : ℕ) → (c ≡ place → ⊥) → q c ≡ p c) where
  pub count-off : (xs : List ℕ) → has_place xs place ≡ false → count_by q xs ≡ count_by p xs
  unfolding has_place
  count-off [] off = refl
  count-off (x ∷ xs) off =
      let w = or_parts _ _ off in omega (arith, count-cons q x xs, count-cons p x xs, count-off xs w.1, ap num (others x (eqb-false x place w.0)))

  pub count-at : (xs : List ℕ) → AreDistinct xs → has_place xs place ≡ true → count_by q xs + num (p place) ≡ count_by p xs + num (q place)
  unfolding has_place
  count-at [] d on = absurd (false≢true on)
  count-at (x ∷ xs) d on = elim (cases_eq x place) [
    | inl same ↦ rw (sym same) (omega (arith, count-cons q x xs, count-cons p x xs, count-off xs (ap (has_place xs) (sym same) ∙ d.0)))
    | inr ne ↦
        omega (arith, count-cons q x xs, count-cons p x xs, count-at xs d.1 (sym (ap (λ b. b || has_place xs place) (ne_eqb _ _ ne)) ∙ on), ap num (others x ne))
  ]

-- the ones of a grid's cells are its bulbs
pub ones-bulbs : (g : List ℕ) (xs : List ℕ) → ((c : ℕ) → slice_index g c < 2) → nonzeros (map (slice_index g) xs) ≡ count_by (bulb g) xs
ones-bulbs g [] small = refl
ones-bulbs g (x ∷ xs) small = grind (arith, common_steps, count-cons, ones-bulbs g xs small)

pub filter-has : (keeps : ℕ → Bool) (xs : List ℕ) (c : ℕ) → has_place (filter keeps xs) c ≡ (has_place xs c && keeps c)
filter-has keeps xs c = grind (arith, common_steps, cases_Bool (has_place (filter keeps xs) c), cases_Bool (has_place xs c), cases_Bool (keeps c), place-filter keeps xs c, place-kept keeps xs c)
