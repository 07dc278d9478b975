-- The houses of a puzzle, kind by kind: which one a number names, and that a puzzle has no others.
use Rattle.fields_core.proofs.Common.{AreNamed, Bool, CountHouse, HouseName, List, [], ap, append-nil, append_assoc, arith, common_steps, cond, count_house_of, false, get_or, get_or-append_seam, get_or-map, houses_below, houses_of_kinds, length, length-map, map, map-append, named, no_count_house, refl, sym, true, ℕ, ◌++◌, ◌+◌, ◌-◌, ◌<◌, ◌∙◌, ◌∷◌, ◌≡◌}
use Rattle.fields_core.proofs.HouseLemmas.{below-more, below-none}
use Rattle.fields_core.proofs.VisitLemmas.{below-rest}

-- Which house a number names.

-- ---- a list of one, and of none
pub just-one : (houses : List CountHouse) → length houses ≡ 1 → houses ≡ count_house_of houses 0 ∷ []
just-one [] e = absurd (omega (arith, e))
just-one (house ∷ []) e = refl
just-one (house ∷ other ∷ houses) e = absurd (omega (arith, e))

pub just-none : (houses : List CountHouse) → length houses ≡ 0 → houses ≡ []
just-none [] e = refl
just-none (house ∷ houses) e = absurd (omega (arith, e))

-- one house is told if the test holds, and else none
pub told-if-so : (b : Bool) (house : CountHouse) {tells : Bool} → tells ≡ b → length (cond b (house ∷ []) []) ≡ cond tells 1 0
told-if-so true house e = rw e refl
told-if-so false house e = rw e refl

-- ---- the houses of a number come after those of the numbers below it
below-at : (f : ℕ → List CountHouse) {k n : ℕ} → k < n → (rest : List CountHouse) × (houses_below f n ≡ houses_below f k ++ (f k ++ rest))
below-at f {k} {n} lt =
    let w = below-rest f (k + 1) (n - (k + 1)) in let e : k + 1 + (n - (k + 1)) ≡ n = omega arith in
    (w.0, rw e at w.1 ∙ (rw (below-more f k) (append_assoc (houses_below f k) (f k) w.0)))

module _ {K : Type 0} (told : K → ℕ → List CountHouse) (span_of : K → ℕ) (kind_of : ℕ → K) where
  -- the houses of the first kinds, and those of one kind that the first places tell
  abbrev pub houses_before : ℕ → ℕ → List CountHouse
  houses_before number place = houses_of_kinds told span_of kind_of number ++ houses_below (told (kind_of number)) place

  abbrev kind_at : ℕ → List CountHouse
  kind_at number = houses_below (told (kind_of number)) (span_of (kind_of number))

  pub kinds-none : houses_of_kinds told span_of kind_of 0 ≡ []
  kinds-none = below-none kind_at

  pub before-none : (number : ℕ) → houses_before number 0 ≡ houses_of_kinds told span_of kind_of number
  before-none number = rw (below-none (told (kind_of number))) (append-nil (houses_of_kinds told span_of kind_of number))

  pub before-more : (number place : ℕ) → houses_before number (place + 1) ≡ houses_before number place ++ told (kind_of number) place
  before-more number place =
      rw (below-more (told (kind_of number)) place) (sym (append_assoc (houses_of_kinds told span_of kind_of number) (houses_below (told (kind_of number)) place) (told (kind_of number) place)))

  pub before-all : (number : ℕ) → houses_before number (span_of (kind_of number)) ≡ houses_of_kinds told span_of kind_of (number + 1)
  before-all number = sym (below-more kind_at number)

  -- the house that a place tells has the number of those before it
  pub before-at : {number place : ℕ} {house : CountHouse} {houses : List CountHouse} → houses ≡ houses_of_kinds told span_of kind_of 4 → number < 4 → place < span_of (kind_of number)
      → told (kind_of number) place ≡ house ∷ [] → count_house_of houses (length (houses_before number place)) ≡ house
  before-at {number} {place} {house} all less lt is =
      let a = below-at kind_at less in let b = below-at (told (kind_of number)) lt in
      let whole : houses_of_kinds told span_of kind_of 4 ≡ houses_before number place ++ house ∷ (b.0 ++ a.0) =
      a.1 ∙ ap (λ l. houses_of_kinds told span_of kind_of number ++ (l ++ a.0)) (b.1 ∙ ap (λ l. houses_below (told (kind_of number)) place ++ (l ++ b.0)) is)
      ∙ grind (arith, common_steps, append_assoc) in
      rw (all, whole) (get_or-append_seam (houses_before number place) house (b.0 ++ a.0) no_count_house)

-- ---- names, one after another
abbrev pub alone : CountHouse → List CountHouse
alone house = house ∷ []

abbrev pub AreListed : {K : Type 0} → (K → ℕ → List CountHouse) → List (HouseName K) → List CountHouse → Type 0
AreListed told names houses = map (named told) names ≡ map alone houses

pub listed-one : {K : Type 0} (told : K → ℕ → List CountHouse) (names : List (HouseName K)) (name : HouseName K) (houses extra : List CountHouse) {more : List (HouseName K)}
    → AreListed told names houses → more ≡ names ++ name ∷ [] → named told name ≡ extra → length extra ≡ 1 → AreListed told more (houses ++ extra)
listed-one told names name houses [] are e is one = absurd (omega (arith, one))
listed-one told names name houses (house ∷ []) are e is one =
    rw e (map-append (named told) names (name ∷ []) ∙ rw (are, is) (sym (map-append alone houses (house ∷ []))))
listed-one told names name houses (house ∷ other ∷ extra) are e is one = absurd (omega (arith, one))

pub listed-named : {K : Type 0} (told : K → ℕ → List CountHouse) (names : List (HouseName K)) (houses : List CountHouse) → AreListed told names houses → AreNamed told names houses
listed-named told names houses are h name lt =
    sym (get_or-map (named told) names h name (alone no_count_house) lt) ∙ ap (λ l. get_or l h (alone no_count_house)) are
    ∙ get_or-map alone houses h no_count_house (alone no_count_house) (omega (arith, lt, length-map names (named told), ap length are, length-map houses alone))

pub unnamed : {K : Type 0} (told : K → ℕ → List CountHouse) (names : List (HouseName K)) (houses : List CountHouse) → names ≡ [] → AreNamed told names houses
unnamed told names houses e h name lt = absurd (omega (arith, lt, ap length e))
