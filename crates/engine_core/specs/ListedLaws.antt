-- A puzzle of houses has the places of its houses listed.
use Rattle.engine_core.specs.Below.{common_steps, length-map, sum_by-cons}
use Rattle.std.proofs.Common.{◌≡◌, ℕ, zero, suc, ◌*◌, List, [], ◌∷◌, length, refl, ap, arith, sum_by}
use Rattle.engine_core.specs.HouseList.{AreScopesOf, all_places, listed_visits, scope_of}
use Rattle.engine_core.specs.HouseRules.{House, Setting, by_houses, house_of, visits_of}

scope-at : (houses : List House) (h : ℕ) → scope_of (all_places houses) h ≡ (house_of houses h).places
scope-at [] h = refl
scope-at (house ∷ houses) zero = refl
scope-at (house ∷ houses) (suc h) = scope-at houses h

pub listed-scopes : (s : Setting) (houses : List House) → AreScopesOf (by_houses s houses) (all_places houses)
listed-scopes s houses = grind (arith, common_steps, length-map, scope-at)

-- all visits that the houses can call for
pub visits-listed : (values : ℕ) (houses : List House) → sum_by (visits_of values) houses ≡ listed_visits values (all_places houses)
visits-listed values [] = omega arith
visits-listed values (house ∷ houses) =
    let a = sum_by-cons (length {A = ℕ}) house.places (all_places houses) in omega (arith, visits-listed values houses, sum_by-cons (visits_of values) house houses, ap (λ n. n * values) a)
