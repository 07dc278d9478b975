-- The houses of a puzzle are those of its kinds.
use Rattle.std.proofs.Common.{ℕ, zero, suc, ◌<◌, ◌∙◌, ◌≡◌, List, ◌++◌, refl, sym, arith}
use Rattle.std.proofs.lemmas.Bool.{lt-ltb}
use Rattle.std.proofs.lemmas.List.{append_assoc}
use Rattle.fields_core.specs.Below.{Light, Tents}
use Rattle.fields_core.specs.CountHouse.{CountHouse, houses_below}
use Rattle.fields_core.specs.Houses.{houses_of_kinds}
use Rattle.fields_core.specs.Light.{light_cells}
use Rattle.fields_core.specs.LightHouses.{light_house, light_houses, light_kind}
use Rattle.fields_core.specs.TentHouses.{column_of_tents, row_of_tents, tent_house, tent_houses, tent_kind, tent_span}
use Rattle.fields_core.specs.declared.tents.tent_house.TentHouse.TheVariants.{Column, Row}

four : (f : ℕ → List CountHouse) → houses_below f 4 ≡ f 0 ++ (f 1 ++ (f 2 ++ f 3))
unfolding houses_below
four f = append_assoc (f 0 ++ f 1) (f 2) (f 3) ∙ append_assoc (f 0) (f 1) (f 2 ++ f 3)

pub light-kinds : (p : Light) → light_houses p ≡ houses_of_kinds (light_house p) (λ _. light_cells p) light_kind 4
unfolding light_houses
light-kinds p = sym (four (λ number. houses_below (light_house p (light_kind number)) (light_cells p)))

below-same : (f g : ℕ → List CountHouse) (n : ℕ) → ((k : ℕ) → k < n → f k ≡ g k) → houses_below f n ≡ houses_below g n
unfolding houses_below
below-same f g zero same = refl
below-same f g (suc n) same = rw (below-same f g n (λ k lt. same k (omega arith)), same n (omega arith)) refl

pub tent-kinds : (p : Tents) → tent_houses p ≡ houses_of_kinds (tent_house p) (tent_span p) tent_kind 4
unfolding tent_houses
tent-kinds p =
    let columns = below-same (tent_house p Column) (column_of_tents p) p.size.w (λ k lt. rw (lt-ltb k p.size.w lt) refl) in
    let rows = below-same (tent_house p Row) (row_of_tents p) p.size.h (λ k lt. rw (lt-ltb k p.size.h lt) refl) in
    sym (four (λ number. houses_below (tent_house p (tent_kind number)) (tent_span p (tent_kind number))) ∙ rw (columns, rows) refl)
