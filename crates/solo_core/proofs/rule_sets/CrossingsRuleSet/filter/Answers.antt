use Rattle.solo_core.proofs.Common.{House, ap, arith, crossings_of, crossings_sound, filled_houses, length, no_repeat, strikes_by_fillings, sym, true, true≢false, ◌++◌, ◌<◌, ◌∙◌, ◌≤◌}
use Rattle.solo_core.proofs.HouseLemmas.{decides-at, filled-length, first_at, kept-houses, later_at}
use Rattle.solo_core.proofs.rule_sets.CrossingsRuleSet.filter.Goals as goal

pub returns-then-house-count-clause-kept : goal.returns-then-house-count-clause-kept
returns-then-house-count-clause-kept c = λ K are.
    let p = c.args.self.now.puzzle in
    let lt : c.args.house < length (filled_houses p) = omega (arith, filled-length p, c.houses-count.ensures.value) in
    let decides = decides-at (strikes_by_fillings no_repeat) p lt ∙ ap (λ (house : House). house.decides) (first_at (filled_houses p) (crossings_of p) lt) in
    kept-houses true p (filled_houses p ++ crossings_of p)
    (crossings_sound p c.args.self.now.is_solo) c.requires.house_in are c.keep_houses.result
    (rw (c.n.ensures.value, decides) at c.keep_houses.ensures.decided) (rw (c.n.ensures.value, decides) at c.keep_houses.ensures.none)

pub returns-clause-kept : goal.returns-clause-kept
returns-clause-kept c = λ K are.
    let p = c.args.self.now.puzzle in
    let le : length (filled_houses p) ≤ c.args.house = omega (arith, filled-length p, c.houses-count.ensures.value) in
    let decides = ap (λ (house : House). house.decides) (later_at (filled_houses p) (crossings_of p) le) in
    kept-houses true p (filled_houses p ++ crossings_of p) (crossings_sound p c.args.self.now.is_solo) c.requires.house_in are true
    (λ _. rw (c.houses-count.ensures.value ∙ sym (filled-length p), decides) at c.keep_crossed.ensures) (λ e. absurd (true≢false e))
