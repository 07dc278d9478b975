-- What a rule set of a game's list settles, each later one settles.
use Rattle.std.proofs.lemmas.List.{get_or_append_left}
use Rattle.std.proofs.lemmas.List.Elements.{All-from_recursion}
use Rattle.gameid_core.specs.declared.id.game.Game.TheVariants as game
use Rattle.engine_core.specs.HouseRules.{House, no_house}
use Rattle.engine_core.specs.HouseSets.{strikes_at}
use Rattle.solo_core.proofs.SinglesLemmas.{singles_in_houses}
use Rattle.solo_core.specs.RuleSets.{crossings_of, filled_houses}
use Rattle.commands.proofs.Common.{All-nil, IsSolo, NamedRules, Solo, arith, crossings_rules, false, false_from_ne_true, houses_rules, is_settled, length, length-append, refl, sets_after_houses, sets_after_singles, solo_n, singles_rules, subst, sym, true, true≢false, ◌++◌, ◌<◌, ◌∙◌, ◌≡◌}
use Rattle.commands.specs.LawsOfCommands.{GradesNameTheWeakest}
use Rattle.commands.proofs.GradeLemmas.{settled_by_stronger}
use Rattle.commands.proofs.SearchedPuzzles.{crossings_searched, singles_searched, solo_searched}

module _ (p : Solo) (ok : IsSolo p) where
  pub houses_settle : is_settled (singles_rules p) ≡ true → is_settled (houses_rules p) ≡ true
  houses_settle = settled_by_stronger (singles_searched p ok).lawful (solo_searched ok).lawful refl refl refl
      (λ g s. record { grid = s.grid; good = s.good })
      (λ K closed h place v lt on. false_from_ne_true _ (λ struck. let both = singles_in_houses p ok h K place v lt struck in
      true≢false (sym both.1 ∙ closed h place v both.0 on)))

  crossings_settle : is_settled (houses_rules p) ≡ true → is_settled (crossings_rules p) ≡ true
  crossings_settle = settled_by_stronger (solo_searched ok).lawful (crossings_searched p ok).lawful refl refl refl
      (λ g s. record { grid = s.grid; good = s.good })
      (λ K closed h place v lt on.
      let inside : h < length (filled_houses p ++ crossings_of p) = omega (arith, lt, length-append (filled_houses p) (crossings_of p)) in
      subst (λ (house : House). strikes_at (solo_n p) house.places house.decides K place v ≡ false)
      (get_or_append_left (filled_houses p) (crossings_of p) no_house h lt) (closed h place v inside on))

abbrev Settles : NamedRules → Type 0
Settles set = is_settled set.rules ≡ true

pub weakest : GradesNameTheWeakest
weakest game.Pattern id p s = (λ settled. All-nil Settles, tt)
weakest game.Solo id p s =
    let after_houses = λ (settled : is_settled (houses_rules p) ≡ true).
    All-from_recursion Settles (sets_after_houses p) (crossings_settle p s.puzzle settled, tt) in
    let after_singles = λ (settled : is_settled (singles_rules p) ≡ true).
    let next = houses_settle p s.puzzle settled in
    All-from_recursion Settles (sets_after_singles p) (next, (crossings_settle p s.puzzle next, tt)) in
    (after_singles, (after_houses, (λ settled. All-nil Settles, tt)))
weakest game.LightUp id p s = (λ settled. All-nil Settles, tt)
weakest game.Tents id p s = (λ settled. All-nil Settles, tt)
