use Rattle.solo_core.proofs.Common.{AreParts, AreWholeParts, IsOutside, LiesOnRounds, arith, has_in, length, length-take, lt-ltb, refl, replicate, slice_index, subst, sym, take, ℕ, ◌∙◌, ◌≡◌}
use Rattle.solo_core.proofs.TurnLemmas.{all_full, no_leads, rest_on_rounds, rest_parted, rest_whole}
use Rattle.solo_core.proofs.visits.houses.keep_paired.Goals as goal
use Rattle.solo_core.proofs.visits.houses.keep_paired.Goals.{After-write_leads}

-- a value that is no mate leads nowhere
zeros : (c : After-write_leads) → (u : ℕ) → IsOutside c.args.paired.now u → slice_index c.write_leads.new.leads u ≡ 0
zeros c u out = c.write_leads.ensures.others u out ∙ no_leads c.from.result u

long : (c : After-write_leads) → length c.write_leads.new.leads ≡ c.args.values
long c = c.write_leads.ensures.as_many ∙ grind (arith, length-take)

pub write_parts-requires-clause-all : goal.write_parts-requires-clause-all
write_parts-requires-clause-all c =
    let d = (goal.at.write_parts-requires-clause-all c).After-write_leads in
    let leads = has_in c.write_leads.new.leads in
    subst (λ (n : ℕ). AreWholeParts n leads c.others_below.result) (sym (long d))
    (rest_whole c.args.values c.args.kept.now c.args.rest.now c.args.paired.now c.write_leads.new.leads c.requires.square c.requires.rest c.requires.paired c.write_leads.ensures.leads (zeros d)
    c.args.lone c.others_below.result c.requires.lone c.others_below.ensures)

pub returns-then-not-write_parts-clause-decided : goal.returns-then-not-write_parts-clause-decided
returns-then-not-write_parts-clause-decided c =
    let d = (goal.at.returns-then-not-write_parts-clause-decided c).After-write_leads in
    let leads = has_in c.write_leads.new.leads in
    rest_on_rounds c.args.values c.args.kept.now c.args.rest.now c.args.paired.now c.write_leads.new.leads c.requires.square c.requires.rest c.requires.paired c.write_leads.ensures.leads (zeros d)
    c.args.lone c.others_below.result c.requires.lone
    (λ v lv off. c.others_below.ensures v ∙ rw (lt-ltb v c.args.values lv, off) refl)
    (subst (λ (n : ℕ). LiesOnRounds n leads c.others_below.result) (long d) (c.write_parts.ensures.one c.if-not-write_parts.true))

pub returns-clause-decided : goal.returns-clause-decided
returns-clause-decided c =
    let d = (goal.at.returns-clause-decided c).After-write_leads in
    let leads = has_in c.write_leads.new.leads in
    rest_parted c.args.values c.args.kept.now c.args.rest.now c.args.paired.now c.write_leads.new.leads c.requires.square c.requires.rest c.requires.paired c.write_leads.ensures.leads (zeros d)
    c.args.lone c.others_below.result c.requires.lone c.others_below.ensures
    (subst (λ (n : ℕ). AreParts n leads c.others_below.result (take c.from-2.result (replicate 32 4294967295)) c.write_parts.new.parts) (long d) (c.write_parts.ensures.parts c.if-not-write_parts.false))
    (λ u v lu lv. all_full c.from-2.result (omega (arith, c.from-2.ensures)) (omega (arith, c.from-2.ensures)) (omega (arith, c.from-2.ensures)))
    c.keep_parts.ensures.as_many c.keep_parts.ensures.bits c.keep_parts.ensures.others
