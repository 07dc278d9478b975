use Rattle.commands.proofs.Common.{Crossings, Houses, IsSoloSolution, Singles, [], sets_after_houses, sets_after_singles, refl, rules, solo_facts}
use Rattle.commands.proofs.GradeLemmas.{accepted_by, said_by, said_later, crossings_named, houses_named, named, singles_named}
use Rattle.commands.proofs.RunLemmas.{says_nothing}
use Rattle.commands.proofs.SearchedPuzzles.{solo_accepted}
use Rattle.commands.proofs.games.solo.SoloPuzzleGraded.say_grade.Goals as goal

-- what the three rule sets visit has a name, and they accept the solutions
pub say_if_settled-requires-clause-named : goal.say_if_settled-requires-clause-named
say_if_settled-requires-clause-named g c = λ queue. named c.args.self.now c.in_ok-singles.ensures.rules (singles_named c.args.self.now)

pub say_if_settled-requires-2-clause-named : goal.say_if_settled-requires-2-clause-named
say_if_settled-requires-2-clause-named g c = λ queue. named c.args.self.now c.in_ok-houses.ensures.rules (houses_named c.args.self.now)

pub say_by-requires-clause-named : goal.say_by-requires-clause-named
say_by-requires-clause-named g c = λ queue. named c.args.self.now c.in_ok-crossings.ensures.rules (crossings_named c.args.self.now)

pub say_if_settled-requires-clause-accepted : goal.say_if_settled-requires-clause-accepted
say_if_settled-requires-clause-accepted g c =
    accepted_by (IsSoloSolution c.args.self.now) c.in_ok-singles.ensures.rules (solo_accepted c.in_ok-singles.ensures.known _ _)

pub say_if_settled-requires-2-clause-accepted : goal.say_if_settled-requires-2-clause-accepted
say_if_settled-requires-2-clause-accepted g c =
    accepted_by (IsSoloSolution c.args.self.now) c.in_ok-houses.ensures.rules (solo_accepted c.in_ok-houses.ensures.known _ _)

pub say_by-requires-clause-accepted : goal.say_by-requires-clause-accepted
say_by-requires-clause-accepted g c =
    accepted_by (IsSoloSolution c.args.self.now) c.in_ok-crossings.ensures.rules (solo_accepted c.in_ok-crossings.ensures.known _ _)

-- memory was refused after the first, or the first two, said nothing
pub returns-in_err-houses-clause-answer : goal.returns-in_err-houses-clause-answer
returns-in_err-houses-clause-answer g c =
    rw (c.in_default.ensures.same refl) (says_nothing (g.met.O.Sink.takes_nothing _) (search rules))

pub returns-in_err-crossings-clause-answer : goal.returns-in_err-crossings-clause-answer
returns-in_err-crossings-clause-answer g c =
    rw (c.in_default-say_if_settled.ensures.same refl, c.in_default.ensures.same refl)
    (says_nothing (g.met.O.Sink.takes_nothing _) (search rules))

-- the first settles the puzzle, or the second, or it is told by the last
pub returns-in-Some-clause-answer : goal.returns-in-Some-clause-answer
returns-in-Some-clause-answer g c =
    let p = c.args.self.now in
    said_by solo_facts p c.args.options.budget c.args.options.traced g.O.Sink.takes _ _ _ Singles (sets_after_singles p)
    c.in_ok-singles.ensures.rules (c.in-Some.ensures.said.answer (sets_after_singles p))

pub returns-in-Some-say_if_settled-clause-answer : goal.returns-in-Some-say_if_settled-clause-answer
returns-in-Some-say_if_settled-clause-answer g c =
    let p = c.args.self.now in
    let o = c.args.options in
    said_later solo_facts p o.budget o.traced g.O.Sink.takes _ _ _ Singles _ (sets_after_houses p)
    c.in_ok-singles.ensures.rules (c.in_default.ensures.unsettled refl)
    (rw (c.in_default.ensures.same refl) at (said_by solo_facts p o.budget o.traced g.O.Sink.takes _ _ _ Houses (sets_after_houses p)
    c.in_ok-houses.ensures.rules (c.in-Some-say_if_settled.ensures.said.answer (sets_after_houses p))))

pub returns-clause-answer : goal.returns-clause-answer
returns-clause-answer g c =
    let p = c.args.self.now in
    let o = c.args.options in
    said_later solo_facts p o.budget o.traced g.O.Sink.takes _ _ _ Singles _ (sets_after_houses p)
    c.in_ok-singles.ensures.rules (c.in_default.ensures.unsettled refl)
    (rw (c.in_default.ensures.same refl) at (said_later solo_facts p o.budget o.traced g.O.Sink.takes _ _ _ Houses _ []
    c.in_ok-houses.ensures.rules (c.in_default-say_if_settled.ensures.unsettled refl)
    (rw (c.in_default-say_if_settled.ensures.same refl) at (said_by solo_facts p o.budget o.traced g.O.Sink.takes _ _ _ Crossings []
    c.in_ok-crossings.ensures.rules c.say_by.ensures.answer))))
