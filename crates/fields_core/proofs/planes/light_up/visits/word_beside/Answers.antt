use Rattle.fields_core.proofs.Common.{arith, cases_eq, common_steps, eq-eqb, eqb, lt-ltb, ltb, ne_eqb, suc, zero, ℕ, ◌&&◌, ◌+◌, ◌-◌, ◌<◌, ◌||◌, ◌∙◌, ◌≡◌}
use Rattle.fields_core.proofs.planes.light_up.visits.word_beside.Goals as goal

-- one place further on, and one further back
shifted : (room place k : ℕ) → k < room → ((ltb k room && (ltb 0 k && eqb (k - 1) place)) || eqb (k + 1) place) ≡ (eqb k (place + 1) || eqb place (k + 1))
shifted room place zero lt = rw (lt-ltb _ _ lt) (grind (arith, common_steps, cases_eq 1 place, eq-eqb, ne_eqb))
shifted room place (suc k) lt = rw (lt-ltb _ _ lt, lt-ltb 0 (suc k) (omega arith)) (grind (arith, common_steps, cases_eq k place, cases_eq (suc k + 1) place, eq-eqb, ne_eqb))

pub returns : goal.returns
returns g c = λ k lt.
    c.either.ensures k
    ∙ rw (c.on.ensures k, c.back.ensures k, c.one-own.ensures (k - 1), c.one-own.ensures (k + 1)) (shifted g.W.Word.room c.args.at k lt)
