use Rattle.std.proofs.lemmas.Grind.{common_steps}
use Rattle.pattern_core.proofs.Common.{IsSpelling, [], ap, append_assoc, arith, length-append, length-replicate, replicate, subst, ℕ, ◌++◌, ◌∙◌, ◌∷◌, ◌≡◌, slots_of}
use Rattle.pattern_core.proofs.SpelledRuns.{one_more}
use Rattle.pattern_core.proofs.track.push_run.Goals as goal

pub loop-k-preserved : goal.loop-k-preserved
loop-k-preserved g c = grind (arith, common_steps, one_more, length-append, length-replicate, g.P.Word.bits, c.push_black-longer.ensures, c.loop-k.invariant)

pub returns : goal.returns
returns g c = λ cells fits s.
    let all : c.loop-k._k ≡ c.args.number = omega (arith, c.loop-k.auto._k-end, c.loop-k-test.false) in
    subst (λ l. IsSpelling (slots_of g.P.Word.bits) l c.push_white.result.white c.push_white.result.black c.push_white.result.next)
    (append_assoc cells _ (0 ∷ []) ∙ ap (λ n. cells ++ (replicate n 1 ++ 0 ∷ [])) all)
    (c.push_white.ensures (cells ++ replicate _ 1)
    (omega (arith, fits, all, length-append cells (replicate c.loop-k._k 1), length-replicate {A = ℕ} c.loop-k._k 1))
    (c.loop-k.invariant cells (omega (arith, fits, all)) s))
