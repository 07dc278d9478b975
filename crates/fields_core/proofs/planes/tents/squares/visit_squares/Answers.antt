use Rattle.fields_core.proofs.Common.{Extent, ap, arith, further-more, inl, inr, refl, sym, ◌+◌, ◌<◌, ◌∙◌}
use Rattle.fields_core.proofs.TentSquareVisits.{AreMust, beside-die, none-below, rows-struck, squares-met, twice-die}
use Rattle.fields_core.proofs.planes.tents.squares.visit_squares.Goals as goal
use Rattle.fields_core.proofs.planes.tents.squares.visit_squares.Goals.{After-on-after, then-w-lt2-via-then-w-lt2, then-w-lt2-via-else-w-lt2+then-y-h, then-is_some-via-then-is_some, then-is_some-via-else-is_some+then-is_some-2}

pub returns-then-w-lt2 : goal.returns-then-w-lt2
returns-then-w-lt2 g c = none-below c.args.puzzle.now c.args.y c.args.planes.now
    (omega (arith, c.size-size.ensures.lawful.size.extent.w_low))
    (elim c.then-w-lt2.branch [
      | then-w-lt2-via-then-w-lt2 w ↦ inl (rw (c.w.ensures.value, c.size-size.ensures.value) at w.if-w-lt2.true)
      | then-w-lt2-via-else-w-lt2+then-y-h w ↦ inr (rw (w.h.ensures.value, c.size-size.ensures.value) at w.if-y-h.true)
    ])
    c.requires.alive

must : (g : _) (c : After-on-after g) → AreMust c.args.planes.now c.args.puzzle.now.size.w c.args.y g.W.Word.room
    (g.W.Word.bits c.but-twice.result) (g.W.Word.bits c.but-must.result)
must g c =
    let narrow = c.row-upper.ensures.lawful.narrow in
    record {
      fits = rw c.requires.size at narrow;
      twice_is = λ u. c.but-twice.ensures u ∙ rw (c.columns-all.ensures u, c.either.ensures u, c.row-upper.ensures.cells u, c.row-lower.ensures.cells u, c.requires.size) refl;
      must_is = λ u. c.but-must.ensures u ∙ rw (c.columns-all.ensures u, c.both.ensures u, c.row-upper.ensures.cells u, c.row-lower.ensures.cells u, c.requires.size) refl;
    }

low : (g : _) (c : After-on-after g) → c.args.y + 1 < c.args.puzzle.now.size.h
low g c = rw (c.h.ensures.value, c.size-size.ensures.value) at c.if-y-h.false

wide : (g : _) (c : After-on-after g) → 1 < c.args.puzzle.now.size.w
wide g c = rw (c.w.ensures.value, c.size-size.ensures.value) at c.if-w-lt2.false

pub returns-then-is_some : goal.returns-then-is_some
returns-then-is_some g c =
    let bits = g.W.Word.bits in let from = c.args.planes.now in
    let at = (goal.at.returns-then-is_some g c).After-on-after in
    elim c.then-is_some.branch [
      | then-is_some-via-then-is_some w ↦ twice-die c.args.puzzle.now c.args.y from g.W.Word.room (bits c.but-twice.result) (bits c.but-must.result)
          c.size-size.ensures.lawful (low g at) (wide g at) c.requires.size c.requires.alive (must g at) (sym c.is_some.ensures ∙ w.if-is_some.true)
      | then-is_some-via-else-is_some+then-is_some-2 w ↦ beside-die c.args.puzzle.now c.args.y from g.W.Word.room (bits c.but-twice.result) (bits c.but-must.result)
          c.size-size.ensures.lawful (low g at) (wide g at) c.requires.size c.requires.alive (must g at)
          (bits w.both-else-is_some.result) (λ u. w.both-else-is_some.ensures u ∙ rw (c.on-after.ensures u) refl)
          (sym w.is_some-else-is_some.ensures ∙ w.if-is_some-2.true)
    ]

pub returns : goal.returns
returns g c =
    let bits = g.W.Word.bits in let at = (goal.at.returns g c).After-on-after in
    squares-met c.args.puzzle.now c.args.y c.args.planes.now g.W.Word.room (bits c.but-twice.result) (bits c.but-must.result)
    c.size-size.ensures.lawful (low g at) (wide g at) c.requires.size c.requires.alive (must g at)
    (bits c.both-else-is_some.result) (bits c.either-near.result)
    (sym c.is_some.ensures ∙ c.if-is_some.false) (λ u. c.both-else-is_some.ensures u ∙ rw (c.on-after.ensures u) refl)
    (sym c.is_some-else-is_some.ensures ∙ c.if-is_some-2.false)
    (λ u. c.either-near.ensures u ∙ rw (c.either-2.ensures u, c.on-after.ensures u, c.back.ensures u) refl)
    (rows-struck c.args.planes.now c.args.y (bits c.either-near.result) _ _
    (ap (λ (s : Extent). s.w) c.take.ensures.further.same_size)
    (λ u. c.both-2.ensures u ∙ rw (c.row-upper.ensures.cells u) refl) (λ u. c.both-3.ensures u ∙ rw (c.row-lower.ensures.cells u) refl)
    c.take.ensures.left c.take-2.ensures.left)
    (further-more c.args.planes.now c.take.new.self c.take-2.new.self c.take.ensures.further c.take-2.ensures.further)
