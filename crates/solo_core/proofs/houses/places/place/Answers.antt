use Rattle.solo_core.proofs.Common.{column-at, mul-add-lt, row-at, solo_n}
use Rattle.solo_core.specs.Houses.{square}
use Rattle.solo_core.proofs.houses.places.place.Goals as goal

pub returns-in-Row-clause-place : goal.returns-in-Row-clause-place
returns-in-Row-clause-place c =
    rw (c.in-Row.is, c.from-n.ensures, c.n.ensures.value) (row-at (square c.args.puzzle.now) c.in-Row.y c.args.k c.requires.k_in)

pub returns-in-Row-clause-within : goal.returns-in-Row-clause-within
returns-in-Row-clause-within c =
    let n = solo_n c.args.puzzle.now in
    rw (c.from-n.ensures, c.n.ensures.value) (mul-add-lt c.in-Row.y n c.args.k n (rw c.in-Row.is at c.requires.house_of) c.requires.k_in)

pub returns-in-Column-clause-place : goal.returns-in-Column-clause-place
returns-in-Column-clause-place c =
    rw (c.in-Column.is, c.from-n.ensures, c.n.ensures.value) (column-at (square c.args.puzzle.now) c.in-Column.i c.args.k c.requires.k_in)

pub returns-in-Column-clause-within : goal.returns-in-Column-clause-within
returns-in-Column-clause-within c =
    let n = solo_n c.args.puzzle.now in
    rw (c.from-n.ensures, c.n.ensures.value) (mul-add-lt c.args.k n c.in-Column.i n c.requires.k_in (rw c.in-Column.is at c.requires.house_of))
