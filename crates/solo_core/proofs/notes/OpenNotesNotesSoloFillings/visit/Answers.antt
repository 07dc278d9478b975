use Rattle.solo_core.proofs.Common.{arith, houses_lawful, houses_rules, length, slice_index, solo_cells, solo_n, sym, true, ℕ, has_place-here, ◌<◌, ◌≡◌, ◌∙◌}
use Rattle.solo_core.proofs.HouseLemmas.{long-at}
use Rattle.std.proofs.Math.Seq.{take-append_seam}
use Rattle.grid_core.specs.Board.{has}
use Rattle.grid_core.proofs.BoardLemmas.{has-within}
use Rattle.solo_core.proofs.NoteLemmas.{noted-house}
use Rattle.solo_core.proofs.OpenVisitLemmas.{dead-if, marked-none, struck-if}
use Rattle.solo_core.proofs.notes.OpenNotesNotesSoloFillings.visit.Goals as goal
use Rattle.solo_core.proofs.notes.OpenNotesNotesSoloFillings.visit.Goals.{After-deref_mut-2}

long : (c : After-deref_mut-2) → length c.places-places.result.now ≡ solo_n c.args.rules.now.set.puzzle
long c = rw c.places-places.ensures (long-at _ _ c.requires.house_in c.args.rules.now.set.is_solo)

within : (c : After-deref_mut-2) → (k v : ℕ) → has c.args.board.now k v ≡ true → v < solo_n c.args.rules.now.set.puzzle
within c k v on = omega (arith, (has-within c.args.board.now k v on).1, c.requires.board_of.same_values)

pub visit_open-requires-clause-square : goal.visit_open-requires-clause-square
visit_open-requires-clause-square c = long (goal.at.visit_open-requires-clause-square c).After-deref_mut-2 ∙ sym c.values-values.ensures

pub visit_open-requires-clause-places_in : goal.visit_open-requires-clause-places_in
visit_open-requires-clause-places_in c = λ k lt.
    let p = c.args.rules.now.set.puzzle in
    let scope = (houses_rules p).scope c.args.house in
    let lk : k < length scope = rw c.places-places.ensures at lt in
    let at : slice_index scope k < solo_cells p = (houses_lawful p c.args.rules.now.set.is_solo).scope_within c.args.house _ c.requires.house_in (has_place-here scope k lk) in
    rw (c.places-places.ensures, c.requires.board_of.same_cells) at

pub visit_open-requires-clause-as_many : goal.visit_open-requires-clause-as_many
visit_open-requires-clause-as_many c = omega (arith, c.deref_mut.ensures.len, c.requires.made.kept_in, long (goal.at.visit_open-requires-clause-as_many c).After-deref_mut-2)

pub visit_open-requires-clause-room : goal.visit_open-requires-clause-room
visit_open-requires-clause-room c = omega (arith, c.deref_mut-2.ensures.len, c.requires.made.rest_in, long (goal.at.visit_open-requires-clause-room c).After-deref_mut-2)

pub visit_open-requires-clause-house : goal.visit_open-requires-clause-house
visit_open-requires-clause-house c = noted-house _ c.requires.noted c.args.house c.requires.house_in c.places-places.ensures c.values-values.ensures c.index.ensures

pub returns-then-open-eq0-clause-struck : goal.returns-then-open-eq0-clause-struck
returns-then-open-eq0-clause-struck c =
    marked-none c.args.rules.now.set.puzzle c.args.rules.now.set.is_solo c.args.house c.requires.house_in _
    (λ k v on. omega (arith, (has-within c.args.board.now k v on).1, c.requires.board_of.same_values)) c.values-values.ensures c.places-places.ensures
    _ _ (omega (arith, c.requires.made.kept_in))
    (rw c.if-open-eq0.true at (noted-house _ c.requires.noted c.args.house c.requires.house_in c.places-places.ensures c.values-values.ensures c.index.ensures))

pub returns-clause-struck : goal.returns-clause-struck
returns-clause-struck c =
    let d = (goal.at.returns-clause-struck c).After-deref_mut-2 in
    let e = c.visit_open.ensures in
    let kept : c.args.self.now.kept.len ≡ length c.visit_open.new.kept = omega (arith, e.as_many, c.deref_mut.ensures.len) in
    let rest : c.args.self.now.rest.len ≡ length c.visit_open.new.rest = omega (arith, e.rest, c.deref_mut-2.ensures.len) in
    rw (kept, rest, take-append_seam c.visit_open.new.kept, take-append_seam c.visit_open.new.rest)
    (struck-if c.args.rules.now.set.puzzle c.args.rules.now.set.is_solo c.args.house c.requires.house_in _ (within d) c.values-values.ensures c.places-places.ensures
    c.visit_open.new.kept c.visit_open.new.rest (omega (arith, e.as_many, c.deref_mut.ensures.len, c.requires.made.kept_in)) c.visit_open.result e.visited e.count e.listed e.others)

pub returns-clause-dead : goal.returns-clause-dead
returns-clause-dead c = dead-if c.args.rules.now.set.puzzle c.args.rules.now.set.is_solo c.args.house c.requires.house_in _
    (within (goal.at.returns-clause-dead c).After-deref_mut-2) c.values-values.ensures c.places-places.ensures c.visit_open.result c.visit_open.ensures.dead
