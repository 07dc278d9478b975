use Rattle.engine_core.proofs.Common.{arith, drop, length, ◌≡◌}
use Rattle.engine_core.proofs.JudgeLemmas.{scope_le-longest}
use Rattle.engine_core.proofs.MarkLemmas.{written-back}
use Rattle.engine_core.proofs.NotesLemmas.{plain-all, plain-none}
use Rattle.engine_core.proofs.QueueLemmas.{within_of}
use Rattle.engine_core.proofs.notes.plain.PlainNotesNotes.visit.Goals as goal

pub filter-requires-clause-sets_room : goal.filter-requires-clause-sets_room
filter-requires-clause-sets_room g c =
    let p = g.S.RuleSet.system (g.S.RuleSet.puzzle_of c.args.rules.now.set) in
    omega (arith, scope_le-longest p.scope p.houses c.args.house c.requires.house_in, c.requires.made.0, c.deref_mut.ensures.len)

pub filter-requires-clause-kept_room : goal.filter-requires-clause-kept_room
filter-requires-clause-kept_room g c =
    let p = g.S.RuleSet.system (g.S.RuleSet.puzzle_of c.args.rules.now.set) in
    omega (arith, scope_le-longest p.scope p.houses c.args.house c.requires.house_in, c.requires.made.1, c.deref_mut-2.ensures.len)

pub returns-then-filter-clause-struck : goal.returns-then-filter-clause-struck
returns-then-filter-clause-struck g c =
    let p = g.S.RuleSet.system (g.S.RuleSet.puzzle_of c.args.rules.now.set) in
    let left = c.args.self.now.left in
    let long : left.len ≡ length c.filter.new.kept = omega (arith, left.ok.0, c.deref_mut-2.ensures.len, c.filter.auto.kept) in
    rw (c.scope_len.ensures, written-back left.len c.filter.new.kept (drop (length c.filter.new.kept) left.items) long)
    (plain-all left.len long (omega (arith, scope_le-longest p.scope p.houses c.args.house c.requires.house_in, c.requires.made.1))
    (rw c.if-filter.true at c.filter.ensures.filtered.kept_are))

pub returns-else-filter-clause-struck : goal.returns-else-filter-clause-struck
returns-else-filter-clause-struck g c =
    let p = g.S.RuleSet.system (g.S.RuleSet.puzzle_of c.args.rules.now.set) in
    let left = c.args.self.now.left in
    let long : left.len ≡ length c.filter.new.kept = omega (arith, left.ok.0, c.deref_mut-2.ensures.len, c.filter.auto.kept) in
    rw (written-back left.len c.filter.new.kept (drop (length c.filter.new.kept) left.items) long)
    (plain-none (g.met.S.RuleSet.lawful _ (g.met.S.RuleSet.knows c.args.rules.now.set)) c.filter.new.kept left.len c.requires.house_in
    (within_of p _ c.requires.board_of) (omega (arith, scope_le-longest p.scope p.houses c.args.house c.requires.house_in, c.requires.made.1, long))
    (rw c.if-filter.false at c.filter.ensures.filtered.kept_are))
