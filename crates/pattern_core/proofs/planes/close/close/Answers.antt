use Rattle.pattern_core.proofs.Common.{IsClosing, IsWithin, [], after, arith, closing-dead, closing-open, further-more, further-none, line_house, length-append, line_rules, line_rules-lawful, refl, room, running-alive, running-first, running-turn, true, true≢false, waiting, within_inside, ◌*◌, ◌++◌, ◌<◌, ◌∙◌, ◌∷◌, ◌≡◌}
use Rattle.grid_core.specs.Planes.{planes_have, lines_beside, number_of}
use Rattle.engine_core.specs.declared.mode.Closing.TheVariants.{Dead, Open}
use Rattle.engine_core.proofs.AroundLemmas.{closed-in, taken-dead, taken-open}
use Rattle.pattern_core.proofs.WaitingLines.{begins-alive, lines-within, lines-woken, none-waits, waits-line}
use Rattle.pattern_core.proofs.LineTakings.{house-in}
use Rattle.pattern_core.proofs.planes.close.close.Goals as goal
use Rattle.pattern_core.proofs.planes.close.close.Goals.{In-Some, In_default, In_default-visit}

pub loop-line-init : goal.loop-line-init
loop-line-init g c =
    let pat = c.args.rules.now.pattern in let K = planes_have c.args.planes.now in
    record {
      visits = [];
      counted = refl;
      running =
          running-first (line_rules pat) (line_rules-lawful pat c.args.rules.now.extent) K _ refl (begins-alive pat K c.args.from c.requires.closed_but) c.first-waits.ensures.rested;
      within = c.first-waits.ensures.within;
      further = further-none c.args.planes.now;
    }

pub visit-requires-clause-alive : goal.visit-requires-clause-alive
visit-requires-clause-alive g c = running-alive c.loop-line.invariant.running

-- the line that is visited is one of the grid, and waits
line-in : (g : _) (c : In-Some g) → number_of c.in-Some.line < lines_beside c.args.rules.now.pattern.size c.in-Some.line
line-in g c = c.loop-line.invariant.within c.in-Some.line (rw c.in-Some.is at c.next.ensures).0

waits : (g : _) (c : In-Some g) → waiting g.W.Word.bits c.args.rules.now.pattern.size c.loop-line.waits (line_house c.args.rules.now.pattern.size c.in-Some.line) ≡ true
waits g c = waits-line g.W.Word.bits c.args.rules.now.pattern.size c.loop-line.waits c.in-Some.line (line-in g c) ∙ (rw c.in-Some.is at c.next.ensures).0

-- the boards have no other cells and values than the puzzle's
cells : (g : _) (c : In-Some g) → IsWithin (c.args.rules.now.pattern.size.w * c.args.rules.now.pattern.size.h) 2 (planes_have c.loop-line.planes)
cells g c = within_inside _ 2 (planes_have c.loop-line.planes) (planes_have c.args.planes.now) c.first-waits.ensures.fits.cells c.loop-line.invariant.further.inside

-- a visit that would leave a cell without a value ends the closing
dead : (g : _) (c : In_default-visit g) → number_of c.in-Some.line < lines_beside c.args.rules.now.pattern.size c.in-Some.line
    → waiting g.W.Word.bits c.args.rules.now.pattern.size c.loop-line.waits (line_house c.args.rules.now.pattern.size c.in-Some.line) ≡ true
    → IsClosing (line_rules c.args.rules.now.pattern) (planes_have c.args.planes.now)
    (after (line_rules c.args.rules.now.pattern) (line_house c.args.rules.now.pattern.size c.in-Some.line) (planes_have c.loop-line.planes)) Dead
    (c.loop-line.invariant.visits ++ line_house c.args.rules.now.pattern.size c.in-Some.line ∷ []) 0
dead g c lt on =
    let pat = c.args.rules.now.pattern in let i = c.loop-line.invariant in
    closing-dead (line_rules pat) (line_rules-lawful pat c.args.rules.now.extent) (planes_have c.args.planes.now) i.visits (planes_have c.loop-line.planes) _ _
    (line_house pat.size c.in-Some.line) refl c.first-waits.ensures.fits.cells i.running (house-in pat.size c.in-Some.line lt) on refl
    (rw c.in_default-visit.is at c.visit.ensures.visited)

pub returns-in_default-visit-clause-taken : goal.returns-in_default-visit-clause-taken
returns-in_default-visit-clause-taken g c =
    let at = goal.at.returns-in_default-visit-clause-taken g c in taken-dead (dead g at.In_default-visit (line-in g at.In-Some) (waits g at.In-Some))

pub returns-in_default-visit-clause-turns : goal.returns-in_default-visit-clause-turns
returns-in_default-visit-clause-turns g c =
    let at = goal.at.returns-in_default-visit-clause-turns g c in
    closed-in (dead g at.In_default-visit (line-in g at.In-Some) (waits g at.In-Some))
    (λ _. omega (arith, length-append c.loop-line.invariant.visits (line_house c.args.rules.now.pattern.size c.in-Some.line ∷ []), c.loop-line.invariant.counted))
    (λ e. absurd (true≢false e))

pub loop-line-smaller : goal.loop-line-smaller
loop-line-smaller g c =
    let at = (goal.at.loop-line-smaller g c).In-Some in let i = c.loop-line.invariant in
    let few = room i.running (house-in c.args.rules.now.pattern.size c.in-Some.line (line-in g at)) (waits g at) in
    omega (arith, few, i.counted)

pub loop-line-preserved : goal.loop-line-preserved
loop-line-preserved g c =
    let at = (goal.at.loop-line-preserved g c).In-Some in let pat = c.args.rules.now.pattern in
    let i = c.loop-line.invariant in let line = c.in-Some.line in
    let h = line_house pat.size line in let lt = line-in g at in
    let K = planes_have c.loop-line.planes in let K' = planes_have c.visit.new.planes in
    let v = rw c.in-Some-visit.is at c.visit.ensures.visited in let lost = g.W.Word.bits c.in-Some-visit.lost in
    let woken = lines-woken pat line lt K K' lost v.2 g.W.Word.bits c.loop-line.waits c.with_crossing-waits.result c.with_crossing-waits.ensures in
    record {
      visits = i.visits ++ h ∷ [];
      counted = omega (arith, length-append i.visits (h ∷ []), i.counted);
      running = running-turn (line_rules pat) (line_rules-lawful pat c.args.rules.now.extent) (planes_have c.args.planes.now) i.visits K K' _ _ h i.running (house-in pat.size line lt)
          (waits g at) (cells g at) v.0 woken v.1;
      within = lines-within pat line lt K K' lost v.2 g.W.Word.bits c.loop-line.waits c.with_crossing-waits.result c.with_crossing-waits.ensures i.within;
      further = further-more c.args.planes.now c.loop-line.planes c.visit.new.planes i.further c.visit.ensures.further;
    }

-- and so it ends where no line waits
shut : (g : _) (c : In_default g) → IsClosing (line_rules c.args.rules.now.pattern) (planes_have c.args.planes.now) (planes_have c.loop-line.planes) Open c.loop-line.invariant.visits 0
shut g c =
    let pat = c.args.rules.now.pattern in let i = c.loop-line.invariant in
    let fits = c.first-waits.ensures.fits in
    closing-open (line_rules pat) (line_rules-lawful pat c.args.rules.now.extent) (planes_have c.args.planes.now) i.visits (planes_have c.loop-line.planes) _ refl fits.cells i.running
    (none-waits g.W.Word.bits pat.size c.loop-line.waits fits.narrow fits.low (rw c.in_default.is at c.next.ensures))

pub returns-clause-taken : goal.returns-clause-taken
returns-clause-taken g c = taken-open (shut g (goal.at.returns-clause-taken g c).In_default)

pub returns-clause-turns : goal.returns-clause-turns
returns-clause-turns g c = closed-in (shut g (goal.at.returns-clause-turns g c).In_default) (λ _. c.loop-line.invariant.counted) (λ e. absurd (true≢false e))

pub returns-in_default-visit-clause-alive : goal.returns-in_default-visit-clause-alive
returns-in_default-visit-clause-alive g c =
    let same = c.visit.ensures.unchanged c.in_default-visit.is in rw same (running-alive c.loop-line.invariant.running)

pub returns-clause-alive : goal.returns-clause-alive
returns-clause-alive g c = running-alive c.loop-line.invariant.running
