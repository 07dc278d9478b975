use Rattle.fields_core.proofs.Common.{length-map-range_with_len, one_at_most, refl, sym, ◌*◌, ◌+◌, ◌-◌}
use Rattle.fields_core.proofs.MeasureLemmas.{adds-none}
use Rattle.fields_core.proofs.RunLemmas.{latest-begins, latest-reaches, line, run-none, run-told}
use Rattle.fields_core.proofs.light_up.houses.add_run.Goals as goal

pub returns-then-at-latest-clause-added : goal.returns-then-at-latest-clause-added
returns-then-at-latest-clause-added c =
    let along = c.args.line.now in
    adds-none c.args.measured.now
    (run-none along.puzzle.now along.first along.stride along.len c.args.at (latest-reaches along.puzzle.now along.first along.stride c.requires.latest c.if-at-latest.true))

pub returns-clause-added : goal.returns-clause-added
returns-clause-added c =
    let along = c.args.line.now in let p = along.puzzle.now in let long = c.run_end-end.result - c.args.at in
    let begun = latest-begins p along.first along.stride c.requires.latest c.if-at-latest.false c.requires.at_in c.requires.white in
    let told = run-told p along.first along.stride {places = line (along.first + c.args.at * along.stride) along.stride long} begun c.run_end-end.ensures refl in
    rw (sym told) (c.add.ensures.added (one_at_most (line (along.first + c.args.at * along.stride) along.stride long)) (sym (length-map-range_with_len _ 0 long)))
