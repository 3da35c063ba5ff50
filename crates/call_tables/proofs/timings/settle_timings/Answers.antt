use Rattle.std.proofs.Common.{◌≡◌, ◌<◌, List, map, get_or, sym, ◌∙◌, ap, subst, arith}
use Rattle.std.proofs.lemmas.Option.{slice_get-get_or}
use Rattle.std.specs.List.{All, flat_map}
use Rattle.model_line.specs.Parameters.{terminal_count}
use Rattle.model_timing.specs.NamedValues.{NamedValues, values_of}
use Rattle.file_tables.specs.timing.Printed.{MayStand}
use Rattle.call_tables.specs.declared.row.Row.{Row}
use Rattle.call_tables.specs.Written.{rows_of, failing_of, failing_timings}
use Rattle.call_tables.proofs.RowLaws.{row_at}
use Rattle.call_tables.proofs.timings.settle_timings.Goals as goal

pub failing-requires : goal.failing-requires
failing-requires c =
    let line = c.args.study.now.line in
    let own : List Row = rows_of line c.args.rows.now c.args.script in
    subst (λ (rs : List Row). All (λ row. row.terminal < terminal_count line) rs)
    (sym c.rows_of-of_script.ensures)
    (λ k d lt.
    let is = row_at line c.args.study.now.scripts.items c.args.rows.now c.args.script
    c.requires.rows c.requires.script k (get_or own k d) (slice_get-get_or own k d lt) in
    omega (arith, is.terminal, is.below))

pub print_timings-requires-clause-may_stand : goal.print_timings-requires-clause-may_stand
print_timings-requires-clause-may_stand c =
    let line = c.args.study.now.line in
    let are : map values_of c.as_slice.result.now
    ≡ failing_timings line c.args.rows.now c.args.script =
    ap (λ ts. map values_of ts) c.as_slice.ensures.value ∙ c.in_ok-timings.ensures
    ∙ ap (λ (rs : List Row). flat_map (failing_of line) rs) c.rows_of-of_script.ensures in
    subst (λ (ts : List NamedValues). All (MayStand line) ts) (sym are)
    (c.failing_timings_are_of_one_file.ensures.stand line c.args.study.now.scripts.items
    c.args.rows.now c.args.script c.requires.rows c.requires.script)
