use Rattle.std.proofs.Common.{Ok, arith}
use Rattle.std.proofs.lemmas.Result.{err_from_is_err_and}
use Rattle.base_memory.specs.CheckLaws.{fails_first}
use Rattle.base_records.specs.RecordFile.{said_of}
use Rattle.file_tables.specs.timing.SoFar.{all_timings, so_far_of}
use Rattle.file_tables.specs.{timing.Timings.timing_file, timing.Timings.timings_in}
use Rattle.file_tables.proofs.timing_lemmas.SoFarInside.{given_inside, none_so_far, record_so_far}
use Rattle.file_tables.proofs.timing.read.read_timings.Goals as goal

pub read_file-requires-clause-starts : goal.read_file-requires-clause-starts
read_file-requires-clause-starts c = none_so_far c.args.line.now

pub read_file-requires-clause-goes_on : goal.read_file-requires-clause-goes_on
read_file-requires-clause-goes_on c = λ n s t fields before is.
    record_so_far c.args.line.now s n fields t before is

pub read_file-requires-clause-numbers : goal.read_file-requires-clause-numbers
read_file-requires-clause-numbers c = λ n s few before.
    let short = c.requires in
    omega arith

pub returns-in_err-read_file-clause-said : goal.returns-in_err-read_file-clause-said
unfolding timings_in
returns-in_err-read_file-clause-said c =
    let told = err_from_is_err_and c.from_residual.result c.from_residual.ensures.1 in
    rw (told.1, told.2) (fails_first c.in_err-read_file.field-0.0
    (said_of (timing_file c.args.line.now) c.args.bytes.now) (λ s. Ok (all_timings s))
    c.in_err-read_file.ensures.said)

pub returns-clause-said : goal.returns-clause-said
unfolding timings_in
returns-clause-said c = rw c.in_ok-read_file.ensures.said c.finished.ensures

pub returns-clause-inside : goal.returns-clause-inside
returns-clause-inside c =
    given_inside c.args.line.now (so_far_of c.in_ok-read_file.field-0) c.finished.result
    c.in_ok-read_file.ensures.before.2 c.finished.ensures
