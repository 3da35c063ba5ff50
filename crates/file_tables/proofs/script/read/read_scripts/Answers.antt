use Rattle.std.proofs.Common.{Ok, arith}
use Rattle.std.proofs.lemmas.Result.{IfOk-weaker, err_from_is_err_and}
use Rattle.base_memory.specs.CheckLaws.{fails_first}
use Rattle.base_records.specs.RecordFile.{said_of}
use Rattle.file_tables.specs.script.Scripts.{script_file, scripts_in}
use Rattle.base_records.specs.SoFar.{all_of, so_far_of}
use Rattle.file_tables.specs.{script.Values.values_of}
use Rattle.file_tables.proofs.script_lemmas.SoFar.{given_good, is_small, none_so_far, record_so_far}
use Rattle.file_tables.proofs.script.read.read_scripts.Goals as goal

pub read_file-requires-clause-starts : goal.read_file-requires-clause-starts
read_file-requires-clause-starts c = none_so_far c.args.line.now

pub read_file-requires-clause-goes_on : goal.read_file-requires-clause-goes_on
read_file-requires-clause-goes_on c = λ n s t fields before is.
    record_so_far c.args.line.now s n fields t before is

pub read_file-requires-clause-numbers : goal.read_file-requires-clause-numbers
read_file-requires-clause-numbers c = λ n s few before.
    let small = is_small c.args.line.now n s before in
    omega arith

pub returns-in_err-read_file-clause-said : goal.returns-in_err-read_file-clause-said
unfolding scripts_in
returns-in_err-read_file-clause-said c =
    let told = err_from_is_err_and c.from_residual.result c.from_residual.ensures.1 in
    rw (told.1, told.2) (fails_first c.in_err-read_file.field-0.0
    (said_of (script_file c.args.line.now) c.args.bytes.now) (λ s. Ok (all_of s))
    c.in_err-read_file.ensures.said)

pub returns-clause-said : goal.returns-clause-said
unfolding scripts_in
returns-clause-said c = rw c.in_ok-read_file.ensures.said c.finished.ensures

pub returns-clause-fits : goal.returns-clause-fits
returns-clause-fits c =
    let before = c.in_ok-read_file.ensures.before in
    IfOk-weaker c.finished.result _ _ (λ v good. good.0)
    (given_good c.args.line.now before.0 (so_far_of values_of c.in_ok-read_file.field-0) c.finished.result
    before.1 before.2 c.finished.ensures)

pub returns-clause-one_file : goal.returns-clause-one_file
returns-clause-one_file c =
    let before = c.in_ok-read_file.ensures.before in
    IfOk-weaker c.finished.result _ _ (λ v good. good.1)
    (given_good c.args.line.now before.0 (so_far_of values_of c.in_ok-read_file.field-0) c.finished.result
    before.1 before.2 c.finished.ensures)
