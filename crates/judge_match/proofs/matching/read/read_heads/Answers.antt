use Rattle.std.proofs.Common.{List, Ok, ap, arith, length, subst, sym}
use Rattle.std.specs.List.{All}
use Rattle.std.proofs.lemmas.List.Elements.{All-nil}
use Rattle.std.proofs.lemmas.Result.{err_from_is_err_and}
use Rattle.base_memory.specs.CheckLaws.{fails_first}
use Rattle.base_records.specs.{RecordFile.said_of, SoFar.all_of}
use Rattle.judge_match.specs.matching.Heads.{HeadValues, IsNamed}
use Rattle.judge_match.specs.matching.Records.{heads_in, seen_file}
use Rattle.judge_match.proofs.matching_lemmas.NamedLaws.{record_named}
use Rattle.judge_match.proofs.matching.read.read_heads.Goals as goal

pub read_file-requires-clause-starts : goal.read_file-requires-clause-starts
read_file-requires-clause-starts c = (c.requires.few, All-nil (IsNamed _))

pub read_file-requires-clause-goes_on : goal.read_file-requires-clause-goes_on
read_file-requires-clause-goes_on c = λ n s t fields before is.
    (before.0, record_named c.args.line.now c.args.scripts.now s n fields t is before.1)

pub read_file-requires-clause-numbers : goal.read_file-requires-clause-numbers
read_file-requires-clause-numbers c = λ n s few before.
    let short = c.requires.short in
    omega arith

pub returns-in_err-reading-clause-said : goal.returns-in_err-reading-clause-said
unfolding heads_in
returns-in_err-reading-clause-said c =
    let told = err_from_is_err_and c.from_residual.result c.from_residual.ensures.1 in
    rw (told.1, told.2) (fails_first c.in_err-reading.field-0.0
    (said_of (seen_file c.args.line.now c.args.scripts.now) c.args.bytes.now)
    (λ s. Ok (all_of s)) c.in_err-reading.ensures.said)

pub returns-clause-said : goal.returns-clause-said
unfolding heads_in
returns-clause-said c =
    rw c.in_ok-reading.ensures.said (ap (λ hs. Ok hs) (sym c.in_ok-finished.ensures))

pub returns-clause-named : goal.returns-clause-named
returns-clause-named c =
    subst (λ (hs : List HeadValues). All (IsNamed (length c.args.scripts.now)) hs)
    (sym c.in_ok-finished.ensures) c.in_ok-reading.ensures.before.2.1
