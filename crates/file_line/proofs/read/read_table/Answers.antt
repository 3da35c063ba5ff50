use Rattle.std.proofs.Common.{◌≡◌, [], Ok, Err, codes, sym}
use Rattle.std.proofs.lemmas.Result.{err_from_is_err_and}
use Rattle.toml.specs.View.{table_view}
use Rattle.file_document.specs.Keys.{number_at, all_known}
use Rattle.file_line.specs.LineFiles.{line_at, top_keys}
use Rattle.file_line.proofs.read.read_table.Goals as goal

pub returns-in_err-only-clause-values : goal.returns-in_err-only-clause-values
unfolding line_at
returns-in_err-only-clause-values c =
    let top = table_view c.args.table.now in
    let p = err_from_is_err_and c.from_residual-in_err-only.result
    c.from_residual-in_err-only.ensures.1 in
    let version : number_at [] (codes "version") 1 2 top ≡ Ok c.in_ok-version.version =
    sym (rw c.root.ensures at c.in_ok-version.ensures.value) in
    let known : all_known [] top_keys top ≡ Err c.in_err-only.field-0.0 =
    sym (rw c.root-2.ensures at c.in_err-only.ensures) in
    rw (p.1, p.2, version, known)
