use Rattle.std.proofs.Common.{◌≡◌, true, false, ◌≤◌, string_bytes, refl, arith}
use Rattle.std.proofs.lemmas.Str.{IsUtf8-string_bytes}
use Rattle.toml.specs.{Data.members_depth, Data.members_have_valid_dates, View.table_view}
use Rattle.file_line.specs.Canonical.{canonical_in}
use Rattle.file_line.proofs.{Dates.canonical_dated, Depths.canonical_depth}
use Rattle.file_document.specs.DocumentLaws.{document_read}
use Rattle.file_line.proofs.print.print.Goals as goal

pub returns-in-Ok-clause-table : goal.returns-in-Ok-clause-table
returns-in-Ok-clause-table c =
    let deep = canonical_depth c.args.version c.args.unit c.args.line.now in
    let shallow : members_depth (canonical_in c.args.version c.args.unit c.args.line.now) ≤ 80 =
    omega (arith, deep) in
    let reads = (rw c.in_ok-table.ensures at c.in-Ok.ensures.reads_back) shallow in
    rw c.into_bytes.ensures.value
    (document_read (string_bytes c.in-Ok.text) (string_bytes c.in-Ok.text) _ refl
    (IsUtf8-string_bytes c.in-Ok.text)
    reads)

pub unreachable-requires : goal.unreachable-requires
unreachable-requires c =
    let dated : members_have_valid_dates (table_view c.in_ok-table.table) ≡ true =
    rw c.in_ok-table.ensures
    (canonical_dated c.args.version c.args.unit c.args.line.now) in
    let invalid : members_have_valid_dates (table_view c.in_ok-table.table) ≡ false =
    c.in-Err-DateInvalid.ensures.dates.0 (rw c.in-Err-DateInvalid.field-0-is) in
    cc
