use Rattle.std.proofs.Common.{ap}
use Rattle.file_document.specs.DocumentLaws.{document_read, document_none}
use Rattle.file_document.specs.Keys.{opened}
use Rattle.file_document.proofs.keys.open.Goals as goal

pub returns-in_default : goal.returns-in_default
returns-in_default c = ap opened (document_none c.args.bytes.now c.in_default.ensures.cases.0)

pub returns-in-Ok-table_from_str : goal.returns-in-Ok-table_from_str
returns-in-Ok-table_from_str c =
    ap opened (document_read c.args.bytes.now c.in-Ok.text.now _ c.in-Ok.ensures.cases.0
    c.in-Ok.ensures.cases.1 c.in-Ok-table_from_str.ensures.ok)
