use Rattle.std.proofs.Common.{sym, arith}
use Rattle.file_document.proofs.Counts.{counted_ok, counted_few, counted_many}
use Rattle.file_document.proofs.keys.counted.Goals as goal
use Rattle.file_document.proofs.keys.counted.Goals.{else-least-items-via-then-least-items+else-items-greatest}
use Rattle.file_document.proofs.keys.counted.Goals.{else-least-items-via-else-least-items}

pub returns-then-items-greatest-clause-items : goal.returns-then-items-greatest-clause-items
returns-then-items-greatest-clause-items c =
    sym (counted_ok c.args.path c.args.least c.args.greatest c.args.items.now c.if-least-items.true
    c.if-items-greatest.true)

pub returns-else-least-items-clause-items : goal.returns-else-least-items-clause-items
returns-else-least-items-clause-items c = elim c.else-least-items.branch [
  | else-least-items-via-then-least-items+else-items-greatest w ↦
      sym (counted_many c.args.path c.args.least c.args.greatest c.args.items.now (omega arith)
      (omega arith))
  | else-least-items-via-else-least-items w ↦
      sym (counted_few c.args.path c.args.least c.args.greatest c.args.items.now (omega arith))
]
