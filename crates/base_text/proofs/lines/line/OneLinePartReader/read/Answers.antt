use Rattle.base_text.specs.lines.LineLaws.{refused}
use Rattle.base_text.proofs.lines.line.OneLinePartReader.read.Goals as goal

pub returns-in-None : goal.returns-in-None
returns-in-None g c = λ later.
    let kind = g.R.LineReader.grammar c.args.self.now.reader.now in
    refused kind.stands kind.opens (g.R.LineReader.place c.args.self.now.reader.now c.args.item.now) later
    c.args.lines.now.rest.now c.in_ok-line.line.now c.take_line.new.self.rest.now
    c.args.lines.now.number c.in_ok-line.ensures.0 (rw c.in-None.is at c.in_ok-part.ensures)
