use Rattle.model_line.specs.PlainTextLaws.{plain_text}
use Rattle.model_line.proofs.name.Name.plain_text.Goals as goal

pub unreachable-requires : goal.unreachable-requires
unreachable-requires c =
    c.in-Err.ensures.cases.0 (rw c.bytes.ensures.same (plain_text c.args.self.now c.requires))
