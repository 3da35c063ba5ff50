use Rattle.std.proofs.Common.{[], ◌∷◌}
use Rattle.model_logic.specs.Choice.{declared_box}
use Rattle.base_text.specs.lines.ReadLaws.{taken_then}
use Rattle.cert_settle.specs.Grammar.{grammar_of, result_over, result_said, IsSettleResult}
use Rattle.cert_split.specs.text.Grammar.{tree_text}
use Rattle.cert_settle.specs.Reading.{result_in}
use Rattle.cert_settle.proofs.read.TreeReaderPartReader.read.Goals as goal

pub returns : goal.returns
returns c = λ later.
    let line = c.args.self.now.line.now in
    taken_then (grammar_of line) (tree_text c.args.terminal.now.name)
    (result_over (declared_box line) ∷ []) later c.args.lines.now.rest.now c.args.lines.now.number
    c.take_named.new.self.rest.now c.take_named.new.self.number c.read_result.new.lines.rest.now
    c.read_result.new.lines.number (λ claim. IsSettleResult line (result_in claim))
    (λ claim. result_said (result_in claim)) c.read_result.result
    (rw c.bytes.ensures.same at c.in_ok-take_named.ensures.0) c.in_ok-take_named.ensures.1
    (c.read_result.ensures later)
