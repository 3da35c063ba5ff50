use Rattle.base_text.specs.lines.ReadLaws.{taken_then}
use Rattle.cert_claims.specs.text.Grammar.{HasOneEach, grammar_of, claim_places, claims_said, claims_in}
use Rattle.cert_claims.specs.text.Grammar.{script_text}
use Rattle.cert_claims.proofs.text.read.ScriptReaderPartReader.read.Goals as goal

pub returns : goal.returns
returns c = λ later.
    let line = c.args.self.now.line.now in
    taken_then (grammar_of line) (script_text c.args.script.now.name) (claim_places line) later
    c.args.lines.now.rest.now c.args.lines.now.number c.take_named.new.self.rest.now
    c.take_named.new.self.number c.read_claims.new.lines.rest.now c.read_claims.new.lines.number
    (λ claims. HasOneEach line (claims_in claims)) (λ claims. claims_said (claims_in claims))
    c.read_claims.result (rw c.bytes.ensures.same at c.in_ok-take_named.ensures.0)
    c.in_ok-take_named.ensures.1 (c.read_claims.ensures later)
