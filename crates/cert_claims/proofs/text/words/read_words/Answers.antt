use Rattle.cert_claims.proofs.text_lemmas.VerdictLaws.{no_verdict}
use Rattle.cert_claims.proofs.text.words.read_words.Goals as goal

pub returns-then-is : goal.returns-then-is
returns-then-is c = (tt, c.is.ensures.0 c.if-is.true)

pub returns-then-is-2 : goal.returns-then-is-2
returns-then-is-2 c = (tt, c.is-2.ensures.0 c.if-is-2.true)

pub returns-in-None : goal.returns-in-None
returns-in-None c =
    no_verdict c.args.line.now c.args.words.now c.is.result c.is-2.result c.if-is.false
    c.if-is-2.false c.is.ensures c.is-2.ensures (rw c.in-None.is at c.in_ok-numbers.ensures)
