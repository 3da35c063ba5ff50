use Rattle.std.proofs.Common.{◌≡◌, ◌≢◌, List, ℕ, sym, ◌∙◌, ap}
use Rattle.std.specs.Prelude.{codes}
use Rattle.cert_claims.specs.declared.text.claim.Claim.{Claim}
use Rattle.cert_claims.specs.text.Grammar.{Verdict, HasNumbers, verdict_words, verdict_in}
use Rattle.base_text.specs.{lines.Named.named, lines.AnswerLaws.map_read, lines.NamedLaws.one_text}
use Rattle.cert_claims.proofs.text_lemmas.ReadLaws.{not_verdict}
use Rattle.cert_claims.proofs.text.read.VerdictReaderLineReader.read_line.Goals as goal

pub returns-in-Some : goal.returns-in-Some
returns-in-Some c =
    let line = c.args.self.now.line.now in
    let name : List ℕ = c.args.terminal.now.name in
    let words : List ℕ = c.in-Some.words.now in
    let here : c.args.bytes.now ≡ named (codes "verdict") name words =
    rw c.bytes.ensures.same at c.in-Some.ensures in
    map_read ((said : Verdict) → HasNumbers line said → words ≢ verdict_words said) _
    (λ (claim : Claim). HasNumbers line (verdict_in claim)
    × (words ≡ verdict_words (verdict_in claim))) _ c.read_words.result
    (λ none. not_verdict line name c.args.bytes.now (λ said is. none said is.0
    (one_text (codes "verdict") name words (verdict_words said) (sym here ∙ is.1))))
    (λ claim is. (is.0, here ∙ ap (named (codes "verdict") name) is.1))
    c.read_words.ensures

pub returns-in-None : goal.returns-in-None
returns-in-None c =
    not_verdict c.args.self.now.line.now c.args.terminal.now.name c.args.bytes.now (λ said is.
    c.in-None.ensures (verdict_words said) (rw c.bytes.ensures.same is.1))
