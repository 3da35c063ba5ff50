use Rattle.std.proofs.Common.{◌≡◌, ◌≢◌, ◌<◌, ◌^◌, ℕ, List, sym, ◌∙◌, ap, decimal}
use Rattle.base_text.specs.{lines.Named.named, lines.AnswerLaws.map_option, lines.NamedLaws.one_text}
use Rattle.cert_settle.proofs.number.number_after.Goals as goal

pub returns-in_err-text : goal.returns-in_err-text
returns-in_err-text c =
    rw c.from_residual.ensures (λ n small is. c.in_err-text.ensures (decimal n)
    (is ∙ ap (λ (l : List ℕ). named c.args.word.now l (decimal n)) (sym c.bytes.ensures.same)))

pub returns : goal.returns
returns c =
    let word : List ℕ = c.args.word.now in
    let name : List ℕ = c.args.name in
    let text : List ℕ = c.in_ok-text.text.now in
    let here : c.args.bytes.now ≡ named word name text =
    c.in_ok-text.ensures ∙ ap (λ (n : List ℕ). named word n text) c.bytes.ensures.same in
    map_option ((n : ℕ) → n < 2 ^ 32 → text ≢ decimal n) _
    (λ n. (n < 2 ^ 32) × (text ≡ decimal n)) _
    c.number_in.result
    (λ none n small is. none n small (one_text word name text (decimal n) (sym here ∙ is)))
    (λ n is. (is.0, here ∙ ap (λ (t : List ℕ). named word name t) is.1))
    c.number_in.ensures
