use Rattle.std.proofs.Common.{◌≡◌, ◌≢◌, ◌<◌, ◌^◌, ℕ, List, sym, ◌∙◌, ap, decimal}
use Rattle.std.specs.Prelude.{codes}
use Rattle.base_text.specs.{lines.Named.named, lines.AnswerLaws.map_option, lines.NamedLaws.one_text}
use Rattle.cert_split.proofs.text.node_line.mid_in.Goals as goal

pub returns-in_err-text : goal.returns-in_err-text
returns-in_err-text c =
    rw c.from_residual.ensures (λ mid small is. c.in_err-text.ensures (decimal mid)
    (is ∙ ap (λ (n : List ℕ). named (codes "split") n (decimal mid)) (sym c.bytes.ensures.same)))

pub returns : goal.returns
returns c =
    let name : List ℕ = c.args.name in
    let text : List ℕ = c.in_ok-text.text.now in
    let here : c.args.bytes.now ≡ named (codes "split") name text =
    c.in_ok-text.ensures ∙ ap (λ (n : List ℕ). named (codes "split") n text) c.bytes.ensures.same in
    map_option ((n : ℕ) → n < 2 ^ 32 → text ≢ decimal n) _
    (λ n. (n < 2 ^ 32) × (text ≡ decimal n)) _
    c.number_in.result
    (λ none mid small is. none mid small (one_text (codes "split") name text (decimal mid)
    (sym here ∙ is)))
    (λ n is. here ∙ ap (λ (t : List ℕ). named (codes "split") name t) is.1)
    c.number_in.ensures
