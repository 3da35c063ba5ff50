use Rattle.std.proofs.Common.{◌≡◌, true, false, sym, ◌∙◌, ap, decimal}
use Rattle.std.proofs.lemmas.Option.{same_Some, none-some}
use Rattle.base_text.specs.{store.Number.number_of, store.DecimalLaws.number_of-decimal}
use Rattle.base_text.proofs.lines.numbers.number_in.Goals as goal

pub returns-in_err-n : goal.returns-in_err-n
returns-in_err-n c =
    rw c.from_residual.ensures (λ n small is.
    none-some n (sym c.in_err-n.was ∙ c.number.ensures ∙ ap number_of is
    ∙ number_of-decimal n small))

pub returns-else-is : goal.returns-else-is
returns-else-is c = λ n small is.
    let same : c.in_ok-n.n ≡ n =
    same_Some c.in_ok-n.n n (sym c.in_ok-n.was ∙ c.number.ensures ∙ ap number_of is
    ∙ number_of-decimal n small) in
    let yes : c.is.result ≡ true =
    c.is.ensures.1 (c.as_bytes.ensures.value ∙ c.format.ensures.text ∙ ap decimal same ∙ sym is) in
    let no : c.is.result ≡ false = c.if-is.false in
    cc
