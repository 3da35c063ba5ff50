use Rattle.std.proofs.Common.{sym, ◌∙◌}
use Rattle.std.proofs.lemmas.List.{take_rest}
use Rattle.std.proofs.lemmas.Option.{same_Some, none-some}
use Rattle.cert_claims.specs.text.NumberLaws.{reads_number}
use Rattle.cert_claims.proofs.text_lemmas.NumberLaws.{item_of}
use Rattle.cert_claims.proofs.text.numbers.first_number.Goals as goal

pub returns-in_err-item : goal.returns-in_err-item
returns-in_err-item c =
    rw c.from_residual.ensures (λ n later b. c.in_err-item.ensures _ b.is)

pub returns-in_err-value : goal.returns-in_err-value
returns-in_err-value c =
    rw c.from_residual-in_err-value.ensures (λ n later b.
    let r = reads_number c.in_ok-item.item.now c.find_byte-end.result n b.more b.small
    c.find_byte-end.ensures.place (item_of c.args.text.now c.in_ok-item.item.now n later
    c.in_ok-item.ensures b) in
    none-some n (sym c.in_err-value.was ∙ c.number.ensures ∙ r.0))

pub returns : goal.returns
returns c = λ n later b.
    let r = reads_number c.in_ok-item.item.now c.find_byte-end.result n b.more b.small
    c.find_byte-end.ensures.place (item_of c.args.text.now c.in_ok-item.item.now n later
    c.in_ok-item.ensures b) in (
      same_Some c.in_ok-value.value n (sym c.in_ok-value.was ∙ c.number.ensures ∙ r.0),
      take_rest c.in_ok-item.item.now c.find_byte-end.result ∙ r.1 ∙ sym b.later_is,
    )
