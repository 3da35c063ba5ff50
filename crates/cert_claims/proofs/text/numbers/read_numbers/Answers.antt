use Rattle.std.proofs.Common.{◌≡◌, ◌^◌, ◌<◌, ◌++◌, List, ℕ, length, sym, ◌∙◌, ap, arith, true}
use Rattle.std.proofs.Common.{false, subst}
use Rattle.std.specs.List.{All}
use Rattle.base_text.specs.lines.SpacedNumbers.{numbers_text}
use Rattle.cert_claims.proofs.text.numbers.read_numbers.Goals as goal
use Rattle.cert_claims.proofs.text.numbers.read_numbers.Goals.{else-len-count-via-then-len-count+else-is}
use Rattle.cert_claims.proofs.text.numbers.read_numbers.Goals.{else-len-count-via-else-len-count}

pub returns-in_default : goal.returns-in_default
returns-in_default c = λ numbers are text.
    rw c.in_default.is at (c.in_ok-numbers.ensures numbers are text)

pub returns-then-is : goal.returns-then-is
returns-then-is c = (
  record {
    many = sym c.in-Some.numbers.ok.0 ∙ sym c.len.ensures ∙ c.if-len-count.true;
    small = subst (λ (l : List ℕ). All (λ n. n < 2 ^ 32) l) c.as_slice-items.ensures.value
        c.each_fits.ensures;
  },
  sym (c.is.ensures.0 c.if-is.true) ∙ c.as_slice.ensures.value
      ∙ c.in_ok-push_numbers.ensures
      ∙ ap (λ (l : List ℕ). l ++ numbers_text c.as_slice-items.result.now) c.new-printed.ensures.items
      ∙ ap numbers_text c.as_slice-items.ensures.value,
)

pub returns-else-len-count : goal.returns-else-len-count
returns-else-len-count c = λ numbers are text.
    let same : c.in-Some.numbers.items ≡ numbers =
    rw c.in-Some.is at (c.in_ok-numbers.ensures numbers are text) in
    elim c.else-len-count.branch [
      | else-len-count-via-then-len-count+else-is w ↦ (
          let printed : w.as_slice.result.now ≡ c.args.text.now =
          w.as_slice.ensures.value ∙ c.in_ok-push_numbers.ensures
          ∙ ap (λ (l : List ℕ). l ++ numbers_text c.as_slice-items.result.now)
          c.new-printed.ensures.items
          ∙ ap numbers_text (c.as_slice-items.ensures.value ∙ same) ∙ sym text in
          let yes : w.is.result ≡ true = w.is.ensures.1 printed in
          let no : w.is.result ≡ false = w.if-is.false in
          cc)
      | else-len-count-via-else-len-count w ↦
          absurd (omega (arith, c.len.ensures, c.in-Some.numbers.ok.0, ap length same, are.many))
    ]
