use Rattle.std.proofs.Common.{◌++◌, List, ℕ, take, get_or, sym, ◌∙◌, ap, arith, append_assoc}
use Rattle.base_text.specs.lines.SpacedNumbers.{spaced, numbers_text}
use Rattle.base_text.specs.lines.SpacedLaws.{one_number_more}
use Rattle.cert_claims.proofs.text.print.push_numbers.Goals as goal

pub loop-number-preserved : goal.loop-number-preserved
loop-number-preserved c =
    let numbers : List ℕ = c.args.numbers.now in
    let i : ℕ = c.loop-number.number-index in
    let text : List ℕ = c.args.text.now.items in
    let before : List ℕ = numbers_text (take i numbers) in
    let last : ℕ = get_or numbers i 0 in
    c.in_ok-push_number.ensures
    ∙ ap (λ (l : List ℕ). l ++ spaced last) c.loop-number.invariant
    ∙ append_assoc text before (spaced last)
    ∙ ap (λ (l : List ℕ). text ++ l) (sym (one_number_more numbers i 0 (omega arith)))
