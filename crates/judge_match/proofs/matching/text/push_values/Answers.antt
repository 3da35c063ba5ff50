use Rattle.std.proofs.Common.{◌++◌, List, ℕ, take, get_or, sym, ◌∙◌, ap, arith, append_assoc}
use Rattle.base_text.specs.lines.SpacedNumbers.{numbers_text, spaced}
use Rattle.base_text.specs.lines.SpacedLaws.{one_number_more}
use Rattle.judge_match.proofs.matching.text.push_values.Goals as goal

pub loop-value-preserved : goal.loop-value-preserved
loop-value-preserved c =
    let values : List ℕ = c.args.values.now in
    let i : ℕ = c.loop-value.value-index in
    let text : List ℕ = c.args.text.now.items in
    let before : List ℕ = numbers_text (take i values) in
    let value : ℕ = c.value-item.result in
    let last : ℕ = get_or values i value in
    c.in_ok-push_value.ensures
    ∙ ap (λ (l : List ℕ). l ++ spaced value) c.loop-value.invariant
    ∙ ap (λ (n : ℕ). (text ++ before) ++ spaced n) c.value-item.is
    ∙ append_assoc text before (spaced last)
    ∙ ap (λ (l : List ℕ). text ++ l) (sym (one_number_more values i value (omega arith)))
