use Rattle.std.proofs.Common.{◌≡◌, ◌≢◌, ◌<◌, ◌^◌, ◌∙◌, ◌++◌, ◌∷◌, ℕ, List, ap}
use Rattle.base_text.specs.lines.AnswerLaws.{map_option}
use Rattle.cert_settle.specs.Grammar.{step_line, two_numbers}
use Rattle.cert_settle.proofs.StepLaws.{behind_name, numbers_are}
use Rattle.cert_settle.proofs.step_line.step_of.Goals as goal

pub returns-in_err-numbers : goal.returns-in_err-numbers
returns-in_err-numbers c =
    rw c.from_residual-in_err-numbers.ensures (λ from value small little is.
    let at : List ℕ = c.in_ok-at.at.now in
    let goes_on : c.in_ok-named.named.now ≡ c.args.name ++ at =
    c.in_ok-at.ensures ∙ ap (λ (l : List ℕ). l ++ at) c.bytes.ensures.same in
    c.in_err-numbers.ensures (two_numbers from value)
    (behind_name c.args.bytes.now c.in_ok-named.named.now at c.args.name from value
    c.in_ok-named.ensures goes_on is))

pub returns : goal.returns
returns c =
    let bytes : List ℕ = c.args.bytes.now in
    let name : List ℕ = c.args.name in
    let named : List ℕ = c.in_ok-named.named.now in
    let at : List ℕ = c.in_ok-at.at.now in
    let numbers : List ℕ = c.in_ok-numbers.numbers.now in
    let goes_on : named ≡ name ++ at =
    c.in_ok-at.ensures ∙ ap (λ (l : List ℕ). l ++ at) c.bytes.ensures.same in
    map_option ((n m : ℕ) → n < 2 ^ 32 → m < 2 ^ 32 → numbers ≢ two_numbers n m)
    ((from value : ℕ) → from < 2 ^ 32 → value < 2 ^ 32 → bytes ≢ step_line name from value)
    (λ two. (two.0 < 2 ^ 32) × ((two.1 < 2 ^ 32) × (numbers ≡ two_numbers two.0 two.1)))
    (λ two. (two.0 < 2 ^ 32) × ((two.1 < 2 ^ 32) × (bytes ≡ step_line name two.0 two.1)))
    c.two_numbers.result
    (λ none from value small little is. none from value small little
    (numbers_are bytes named at name from value c.in_ok-named.ensures goes_on is numbers
    c.in_ok-numbers.ensures))
    (λ two is. (
      is.0,
      (
        is.1.0,
        c.in_ok-named.ensures
            ∙ ap (λ (l : List ℕ). 115 ∷ (116 ∷ (101 ∷ (112 ∷ (32 ∷ l)))))
            (goes_on ∙ ap (λ (l : List ℕ). name ++ l)
            (c.in_ok-numbers.ensures ∙ ap (λ (l : List ℕ). 64 ∷ l) is.1.1)),
      ),
    ))
    c.two_numbers.ensures
