use Rattle.std.proofs.Common.{◌≡◌, ◌≢◌, ◌<◌, ◌^◌, ℕ, List, sym, ◌∙◌, ap}
use Rattle.base_text.specs.{lines.Named.named, lines.AnswerLaws.map_option, lines.NamedLaws.one_text}
use Rattle.cert_settle.specs.Grammar.{two_numbers}
use Rattle.cert_settle.proofs.number.numbers_after.Goals as goal

pub returns-in_err-text : goal.returns-in_err-text
returns-in_err-text c =
    rw c.from_residual.ensures (λ n m small little is. c.in_err-text.ensures (two_numbers n m)
    (is ∙ ap (λ (l : List ℕ). named c.args.word.now l (two_numbers n m)) (sym c.bytes.ensures.same)))

pub returns : goal.returns
returns c =
    let word : List ℕ = c.args.word.now in
    let name : List ℕ = c.args.name in
    let text : List ℕ = c.in_ok-text.text.now in
    let here : c.args.bytes.now ≡ named word name text =
    c.in_ok-text.ensures ∙ ap (λ (n : List ℕ). named word n text) c.bytes.ensures.same in
    map_option ((n m : ℕ) → n < 2 ^ 32 → m < 2 ^ 32 → text ≢ two_numbers n m) _
    (λ at. (at.0 < 2 ^ 32) × ((at.1 < 2 ^ 32) × (text ≡ two_numbers at.0 at.1))) _
    c.two_numbers.result
    (λ none n m small little is. none n m small little
    (one_text word name text (two_numbers n m) (sym here ∙ is)))
    (λ at is. (is.0, (is.1.0, here ∙ ap (λ (t : List ℕ). named word name t) is.1.1)))
    c.two_numbers.ensures
