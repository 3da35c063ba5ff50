use Rattle.std.proofs.Common.{◌≡◌, ◌≢◌, ◌++◌, List, ℕ, sym, ◌∙◌, ap, subst}
use Rattle.std.proofs.lemmas.List.{append_cancel_left}
use Rattle.std.specs.Prelude.{codes}
use Rattle.cert_claims.specs.text.Grammar.{AreNumbers}
use Rattle.base_text.specs.lines.SpacedNumbers.{numbers_text}
use Rattle.base_text.specs.lines.AnswerLaws.{map_read}
use Rattle.model_line.specs.Parameters.{param_count}
use Rattle.cert_claims.proofs.text.words.read_no.Goals as goal

pub returns : goal.returns
returns c =
    let text : List ℕ = c.in-Some.text.now in
    let count : c.len.result ≡ param_count c.args.line.now =
    c.len.ensures ∙ c.args.line.now.params.ok.0 in
    map_read ((numbers : List ℕ) → AreNumbers c.len.result numbers → text ≢ numbers_text numbers)
    _ (λ numbers. AreNumbers c.len.result numbers.items × (text ≡ numbers_text numbers.items)) _
    c.read_numbers.result
    (λ never numbers are is. never numbers
    (subst (λ (n : ℕ). AreNumbers n numbers) (sym count) are)
    (append_cancel_left (codes "no") text (numbers_text numbers) (sym c.in-Some.ensures ∙ is)))
    (λ numbers read. (
      subst (λ (n : ℕ). AreNumbers n numbers.items) count read.0,
      c.in-Some.ensures ∙ ap (λ (l : List ℕ). codes "no" ++ l) read.1,
    ))
    c.read_numbers.ensures
