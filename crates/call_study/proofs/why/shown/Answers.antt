use Rattle.std.proofs.Common.{◌≡◌, ◌∙◌, ◌++◌, ◌∷◌, [], List, ℕ, ap, append-nil, append_assoc, refl, subst, sym}
use Rattle.std.specs.List.{concat}
use Rattle.std.specs.Prelude.{codes}
use Rattle.std.proofs.lemmas.Result.{IfOk-weaker}
use Rattle.draw_shapes.specs.declared.rows.Rows.TheVariants.{Changing}
use Rattle.model_timing.specs.NamedValues.{values_of}
use Rattle.call_study.specs.Pictures.{IsRunText}
use Rattle.call_study.specs.Reasons.{said_of}
use Rattle.call_study.proofs.why.shown.Goals as goal

-- three pieces, one behind the other
three : (a b t : List ℕ) → concat (a ∷ b ∷ t ∷ []) ≡ a ++ b ++ t
three a b t = ap (λ (l : List ℕ). a ++ (b ++ l)) (append-nil t) ∙ sym (append_assoc a b t)

pub returns-in-Words : goal.returns-in-Words
returns-in-Words c = rw c.in-Words.is refl

pub returns : goal.returns
returns c =
    let line = c.args.compiled.now.line.now in
    let script = c.args.script.now in
    let made : List ℕ = c.in-Diagram.made.now in
    let words : c.in_ok-words-in-Diagram.words.items ≡ said_of made c.args.reason.text.items =
    c.in_ok-words-in-Diagram.ensures ∙ three made (codes "\n") c.as_slice.result.now
    ∙ ap (λ (l : List ℕ). said_of made l) c.as_slice.ensures.value in
    let all : c.as_slice-in-Diagram.result.now ≡ said_of made c.args.reason.text.items =
    c.as_slice-in-Diagram.ensures.value ∙ words in
    rw c.in-Diagram.is
    (IfOk-weaker c.run_text.result _ _
    (λ text drawn. subst (λ (m : List ℕ). IsRunText line script (values_of c.args.reason.named) Changing m
    text.items) all drawn)
    c.run_text.ensures.drawn)
