use Rattle.std.proofs.Common.{◌≡◌, ◌≢◌, List, ℕ, ◌∷◌, ◌++◌, ◌∙◌, ap, refl}
use Rattle.std.specs.Borrow.{Bor}
use Rattle.base_text.specs.{lines.AnswerLaws.map_option, lines.NamedLaws.after_word, lines.NamedLaws.after_space}
use Rattle.base_text.proofs.lines.start.after_name.Goals as goal

pub returns-in_err-rest : goal.returns-in_err-rest
returns-in_err-rest c =
    rw c.from_residual.ensures (λ words is. c.in_err-rest.ensures (32 ∷ (c.args.name.now ++ (32 ∷
    words))) is)

pub returns-in_err-rest-2 : goal.returns-in_err-rest-2
returns-in_err-rest-2 c =
    rw c.from_residual-in_err-rest-2.ensures (λ words is.
    c.in_err-rest-2.ensures (c.args.name.now ++ (32 ∷ words))
    (after_word c.args.text.now c.args.word.now c.in_ok-rest.rest.now _ c.in_ok-rest.ensures is))

pub returns-in_err-rest-3 : goal.returns-in_err-rest-3
returns-in_err-rest-3 c =
    rw c.from_residual-in_err-rest-3.ensures (λ words is.
    c.in_err-rest-3.ensures (32 ∷ words)
    (after_space c.in_ok-rest.rest.now c.in_ok-rest-2.rest.now (c.args.name.now ++ (32 ∷ words))
    c.in_ok-rest-2.ensures
    (after_word c.args.text.now c.args.word.now c.in_ok-rest.rest.now _ c.in_ok-rest.ensures is)))

pub returns : goal.returns
returns c =
    let start : List ℕ = c.args.word.now in
    let name : List ℕ = c.args.name.now in
    let last : List ℕ = c.in_ok-rest-3.rest.now in
    let name_here : c.in_ok-rest-2.rest.now ≡ name ++ last = c.in_ok-rest-3.ensures in
    let all : c.args.text.now ≡ start ++ (32 ∷ (name ++ last)) =
    c.in_ok-rest.ensures ∙ ap (λ (l : List ℕ). start ++ l) (c.in_ok-rest-2.ensures
    ∙ ap (λ (l : List ℕ). 32 ∷ l) name_here) in
    map_option ((rest : List ℕ) → last ≢ 32 ∷ rest) _
    (λ (rest : Bor (List ℕ)). last ≡ 32 ∷ rest.now) _ c.after-4.result
    (λ none words is. none words (after_word (name ++ last) name last (32 ∷ words) refl
    (after_space (32 ∷ (name ++ last)) (name ++ last) (name ++ (32 ∷ words)) refl
    (after_word c.args.text.now start (32 ∷ (name ++ last)) _ all is))))
    (λ rest is. all ∙ ap (λ (l : List ℕ). start ++ (32 ∷ (name ++ l))) is)
    c.after-4.ensures
