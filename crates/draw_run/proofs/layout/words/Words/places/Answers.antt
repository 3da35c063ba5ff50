use Rattle.std.proofs.Common.{◌≡◌, ◌++◌, ◌/◌, ◌%◌, ℕ, Bool, true, false, List, [], IfOk, refl, sym, ◌∙◌, ap, subst, append_assoc, append-nil}
use Rattle.std.specs.Prelude.{◌==◌, codes, decimal, if◌then◌else◌}
use Rattle.std.proofs.lemmas.Bool.{eq-eqb, ne_eqb}
use Rattle.draw_run.specs.layout.Words.{places_said, said}
use Rattle.draw_run.proofs.layout_lemmas.Lists.{three_joined}
use Rattle.draw_run.proofs.layout.words.Words.places.Goals as goal

-- the places by what the three tests tell
abbrev by_tests : Bool → Bool → Bool → ℕ → List ℕ
by_tests none one two rest =
    if none then [] else codes "." ++ decimal (rest / 100)
    ++ (if one then [] else decimal (rest / 10 % 10)
    ++ (if two then [] else decimal (rest % 10)))

tested : (w : List ℕ) (rest : ℕ) (none one two : Bool) → (rest == 0) ≡ none
    → (rest % 100 == 0) ≡ one → (rest % 10 == 0) ≡ two
    → w ++ by_tests none one two rest ≡ w ++ places_said rest
tested w rest none one two p q r =
    ap (λ (b : Bool). w ++ by_tests b one two rest) (sym p)
    ∙ ap (λ (b : Bool). w ++ by_tests (rest == 0) b two rest) (sym q)
    ∙ ap (λ (b : Bool). w ++ by_tests (rest == 0) (rest % 100 == 0) b rest) (sym r)

pub returns-then-rest-eq0 : goal.returns-then-rest-eq0
returns-then-rest-eq0 c =
    sym (append-nil (said c.args.self))
    ∙ tested (said c.args.self) c.args.rest true _ _ (eq-eqb c.args.rest 0 c.if-rest-eq0.true) refl
    refl

pub returns-then-rest-eq0-2 : goal.returns-then-rest-eq0-2
returns-then-rest-eq0-2 c =
    let rest = c.args.rest in
    sym (append-nil (said c.in_ok-words.words))
    ∙ three_joined (said c.args.self) (codes ".") (decimal (rest / 100)) []
    (said c.in_ok-word.field-0) (said c.in_ok-words.words) c.in_ok-word.ensures
    c.in_ok-words.ensures
    ∙ tested (said c.args.self) rest false true _ (ne_eqb rest 0 c.if-rest-eq0.false)
    (eq-eqb (rest % 100) 0 c.if-rest-eq0-2.true) refl

pub returns-then-rest-eq0-3 : goal.returns-then-rest-eq0-3
returns-then-rest-eq0-3 c =
    let rest = c.args.rest in
    let tens : List ℕ = decimal (rest / 10 % 10) in
    c.in_ok-words-2.ensures
    ∙ ap (λ (l : List ℕ). said c.in_ok-words.words ++ l) (sym (append-nil tens))
    ∙ three_joined (said c.args.self) (codes ".") (decimal (rest / 100)) (tens ++ [])
    (said c.in_ok-word.field-0) (said c.in_ok-words.words) c.in_ok-word.ensures
    c.in_ok-words.ensures
    ∙ tested (said c.args.self) rest false false true (ne_eqb rest 0 c.if-rest-eq0.false)
    (ne_eqb (rest % 100) 0 c.if-rest-eq0-2.false) (eq-eqb (rest % 10) 0 c.if-rest-eq0-3.true)

pub returns : goal.returns
returns c =
    let rest = c.args.rest in
    let tens : List ℕ = decimal (rest / 10 % 10) in
    let last : List ℕ = decimal (rest % 10) in
    subst (λ (l : List ℕ). IfOk c.number-3.result (λ words. said words ≡ l))
    (ap (λ (l : List ℕ). l ++ last) c.in_ok-words-2.ensures
    ∙ append_assoc (said c.in_ok-words.words) tens last
    ∙ three_joined (said c.args.self) (codes ".") (decimal (rest / 100)) (tens ++ last)
    (said c.in_ok-word.field-0) (said c.in_ok-words.words) c.in_ok-word.ensures
    c.in_ok-words.ensures
    ∙ tested (said c.args.self) rest false false false (ne_eqb rest 0 c.if-rest-eq0.false)
    (ne_eqb (rest % 100) 0 c.if-rest-eq0-2.false) (ne_eqb (rest % 10) 0 c.if-rest-eq0-3.false))
    c.number-3.ensures
