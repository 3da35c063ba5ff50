use Rattle.std.proofs.Common.{◌≡◌, ◌++◌, ℕ, List, sym, ◌∙◌, ap, subst}
use Rattle.std.specs.Prelude.{IfOk, codes}
use Rattle.draw_run.specs.{layout.Rows.role_name, layout.Words.said}
use Rattle.draw_run.proofs.layout.row.role_name.Goals as goal

pub returns-in-Raw : goal.returns-in-Raw
returns-in-Raw c =
    let word : List ℕ = codes "arrives from " in
    let name : word ++ c.sender_name-in-Raw.result.now ≡ role_name c.args.of.now c.args.role =
    ap (λ (l : List ℕ). word ++ l) c.sender_name-in-Raw.ensures
    ∙ sym (ap (role_name c.args.of.now) c.in-Raw.is) in
    subst (λ (l : List ℕ). IfOk c.two_words-in-Raw.result
    (λ all. said all ≡ said c.args.words ++ l)) name c.two_words-in-Raw.ensures

pub returns-in-Window : goal.returns-in-Window
returns-in-Window c =
    let word : List ℕ = codes "window from " in
    let name : word ++ c.sender_name-in-Window.result.now ≡ role_name c.args.of.now c.args.role =
    ap (λ (l : List ℕ). word ++ l) c.sender_name-in-Window.ensures
    ∙ sym (ap (role_name c.args.of.now) c.in-Window.is) in
    subst (λ (l : List ℕ). IfOk c.two_words-in-Window.result
    (λ all. said all ≡ said c.args.words ++ l)) name c.two_words-in-Window.ensures
