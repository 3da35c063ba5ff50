use Rattle.std.proofs.Common.{◌≡◌, ◌++◌, ℕ, List, ◌∙◌, ap, subst, append_assoc}
use Rattle.std.specs.Prelude.{OnOk, codes}
use Rattle.draw_gates.specs.dump.Variables.{code_of, variable_head}
use Rattle.draw_gates.proofs.dump.variables.put_head.Goals as goal

pub returns : goal.returns
unfolding variable_head
returns c =
    let old : List ℕ = c.args.text.now.items in
    let word : List ℕ = codes "$var wire 1 " in
    let code : List ℕ = code_of c.args.i in
    let space : List ℕ = codes " " in
    let all : c.put_code.new.text.items ++ space ≡ old ++ (word ++ code ++ space) =
    ap (λ (l : List ℕ). l ++ space) c.in_ok-put_code.ensures
    ∙ ap (λ (l : List ℕ). (l ++ code) ++ space) c.in_ok-put.ensures
    ∙ ap (λ (l : List ℕ). l ++ space) (append_assoc old word code)
    ∙ append_assoc old (word ++ code) space in
    subst (λ (l : List ℕ). OnOk c.put-2.result (c.put-2.new.text.items ≡ l)) all c.put-2.ensures
