use Rattle.std.proofs.Common.{◌≡◌, ◌++◌, ℕ, List, length, refl, subst}
use Rattle.std.specs.Prelude.{OnOk, codes}
use Rattle.model_history.specs.Each.{each_below}
use Rattle.model_line.specs.Parameters.{terminal_count}
use Rattle.draw_gates.specs.dump.Variables.{variable_of, scope_text, terminal_scope, declarations}
use Rattle.draw_gates.proofs.dump_lemmas.TextLaws.{piece_more}
use Rattle.draw_gates.proofs.dump.variables.put_declarations.Goals as goal

pub returns : goal.returns
unfolding declarations
returns c =
    let line = c.args.compiled.now.line.now in
    let net = c.args.compiled.now.net.now in
    let old : List ℕ = c.args.text.now.items in
    let terminals : List ℕ = each_below (terminal_count line) (terminal_scope line net) in
    let scope : List ℕ = scope_text (codes "gates$") in
    let gates : List ℕ = each_below (length net.gates) (variable_of line net.gates) in
    let up : List ℕ = codes "$upscope $end\n" in
    let t1 : List ℕ = c.put_terminals.new.text.items in
    let t2 : List ℕ = c.put_scope.new.text.items in
    let t3 : List ℕ = c.put_steps.new.text.items in
    let e2 : t2 ≡ old ++ (terminals ++ scope) =
    piece_more old t1 t2 terminals scope c.in_ok-put_terminals.ensures c.in_ok-put_scope.ensures in
    let e3 : t3 ≡ old ++ (terminals ++ scope ++ gates) =
    piece_more old t2 t3 (terminals ++ scope) gates e2 c.in_ok-put_steps.ensures in
    let all : t3 ++ up ≡ old ++ declarations line net =
    piece_more old t3 (t3 ++ up) (terminals ++ scope ++ gates) up e3 refl in
    subst (λ (l : List ℕ). OnOk c.put.result (c.put.new.text.items ≡ l)) all c.put.ensures
