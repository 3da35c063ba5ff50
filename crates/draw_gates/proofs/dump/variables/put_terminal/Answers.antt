use Rattle.std.proofs.Common.{◌≡◌, ◌++◌, ℕ, List, length, refl, ◌∙◌, ap, subst, sym}
use Rattle.std.specs.Prelude.{OnOk, codes}
use Rattle.model_history.specs.Each.{each_below}
use Rattle.model_line.specs.ParamNames.{name_at}
use Rattle.model_line.specs.ParamNameLaws.{name_of-got}
use Rattle.net_gates.specs.NetOf.{key_of, trip_of}
use Rattle.draw_gates.specs.dump.Variables.{variable_text, variable_at, scope_text, terminal_scope}
use Rattle.draw_gates.proofs.dump_lemmas.TextLaws.{piece_more}
use Rattle.draw_gates.proofs.dump.variables.put_terminal.Goals as goal

pub returns : goal.returns
unfolding terminal_scope
returns c =
    let line = c.args.compiled.now.line.now in
    let net = c.args.compiled.now.net.now in
    let k = c.args.k in
    let old : List ℕ = c.args.text.now.items in
    let name : List ℕ = name_at line.terminals.items k in
    let scope : List ℕ = scope_text name in
    let gates : List ℕ = each_below (length net.gates) (variable_at line net.gates k) in
    let key : List ℕ = variable_text (key_of net k) (codes "key_" ++ name) in
    let trip : List ℕ = variable_text (trip_of net k) (codes "trip_" ++ name) in
    let up : List ℕ = codes "$upscope $end\n" in
    let t1 : List ℕ = c.put_scope.new.text.items in
    let t2 : List ℕ = c.put_named.new.text.items in
    let t3 : List ℕ = c.put_end.new.text.items in
    let t4 : List ℕ = c.put_end-2.new.text.items in
    let named : c.bytes.result.now ≡ name =
    c.bytes.ensures.same
    ∙ sym (name_of-got line.terminals.items k c.index.result.now c.requires.exists c.index.ensures) in
    let e1 : t1 ≡ old ++ scope =
    c.in_ok-put_scope.ensures ∙ ap (λ (l : List ℕ). old ++ scope_text l) named in
    let e2 : t2 ≡ old ++ (scope ++ gates) =
    piece_more old t1 t2 scope gates e1 c.in_ok-put_named.ensures in
    let keyed : t3 ≡ t2 ++ key =
    c.in_ok-put_end.ensures
    ∙ ap (λ (i : ℕ). t2 ++ variable_text i (codes "key_" ++ name)) c.key_gate.ensures.is in
    let e3 : t3 ≡ old ++ (scope ++ gates ++ key) =
    piece_more old t2 t3 (scope ++ gates) key e2 keyed in
    let tripped : t4 ≡ t3 ++ trip =
    c.in_ok-put_end-2.ensures
    ∙ ap (λ (i : ℕ). t3 ++ variable_text i (codes "trip_" ++ name)) c.trip_gate.ensures.is in
    let e4 : t4 ≡ old ++ (scope ++ gates ++ key ++ trip) =
    piece_more old t3 t4 (scope ++ gates ++ key) trip e3 tripped in
    let all : t4 ++ up ≡ old ++ terminal_scope line net k =
    piece_more old t4 (t4 ++ up) (scope ++ gates ++ key ++ trip) up e4 refl in
    subst (λ (l : List ℕ). OnOk c.put.result (c.put.new.text.items ≡ l)) all c.put.ensures
