use Rattle.std.proofs.Common.{◌≡◌, ◌<◌, ◌≤◌, ◌++◌, ℕ, List, length, sym, ◌∙◌, ap, subst, arith}
use Rattle.std.proofs.lemmas.List.{append-nil}
use Rattle.std.specs.Prelude.{OnOk}
use Rattle.model_line.specs.ParamNameLaws.{name_of-got}
use Rattle.draw_gates.proofs.dump_lemmas.NameLaws.{name_past}
use Rattle.draw_gates.proofs.dump.names.put_name.Goals as goal

pub returns-then-k-len : goal.returns-then-k-len
returns-then-k-len c =
    let ts = c.args.line.now.terminals.items in
    let old : List ℕ = c.args.text.now.items in
    let lt : c.args.k < length c.args.line.now.terminals.items = omega arith in
    subst (λ (l : List ℕ). OnOk c.put.result (c.put.new.text.items ≡ old ++ l))
    (c.bytes.ensures.same ∙ sym (name_of-got ts c.args.k c.index.result.now lt c.index.ensures))
    c.put.ensures

pub returns-else-k-len : goal.returns-else-k-len
returns-else-k-len c =
    let old : List ℕ = c.args.text.now.items in
    let past : length c.args.line.now.terminals.items ≤ c.args.k = omega arith in
    sym (ap (λ (l : List ℕ). old ++ l)
    (name_past c.args.line.now.terminals.items c.args.k past) ∙ append-nil old)
