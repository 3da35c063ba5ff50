use Rattle.std.proofs.Common.{◌≡◌, ◌<◌, ◌++◌, List, ℕ, [], length, map, take, get_or, sym, ◌∙◌, ap}
use Rattle.std.proofs.Common.{arith, append_assoc}
use Rattle.std.proofs.lemmas.List.{append-nil}
use Rattle.model_line.specs.Parameters.{terminal_count}
use Rattle.cert_claims.specs.text.Grammar.{terminal_names}
use Rattle.cert_claims.specs.text.Text.{line_text, lines_text, fed}
use Rattle.cert_claims.specs.text.NameLaws.{names_count}
use Rattle.cert_claims.proofs.text_lemmas.TextLaws.{one_more_line, all_lines}
use Rattle.cert_claims.proofs.text.print.push_lines.Goals as goal

pub loop-k-init : goal.loop-k-init
loop-k-init g c = sym (append-nil c.args.text.now.items)

pub loop-k-preserved : goal.loop-k-preserved
loop-k-preserved g c =
    let line = c.args.line.now in
    let place = g.L.TerminalLine.place in
    let says = g.L.TerminalLine.says in
    let names : List (List ℕ) = terminal_names line in
    let all = c.args.said.now in
    let k : ℕ = c.loop-k.k in
    let text : List ℕ = c.args.text.now.items in
    let now : List ℕ = c.loop-k.text.items in
    let inside : k < length names =
    omega (arith, names_count line, c.len-k-end.ensures, line.terminals.ok.0) in
    let within : k < length all = omega (arith, inside, names_count line, c.requires) in
    let d = c.index-said-k.result in
    let name : List ℕ = get_or names k [] in
    let before : List ℕ = lines_text (map place (take k names)) (map says (take k all)) in
    let last : List ℕ = fed (line_text (place name) (says (get_or all k d))) in
    c.in_ok-push_line.ensures
    ∙ ap (λ (n : List ℕ). now ++ fed (line_text (place n) (says d))) c.name_at.ensures
    ∙ ap (λ v. now ++ fed (line_text (place name) (says v))) c.index-said-k.is
    ∙ ap (λ (l : List ℕ). l ++ last) c.loop-k.invariant
    ∙ append_assoc text before last
    ∙ ap (λ (l : List ℕ). text ++ l) (sym (one_more_line place says names all k [] d inside within))

pub returns : goal.returns
returns g c =
    let line = c.args.line.now in
    let done : c.loop-k.k ≡ terminal_count line =
    omega (
      arith,
      c.loop-k-test.false,
      c.loop-k.auto.k-end,
      c.len-k-end.ensures,
      line.terminals.ok.0,
    ) in
    c.loop-k.invariant
    ∙ ap (λ (l : List ℕ). c.args.text.now.items ++ l)
    (all_lines g.L.TerminalLine.place g.L.TerminalLine.says (terminal_names line) c.args.said.now
    c.loop-k.k (omega (arith, names_count line, done)) (omega (arith, done, c.requires)))
