use Rattle.std.proofs.Common.{◌≡◌, ◌++◌, ◌<◌, ℕ, List, [], length, map, take, get_or, sym, ◌∙◌, ap, refl}
use Rattle.std.proofs.Common.{arith}
use Rattle.std.proofs.lemmas.List.{length-map}
use Rattle.model_line.specs.Parameters.{terminal_count}
use Rattle.cert_claims.specs.{text.Grammar.script_text, text.Grammar.terminal_names, text.Text.fed}
use Rattle.cert_settle.specs.declared.claim.TreeClaim.{TreeClaim}
use Rattle.cert_settle.specs.Text.{result_text, trees_text}
use Rattle.cert_split.specs.text.Grammar.{tree_text}
use Rattle.cert_settle.specs.{Reading.result_in}
use Rattle.cert_settle.specs.Grammar.{IsSettleResult}
use Rattle.cert_split.specs.text.PairLaws.{pairs_more, pairs_all, two_added}
use Rattle.cert_settle.proofs.PrintLaws.{tree_lines, trees_both, all_mapped}
use Rattle.cert_claims.specs.text.NameLaws.{names_count}
use Rattle.cert_settle.proofs.piece.settle_piece.Goals as goal

pub loop-k-preserved : goal.loop-k-preserved
loop-k-preserved c =
    let line = c.args.line.now in
    let names : List (List ℕ) = terminal_names line in
    let results : List TreeClaim = c.args.results.now in
    let k : ℕ = c.loop-k.k in
    let script : List ℕ = fed (script_text c.args.script.now.name) in
    let claim : TreeClaim = c.index-results-k.result in
    let inside : k < length names =
    omega (arith, names_count line, c.len-k-end.ensures, line.terminals.ok.0) in
    let many : length results ≡ terminal_count line =
    sym (length-map results (λ o. result_in o)) ∙ c.requires.many in
    let within : k < length results = omega (arith, inside, names_count line, many) in
    let trees : List ℕ = trees_text line (take k names) (map result_in (take k results)) in
    let now : List ℕ = c.loop-k.text.items in
    let named : c.push_named-in-loop-k.new.text.items ≡ now ++ fed (tree_text (get_or names k [])) =
    c.in_ok-push_named-2.ensures
    ∙ ap (λ (n : List ℕ). now ++ fed (tree_text n)) c.name_at.ensures in
    let added : c.push_result.new.text.items ≡ c.push_named-in-loop-k.new.text.items
    ++ result_text line (result_in (get_or results k claim)) =
    c.in_ok-push_result.ensures
    ∙ ap (λ (o : TreeClaim). c.push_named-in-loop-k.new.text.items ++ result_text line (result_in o))
    c.index-results-k.is in
    two_added script trees now c.push_named-in-loop-k.new.text.items
    c.push_result.new.text.items (fed (tree_text (get_or names k [])))
    (result_text line (result_in (get_or results k claim)))
    c.loop-k.invariant named added
    ∙ ap (λ (l : List ℕ). script ++ l)
    (sym (pairs_more (tree_lines line) (trees_text line) refl (trees_both line)
    (λ o. result_in o) names results k [] claim inside within))

pub returns : goal.returns
returns c =
    let line = c.args.line.now in
    let results : List TreeClaim = c.args.results.now in
    let script : List ℕ = fed (script_text c.args.script.now.name) in
    let many : length results ≡ terminal_count line =
    sym (length-map results (λ o. result_in o)) ∙ c.requires.many in
    let done : c.loop-k.k ≡ terminal_count line =
    omega (
      arith,
      c.loop-k-test.false,
      c.loop-k.auto.k-end,
      c.len-k-end.ensures,
      line.terminals.ok.0,
    ) in
    c.loop-k.invariant
    ∙ ap (λ (l : List ℕ). script ++ l)
    (pairs_all (trees_text line) (λ o. result_in o) (terminal_names line) results c.loop-k.k
    (omega (arith, names_count line, done)) (omega (arith, done, many)))

pub push_result-requires : goal.push_result-requires
push_result-requires c =
    let results : List TreeClaim = c.args.results.now in
    let k : ℕ = c.loop-k.k in
    let many : length results ≡ terminal_count c.args.line.now =
    sym (length-map results (λ o. result_in o)) ∙ c.requires.many in
    let inside : k < length results =
    omega (arith, many, c.len-k-end.ensures, c.args.line.now.terminals.ok.0, c.loop-k-test.true) in
    all_mapped results k c.index-results-k.result inside c.index-results-k.is
    (IsSettleResult c.args.line.now) c.requires.each
