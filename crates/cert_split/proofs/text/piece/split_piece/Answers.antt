use Rattle.std.proofs.Common.{◌≡◌, ◌++◌, ◌<◌, ℕ, List, [], length, map, take, get_or, sym, ◌∙◌, ap, refl}
use Rattle.std.proofs.Common.{arith}
use Rattle.model_line.specs.Parameters.{terminal_count}
use Rattle.cert_claims.specs.{text.Grammar.script_text, text.Grammar.terminal_names, text.Text.fed}
use Rattle.judge_split.specs.declared.node.Outcome.{Outcome}
use Rattle.cert_split.specs.{text.Grammar.tree_text, text.Text.result_text, text.Text.trees_text}
use Rattle.cert_split.specs.{text.Piece.written_as}
use Rattle.cert_split.specs.text.PairLaws.{pairs_more, pairs_all, two_added}
use Rattle.cert_split.proofs.text_lemmas.PrintLaws.{tree_lines, trees_both}
use Rattle.cert_claims.specs.text.NameLaws.{names_count}
use Rattle.cert_split.proofs.text.piece.split_piece.Goals as goal

pub loop-k-preserved : goal.loop-k-preserved
loop-k-preserved c =
    let line = c.args.line.now in
    let names : List (List ℕ) = terminal_names line in
    let searches : List Outcome = c.args.searches.now in
    let k : ℕ = c.loop-k.k in
    let script : List ℕ = fed (script_text c.args.script.now.name) in
    let outcome : Outcome = c.index-searches-k.result in
    let inside : k < length names =
    omega (arith, names_count line, c.len-k-end.ensures, line.terminals.ok.0) in
    let within : k < length searches = omega (arith, inside, names_count line, c.requires.many) in
    let trees : List ℕ = trees_text line (take k names) (map written_as (take k searches)) in
    let now : List ℕ = c.loop-k.text.items in
    let named : c.push_named-in-loop-k.new.text.items ≡ now ++ fed (tree_text (get_or names k [])) =
    c.in_ok-push_named-2.ensures
    ∙ ap (λ (n : List ℕ). now ++ fed (tree_text n)) c.name_at.ensures in
    let added : c.push_outcome.new.text.items ≡ c.push_named-in-loop-k.new.text.items
    ++ result_text line (written_as (get_or searches k outcome)) =
    c.in_ok-push_outcome.ensures
    ∙ ap (λ (o : Outcome). c.push_named-in-loop-k.new.text.items ++ result_text line (written_as o))
    c.index-searches-k.is in
    two_added script trees now c.push_named-in-loop-k.new.text.items
    c.push_outcome.new.text.items (fed (tree_text (get_or names k [])))
    (result_text line (written_as (get_or searches k outcome)))
    c.loop-k.invariant named added
    ∙ ap (λ (l : List ℕ). script ++ l)
    (sym (pairs_more (tree_lines line) (trees_text line) refl (trees_both line)
    (λ o. written_as o) names searches k [] outcome inside within))

pub returns : goal.returns
returns c =
    let line = c.args.line.now in
    let searches : List Outcome = c.args.searches.now in
    let script : List ℕ = fed (script_text c.args.script.now.name) in
    let done : c.loop-k.k ≡ terminal_count line =
    omega (
      arith,
      c.loop-k-test.false,
      c.loop-k.auto.k-end,
      c.len-k-end.ensures,
      line.terminals.ok.0,
    ) in
    c.loop-k.invariant
    ∙ ap (λ (l : List ℕ). script ++ l)
    (pairs_all (trees_text line) (λ o. written_as o) (terminal_names line) searches c.loop-k.k
    (omega (arith, names_count line, done)) (omega (arith, done, c.requires.many)))
