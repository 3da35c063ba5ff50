use Rattle.std.proofs.Common.{◌≡◌, ◌++◌, List, ℕ, length, map, sym, ◌∙◌, ap}
use Rattle.std.proofs.lemmas.{List.length-map, Simd.map-map}
use Rattle.cert_claims.specs.text.Grammar.{key_of, verdict_of, says_key, says_verdict, terminal_names}
use Rattle.cert_claims.specs.text.Grammar.{Place, Said, Verdict, verdict_in, script_text}
use Rattle.cert_claims.specs.text.Text.{lines_text, fed}
use Rattle.base_text.specs.lines.AnswerLaws.{on_ok}
use Rattle.cert_claims.proofs.text_lemmas.TextLaws.{lines_append, three_stretches}
use Rattle.cert_claims.specs.text.NameLaws.{names_count}
use Rattle.cert_claims.proofs.text.print.push_part.Goals as goal

pub returns : goal.returns
returns c =
    let line = c.args.line.now in
    let names : List (List ℕ) = terminal_names line in
    let key_places : List Place = map key_of names in
    let verdict_places : List Place = map verdict_of names in
    let keys : List Said = map says_key c.args.keys.now in
    let verdicts : List Verdict = map verdict_in c.args.verdicts.now in
    let said : List Said = map says_verdict verdicts in
    let told : map (λ c. says_verdict (verdict_in c)) c.args.verdicts.now ≡ said =
    sym (map-map says_verdict verdict_in c.args.verdicts.now) in
    let script : List ℕ = fed (script_text c.args.script.now.name) in
    let text : List ℕ = c.args.text.now.items in
    let long : length key_places ≡ length keys =
    length-map names (λ x. key_of x) ∙ names_count line ∙ sym c.requires.keys
    ∙ sym (length-map c.args.keys.now (λ x. says_key x)) in
    on_ok (c.push_lines-2.new.text.items
    ≡ c.push_lines.new.text.items ++ lines_text verdict_places said) _ c.push_lines-2.result
    (λ last. three_stretches text c.push_named.new.text.items c.push_lines.new.text.items
    c.push_lines-2.new.text.items script (lines_text key_places keys)
    (lines_text verdict_places said) c.in_ok-push_named.ensures c.in_ok-push_lines.ensures last
    ∙ ap (λ (l : List ℕ). text ++ (script ++ l))
    (sym (lines_append key_places keys verdict_places said long)))
    (rw told at c.push_lines-2.ensures)
