use Rattle.std.proofs.Common.{◌≡◌, ◌++◌, ℕ, List, length, sym, ◌∙◌, ap, subst}
use Rattle.std.proofs.lemmas.List.{length-map}
use Rattle.std.proofs.lemmas.List.Folds.{flat_map-map}
use Rattle.std.proofs.lemmas.Result.{MatchResult-weaker}
use Rattle.std.specs.List.{flat_map}
use Rattle.model_line.specs.declared.line.Terminal.{Terminal}
use Rattle.base_text.specs.{lines.ReadLaws.taken_then, lines.Grammar.Reads, lines.Grammar.IsFault}
use Rattle.cert_claims.specs.text.Grammar.{script_text, terminal_names}
use Rattle.cert_split.specs.text.Grammar.{Place, Said, HasOneEach, grammar_of, tree_places}
use Rattle.cert_split.specs.text.Grammar.{tree_said}
use Rattle.cert_split.specs.text.Reading.{result_in, results_in}
use Rattle.cert_split.proofs.text.read.ScriptReaderPartReader.read.Goals as goal

pub returns : goal.returns
returns c = λ later.
    let line = c.args.self.now.line.now in
    let all = c.as_slice.ensures.value in
    let trees : List Place = flat_map (tree_places line) (terminal_names line) in
    let same : flat_map (λ (t : Terminal). tree_places line t.name) c.as_slice.result.now ≡ trees =
    ap (flat_map (λ (t : Terminal). tree_places line t.name)) all
    ∙ sym (flat_map-map (tree_places line) (λ (t : Terminal). t.name) line.terminals.items) in
    let at : List ℕ = c.take_named.new.self.rest.now in
    let b : ℕ = c.take_named.new.self.number in
    taken_then (grammar_of line) (script_text c.args.script.now.name) trees later
    c.args.lines.now.rest.now c.args.lines.now.number at b c.read_each.new.lines.rest.now
    c.read_each.new.lines.number (λ claims. HasOneEach line (results_in claims))
    (λ claims. flat_map tree_said (results_in claims)) c.read_each.result
    (rw c.bytes.ensures.same at c.in_ok-take_named.ensures.0) c.in_ok-take_named.ensures.1
    (MatchResult-weaker c.read_each.result (c.read_each.ensures later)
    (λ claims is.
    let said : List Said = flat_map tree_said (results_in claims) in
    let P : List Place → Type 0 = λ l. Reads (grammar_of line) l said later at b
    c.read_each.new.lines.rest.now c.read_each.new.lines.number in (
      record {
        many = length-map claims.items (λ x. result_in x) ∙ is.0 ∙ ap length all;
        each = is.1;
      },
      subst P same is.2,
    ))
    (λ fault is.
    let Q : List Place → Type 0 = λ l. IsFault (grammar_of line) (l ++ later) at b fault in
    subst Q same is))
