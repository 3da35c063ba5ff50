use Rattle.std.proofs.Common.{◌≡◌, List, ℕ, sym, ◌∙◌, ap}
use Rattle.std.specs.Prelude.{codes}
use Rattle.run_signal.specs.declared.tern.Tern.{Tern}
use Rattle.run_waves.specs.waves.Text.{IsTextOf, runs_text}
use Rattle.base_text.specs.{lines.Named.named, lines.AnswerLaws.map_read, lines.NamedLaws.one_text}
use Rattle.cert_claims.proofs.text_lemmas.ReadLaws.{not_key}
use Rattle.cert_claims.proofs.text.read.KeyReaderLineReader.read_line.Goals as goal

pub returns-in-Some : goal.returns-in-Some
returns-in-Some c =
    let line = c.args.self.now.line.now in
    let name : List ℕ = c.args.terminal.now.name in
    let text : List ℕ = c.in-Some.text.now in
    let here : c.args.bytes.now ≡ named (codes "key") name text =
    rw c.bytes.ensures.same at c.in-Some.ensures in
    map_read ((wave : List Tern) → ¬ (IsTextOf text line.horizon wave)) _
    (λ (wave : List Tern). IsTextOf text line.horizon wave) _ c.read_runs.result
    (λ none. not_key line name c.args.bytes.now (λ wave is. none wave (record {
      long = is.0;
      written = one_text (codes "key") name (runs_text wave) text (sym is.1 ∙ here);
    })))
    (λ wave is. (is.long, here ∙ ap (named (codes "key") name) (sym is.written)))
    c.read_runs.ensures

pub returns-in-None : goal.returns-in-None
returns-in-None c =
    not_key c.args.self.now.line.now c.args.terminal.now.name c.args.bytes.now (λ wave is.
    c.in-None.ensures (runs_text wave) (rw c.bytes.ensures.same is.1))
