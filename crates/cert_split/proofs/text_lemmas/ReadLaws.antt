-- Lines of split trees, read one after another.
use Rattle.std.proofs.Common.{ℕ, List}
use Rattle.model_line.specs.declared.line.Line.{Line}
use Rattle.base_text.specs.lines.Lines.{Goes}
use Rattle.cert_split.specs.text.Grammar.{Place, Said, Stands, opens}

-- lines of split trees were read
abbrev pub GoesOn : Line → List Place → List Said → List ℕ → ℕ → List Place → List ℕ → ℕ → Type 0
GoesOn line places said text a left rest b =
    Goes (Stands line) opens places said text a left rest b
