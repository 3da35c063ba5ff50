use Rattle.std.proofs.Common.{List, ℕ, [], sym}
use Rattle.std.proofs.lemmas.List.{get_or-map}
use Rattle.model_line.specs.declared.line.Terminal.{Terminal}
use Rattle.file_line.proofs.pairs.name.Goals as goal

pub returns : goal.returns
returns c =
    let name : Terminal → List ℕ = λ t. t.name in
    sym (get_or-map name c.args.terminals.now c.args.place c.index-terminals-place.result []
    c.requires)
