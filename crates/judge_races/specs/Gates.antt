-- The gates of operands.
use Rattle.std.specs.Prelude.{◌≡◌, ◌<◌, false, List, Vec, length, get_or}
use Rattle.std.specs.List.{All}
use Rattle.std.specs.declared.alloc.Global.{Global}
use Rattle.model_logic.specs.Tree.{Tree, Const}
use Rattle.net_gates.specs.declared.{gate.Gate.Gate, gate.GateId.GateId}
use Rattle.net_gates.specs.Formulas.{trees_of}
use Rattle.judge_verdict.specs.verdict.OneEach.{OneEach}
use Rattle.judge_races.specs.Operands.{operands}

-- each is a gate of the net
abbrev pub AreIn : List Gate → List GateId → Type 0
AreIn gates ids = All (λ id. id.0 < length gates) ids

-- they stand for these trees
pub record StandFor (gates : List Gate) (ids : List GateId) (trees : List Tree) : Type 0 where
  pub same : trees_of gates ids ≡ trees
  pub there : AreIn gates ids

-- for each of the alternatives the gates of its operands
abbrev pub AreConjunctions : List Gate → List Tree → List (Vec GateId Global) → Type 0
AreConjunctions gates each all =
    OneEach (λ i ids. StandFor gates ids.items (operands (get_or each i (Const false))))
    (length each) all
