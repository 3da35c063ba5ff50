-- The operands of conjunctions that stand there by their gates.
use Rattle.std.proofs.Common.{◌≡◌, suc, List, [], ◌∷◌, refl, ap, ◌∙◌, map, arith}
use Rattle.std.specs.Prelude.{Vec}
use Rattle.std.specs.declared.alloc.Global.{Global}
use Rattle.std.proofs.lemmas.List.Elements.{All-cons, All-nil}
use Rattle.model_logic.specs.Tree.{Tree}
use Rattle.net_gates.specs.declared.{gate.Gate.Gate, gate.GateId.GateId}
use Rattle.judge_races.specs.Operands.{operands}
use Rattle.judge_races.specs.Gates.{AreConjunctions, AreIn}
use Rattle.call_races.specs.Fault.{AreAllIn, operands_of}

-- those behind the first
behind : (gates : List Gate) (x : Tree) (each : List Tree) (ids : Vec GateId Global)
    (all : List (Vec GateId Global)) → AreConjunctions gates (x ∷ each) (ids ∷ all)
    → AreConjunctions gates each all
behind gates x each ids all are = record {
  count = omega (arith, are.count);
  each = λ i one at. are.each (suc i) one at;
}

pub all_there : (gates : List Gate) (each : List Tree) (all : List (Vec GateId Global))
    → AreConjunctions gates each all → AreAllIn gates all
all_there gates each [] are = All-nil (λ (ids : Vec GateId Global). AreIn gates ids.items)
all_there gates [] (ids ∷ all) are = absurd (omega (arith, are.count))
all_there gates (x ∷ each) (ids ∷ all) are =
    All-cons (λ (ids : Vec GateId Global). AreIn gates ids.items) ids all (are.each 0 ids refl).there
    (all_there gates each all (behind gates x each ids all are))

pub operands_same : (gates : List Gate) (each : List Tree) (all : List (Vec GateId Global))
    → AreConjunctions gates each all → operands_of gates all ≡ map operands each
operands_same gates [] [] are = refl
operands_same gates (x ∷ each) [] are = absurd (omega (arith, are.count))
operands_same gates [] (ids ∷ all) are = absurd (omega (arith, are.count))
operands_same gates (x ∷ each) (ids ∷ all) are =
    ap (λ (xs : List Tree). xs ∷ operands_of gates all) (are.each 0 ids refl).same
    ∙ ap (λ (more : List (List Tree)). operands x ∷ more)
    (operands_same gates each all (behind gates x each ids all are))
