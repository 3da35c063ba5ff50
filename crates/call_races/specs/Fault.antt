-- A fault: its scripts, and the waves of all gates over each.
use Rattle.std.specs.Prelude.{◌<◌, ◌^◌, List, Vec, length, map}
use Rattle.std.specs.declared.alloc.Global.{Global}
use Rattle.std.specs.List.{All}
use Rattle.run_waves.specs.waves.Waves.{AreWaves}
use Rattle.judge_races.specs.Lasting.{AreAllWaves}
use Rattle.net_gates.specs.declared.{gate.Gate.Gate, gate.GateId.GateId}
use Rattle.model_logic.specs.Tree.{Tree}
use Rattle.judge_races.specs.Gates.{AreIn}
use Rattle.net_gates.specs.Formulas.{trees_of}
use Rattle.call_races.specs.declared.fault.Fault.{Fault}

pub record IsFault (fault : Fault) : Type 0 where
  pub few : length fault.waves.now < 2 ^ 32
  pub waves : All (λ waves. AreWaves (length fault.compiled.net.now.gates)
      fault.compiled.line.now.horizon waves.items) fault.waves.now
  pub are : AreAllWaves fault.compiled.line.now fault.scripts.now fault.compiled.net.now.gates
      fault.waves.now

-- the trees of the operands of conjunctions, which stand there by their gates
abbrev pub operands_of : List Gate → List (Vec GateId Global) → List (List Tree)
operands_of gates all = map (λ ids. trees_of gates ids.items) all

-- each is a gate of the net
abbrev pub AreAllIn : List Gate → List (Vec GateId Global) → Type 0
AreAllIn gates all = All (λ ids. AreIn gates ids.items) all
