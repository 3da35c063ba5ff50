use Rattle.std.proofs.Common.{sym, ◌∙◌, ap, arith}
use Rattle.model_logic.specs.Logic.{trip_tree, set_tree}
use Rattle.model_logic.specs.Elements.{current}
use Rattle.net_gates.specs.Formulas.{formula_of}
use Rattle.judge_races.proofs.WaveLaws.{seal_set}
use Rattle.judge_races.proofs.operands.set_gate.Goals as goal

pub returns : goal.returns
unfolding trip_tree
returns c =
    let line = c.args.compiled.now.line.now in
    let gates = c.args.compiled.now.net.now.gates in
    let trip = c.trip_gate-trip.result.0 in
    let is = sym c.in-Seal.ensures.stands ∙ ap (formula_of gates) c.trip_gate-trip.ensures.is
    ∙ c.args.compiled.now.of_line.trips c.args.k c.requires in
    record {
      within = omega (arith, c.in-Seal.ensures.arguments.0, c.trip_gate-trip.ensures.exists);
      is = seal_set (formula_of gates c.in-Seal.set.0) (formula_of gates c.in-Seal.field-1.0)
          (set_tree line c.args.k) (current line c.args.k) is;
    }
