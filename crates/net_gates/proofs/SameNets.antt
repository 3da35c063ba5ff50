-- A net of a line is a net of each line that agrees with it in all but the intervals.
use Rattle.std.proofs.Common.{◌≡◌, ◌<◌, ℕ, sym, ◌∙◌, subst}
use Rattle.model_line.specs.{declared.line.Line.Line, Laws.CountsRestOnNoInterval}
use Rattle.model_line.specs.SetBounds.{SameButParams}
use Rattle.model_logic.specs.{declared.time.Time.Time, IntervalLaws.TreesRestOnNoInterval}
use Rattle.model_logic.specs.Names.{HasTime}
use Rattle.model_logic.specs.declared.time.Time.TheVariants as time
use Rattle.net_gates.specs.declared.gate.Gate.TheVariants.{Const, Seen, Loss, Raw, Not, And, Or}
use Rattle.net_gates.specs.declared.gate.Gate.TheVariants.{Timer, Seal}
use Rattle.net_gates.specs.{declared.gate.Gate.Gate, Named.GateNames, NetOf.NetOf, NetOf.IsNetOf}

module _ (counts : CountsRestOnNoInterval) (trees : TreesRestOnNoInterval) (old new : Line)
    (same : SameButParams old new) where
  below : (a b i : ℕ) → b ≡ a → i < a → i < b
  below a b i e lt = subst (λ (n : ℕ). i < n) (sym e) lt

  time_named : (x : Time) → HasTime old x → HasTime new x
  time_named time.Zero has = tt
  time_named (time.Param i) has = below _ _ i (counts.params old new same) has

  gate_named : (g : Gate) → GateNames old g → GateNames new g
  gate_named (Const v) names = tt
  gate_named (Seen p) names = below _ _ p.terminal (counts.terminals old new same) names
  gate_named (Loss c) names = below _ _ c (counts.channels old new same) names
  gate_named (Raw c) names = below _ _ c (counts.channels old new same) names
  gate_named (Not a) names = tt
  gate_named (And a b) names = tt
  gate_named (Or a b) names = tt
  gate_named (Timer a p d) names = (time_named p names.0, time_named d names.1)
  gate_named (Seal a b) names = tt

  pub net_same : (net : NetOf) → IsNetOf old net → IsNetOf new net
  net_same net is = record {
    laws = is.laws;
    terminals = is.terminals ∙ sym (counts.terminals old new same);
    keys = λ k kn.
        is.keys k (subst (λ (n : ℕ). k < n) (counts.terminals old new same) kn)
        ∙ sym (trees.keys old new k same);
    trips = λ k kn.
        is.trips k (subst (λ (n : ℕ). k < n) (counts.terminals old new same) kn)
        ∙ sym (trees.trips old new k same);
    named = record { each = λ i g from at. gate_named g (is.named.each i g from at) };
  }
