-- A stretch of ticks of a line's net.
use Rattle.std.proofs.Common.{◌≡◌, ℕ, ◌+◌, ◌<◌, ◌≤◌, List, length, Some, sym, ◌∙◌, arith}
use Rattle.std.proofs.Common.{subst}
use Rattle.std.specs.Prelude.{slice_get}
use Rattle.model_history.specs.Rails.{Rails, Ends}
use Rattle.run_signal.specs.Stretches.{ElementsInAStretch}
use Rattle.model_line.specs.{declared.line.Line.Line, declared.script.Script.Script}
use Rattle.model_line.specs.{Channels.from_of, Parameters.channel_count}
use Rattle.model_logic.specs.Choice.{Box, LeastFromOne, pair_world_of}
use Rattle.model_logic.specs.PairMean.{PairWorld, PairSignals}
use Rattle.model_logic.specs.{Logic.key_tree, Solution.the_keys, Laws.LineLaws}
use Rattle.net_gates.specs.declared.gate.Gate.{Gate}
use Rattle.net_gates.specs.NetOf.{NetOf, IsNetOf, AreGatesOf, key_of, id_at}
use Rattle.net_gates.specs.{declared.gate.GateId.GateId, NetLaws.GatesStandForTheirTrees}
use Rattle.net_gates.specs.{NetLaws.hears_channel, Readers.Hears}
use Rattle.run_step.specs.declared.run.Run.{Run}
use Rattle.run_step.specs.{Quiet.Keeps, Quiet.AreGatePairs, Lasts.Lasts}
use Rattle.run_step.specs.{GatePairs.GateSignals, GatePairs.line_pairs, LaneBox.lane_box}
use Rattle.run_step.specs.{LaneBox.lane_world, Ticks.ValuesAgree}
use Rattle.run_step.specs.Lanes.{line_lane}
use Rattle.run_step.specs.GatePairLaws.{gate_pairs-kind}
use Rattle.run_changes.proofs.changes_lemmas.LagLaws.{lasts_quiet}
use Rattle.run_step.specs.{QuietLaws.quiet_gates_keep, RunLaws.key_pair}

-- what a column has of some gates is what they have through the stretch
pub held_values : {V : Type 0} (rails : V → ℕ → Rails) (lane : ℕ) (u : GateSignals) (t n len : ℕ)
    (column : List V) (ids : List GateId) → AreGatesOf ids len → ValuesAgree rails lane u t column
    → ((i : ℕ) → i < len → Keeps (u i) t n)
    → (k : ℕ) (x : V) → k < length ids → slice_get column (id_at ids k) ≡ Some x
    → (r : ℕ) → t ≤ r → r < t + n → u (id_at ids k) r ≡ rails x lane
held_values rails lane u t n len column ids are agree keeps k x lt at r low high =
    keeps (id_at ids k) (are k lt) r low high ∙ sym (agree (id_at ids k) x at)

module _ {S : Type 0} (laws : LineLaws) (trees : GatesStandForTheirTrees)
    (stretch : ElementsInAStretch) (ends : S → ℕ → Ends) (run : Run S) (script : Script)
    (lane : ℕ)
    (d : LeastFromOne run.compiled.now.line.now
    (lane_box ends run.compiled.now.line.now run.spans.now run.steps.now lane)) where
  abbrev line : Line
  line = run.compiled.now.line.now

  abbrev net : NetOf
  net = run.compiled.now.net.now

  of_line : IsNetOf line net
  of_line = run.compiled.now.of_line

  abbrev box : Box
  box = lane_box ends line run.spans.now run.steps.now lane

  abbrev world : PairWorld
  world = lane_world ends line script run.spans.now run.steps.now lane

  abbrev keys : PairSignals
  keys = the_keys world (key_tree line)

  abbrev pairs : GateSignals
  pairs = line_pairs line script box net

  -- the key's gate of the terminal that sends over a channel
  are_pairs : AreGatePairs world keys pairs (channel_count line) line.horizon net.gates
  unfolding pair_world_of
  are_pairs = record {
    told = λ t i g at. gate_pairs-kind trees.kinds world keys net.gates i g t of_line.laws.gates at;
    key_gate = λ c. key_of net (from_of line.channels.items c);
    there = λ c lt. of_line.laws.keys (from_of line.channels.items c)
        (subst (λ (n : ℕ). from_of line.channels.items c < n) (sym of_line.terminals)
        (line.pairs_once.from c lt));
    keys_are = λ c t lt early.
        sym (key_pair laws trees line script box d net of_line (from_of line.channels.items c) t
        (line.pairs_once.from c lt) early);
  }

  pub key_is : (k t : ℕ) → k < length net.keys → t < line.horizon
      → keys k t ≡ pairs (key_of net k) t
  key_is k t kn lt =
      sym (key_pair laws trees line script box d net of_line k t
      (subst (λ (n : ℕ). k < n) of_line.terminals kn) lt)

  -- every gate keeps its value through the stretch
  pub stretch_keeps : (t n : ℕ) → t + n ≤ line.horizon
      → ((i : ℕ) (g : Gate) → slice_get net.gates i ≡ Some g
      → Lasts (line_lane ends run script lane) t t n g)
      → (i : ℕ) → i < length net.gates → Keeps (pairs i) t n
  stretch_keeps t n fits lasts =
      quiet_gates_keep stretch line world keys pairs t n net.gates of_line.laws.gates of_line.named
      are_pairs
      (λ i g at. lasts_quiet (line_lane ends run script lane) t n g (lasts i g at))
      fits

  -- so does every key that is heard
  pub heard_keeps : (t n : ℕ) → t + n ≤ line.horizon
      → ((i : ℕ) → i < length net.gates → Keeps (pairs i) t n)
      → (i : ℕ) (g : Gate) (c : ℕ) → slice_get net.gates i ≡ Some g → Hears c g
      → Keeps (keys (world.from c)) t n
  heard_keeps t n fits keeps i g c at hears r low high =
      let inside : c < channel_count line =
      hears_channel line c g (of_line.named.each i g (omega arith) at) hears in
      are_pairs.keys_are c r inside (omega (arith, high, fits))
      ∙ keeps (are_pairs.key_gate c) (are_pairs.there c inside) r low high
      ∙ sym (are_pairs.keys_are c t inside (omega (arith, low, high, fits)))
