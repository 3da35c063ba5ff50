use Rattle.std.proofs.Common.{◌≡◌, List, Some, true, sym, ap, ◌∙◌, subst}
use Rattle.std.specs.Prelude.{slice_get}
use Rattle.net_gates.specs.{declared.gate.Gate.Gate, Gates.AreGates}
use Rattle.net_compile.specs.Growing.{Grows, Adds}
use Rattle.net_compile.proofs.Adding.{Inserts, gates_more, grows_more, names_more, few_more, adds}
use Rattle.net_compile.proofs.{Equal.gate_eq, Equal.gate_eq-same, Standing.stands}
use Rattle.net_compile.proofs.builder.NetBuilder.add.Goals as goal

-- what the set's insertion says, over the gates as the caller sees them
inserts : (c : goal.In_ok-at) → Inserts c.args.self.now c.insert_full.new.self.keys c.args.gate
inserts c =
    subst (λ l. Inserts l c.insert_full.new.self.keys c.args.gate) c.self.view_is
    c.in_ok-at.ensures.keys

gates : (c : goal.In_ok-at) → AreGates c.insert_full.new.self.keys
gates c =
    gates_more c.args.self.now c.insert_full.new.self.keys c.args.gate (inserts c)
    (subst AreGates c.self.view_is c.self.invariant) c.requires.room c.requires.arguments

pub invariant_of-self-2 : goal.invariant_of-self-2
invariant_of-self-2 c = gates c

pub returns : goal.returns
returns c =
    let old : List Gate = c.args.self.now in
    let new : List Gate = c.insert_full.new.self.keys in
    let s : (k : Gate) × (slice_get new c.in_ok-at.at ≡ Some k)
    × (gate_eq c.args.gate k ≡ true) = c.in_ok-at.ensures.stored in
    let at : slice_get new c.in_ok-at.at ≡ Some c.args.gate =
    s.1 ∙ ap Some (sym (gate_eq-same c.args.gate s.0 s.2)) in
    let there : Adds old new c.args.gate c.in_ok-at.at =
    adds old new c.args.gate (inserts c)
    (subst AreGates c.self.view_is c.self.invariant) c.requires.room c.requires.arguments
    c.in_ok-at.at at in
    let grows : Grows old new = grows_more old new c.args.gate (inserts c) in
    record {
      ok = there;
      made = stands old new c.args.gate c.in_ok-at.at (gates c) c.requires.arguments grows there;
      grows = grows;
      named = names_more old new c.args.gate (inserts c);
      few = few_more old new c.args.gate (inserts c);
      err = tt;
    }
