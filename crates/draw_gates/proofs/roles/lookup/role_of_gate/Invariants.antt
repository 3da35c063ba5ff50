use Rattle.std.proofs.Common.{◌≡◌, drop}
use Rattle.draw_gates.specs.roles.Lookup.{role_by}
use Rattle.draw_gates.proofs.roles.lookup.role_of_gate.Given as goal

abbrev pub invariant-loop-part : goal.invariant-loop-part
invariant-loop-part l =
    role_by l.net.gates l.id.0 (drop l.part-index l.parts) ≡ role_by l.net.gates l.id.0 l.parts
