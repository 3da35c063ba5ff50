use Rattle.std.proofs.Common.{◌≡◌, ◌<◌, Some, length, refl, sym, subst}
use Rattle.std.proofs.lemmas.Option.{slice_get_read}
use Rattle.std.specs.Prelude.{slice_get}
use Rattle.net_gates.specs.NetOf.{NetOf, IsNet}
use Rattle.net_gates.specs.FormulaLaws.{formula_of-gate}
use Rattle.net_gates.proofs.net.Net.gate.Goals as goal

pub returns-clause-stands : goal.returns-clause-stands
returns-clause-stands c =
    let net : IsNet c.args.self.now = subst IsNet c.self.view_is c.self.invariant.0 in
    let within : c.args.id.0 < length c.self.inside.gates.items =
    subst (λ (n : NetOf). c.args.id.0 < length n.gates) (sym c.self.view_is) c.requires in
    let at : slice_get c.args.self.now.gates c.args.id.0 ≡ Some c.index.result.now =
    subst (λ (n : NetOf). slice_get n.gates c.args.id.0 ≡ Some c.index.result.now)
    c.self.view_is
    (slice_get_read c.self.inside.gates.items (length c.self.inside.gates.items) c.args.id.0
    c.index.result.now refl within c.index.ensures) in
    formula_of-gate c.args.self.now.gates c.args.id.0 c.index.result.now net.gates at
