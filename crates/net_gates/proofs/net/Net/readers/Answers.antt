use Rattle.std.proofs.Common.{◌≡◌, ◌<◌, List, ℕ, Some, length, arith, refl, sym, subst}
use Rattle.std.proofs.lemmas.Option.{slice_get_read}
use Rattle.std.specs.Prelude.{slice_get}
use Rattle.net_gates.specs.NetOf.{NetOf}
use Rattle.net_gates.specs.Listing.{ReadersHold}
use Rattle.net_gates.specs.Readers.{StandsIn}
use Rattle.net_gates.proofs.net.Net.readers.Goals as goal

pub returns-clause-all : goal.returns-clause-all
returns-clause-all c = λ i gate at has.
    let gates = c.self.inside.gates.items in
    let lists = c.self.inside.readers.of_gates.items in
    let hold : ReadersHold gates c.self.inside.readers = c.self.invariant.1 in
    let within : c.args.id.0 < length gates =
    subst (λ (n : NetOf). c.args.id.0 < length n.gates) (sym c.self.view_is) c.requires in
    let inside : c.args.id.0 < length lists = omega (arith, hold.of_gates.count, within) in
    let there : slice_get lists c.args.id.0 ≡ Some c.index.result.now =
    slice_get_read lists (length lists) c.args.id.0 c.index.result.now refl inside
    c.index.ensures in
    let here : slice_get gates i ≡ Some gate =
    subst (λ (n : NetOf). slice_get n.gates i ≡ Some gate) (sym c.self.view_is) at in
    subst (λ (list : List ℕ). StandsIn i list) (sym c.deref.ensures.value)
    ((hold.listed i gate here).read c.args.id.0 c.index.result.now has there)
