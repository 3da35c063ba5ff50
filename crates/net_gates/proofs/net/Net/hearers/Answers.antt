use Rattle.std.proofs.Common.{◌≡◌, ◌<◌, List, ℕ, Some, length, refl, sym, subst}
use Rattle.std.proofs.lemmas.Option.{slice_get_read}
use Rattle.std.specs.Prelude.{slice_get}
use Rattle.net_gates.specs.NetOf.{NetOf}
use Rattle.net_gates.specs.Listing.{ReadersHold}
use Rattle.net_gates.specs.Readers.{StandsIn}
use Rattle.net_gates.proofs.net.Net.hearers.Goals as goal

pub returns-in-Some-clause-all : goal.returns-in-Some-clause-all
returns-in-Some-clause-all c = λ i gate at hears.
    let gates = c.self.inside.gates.items in
    let lists = c.self.inside.readers.of_channels.items in
    let hold : ReadersHold gates c.self.inside.readers = c.self.invariant.1 in
    let here : slice_get gates i ≡ Some gate =
    subst (λ (n : NetOf). slice_get n.gates i ≡ Some gate) (sym c.self.view_is) at in
    let inside : c.args.channel < length lists = hold.of_channels i c.args.channel gate here hears in
    let same : c.deref.result.now ≡ lists = c.deref.ensures.value in
    let within : c.args.channel < length c.deref.result.now =
    subst (λ l. c.args.channel < length l) (sym same) inside in
    let there : slice_get lists c.args.channel ≡ Some c.in-Some.list.now =
    subst (λ l. slice_get l c.args.channel ≡ Some c.in-Some.list.now) same
    (slice_get_read c.deref.result.now (length c.deref.result.now) c.args.channel
    c.in-Some.list.now refl within c.in-Some.ensures.lookup.1) in
    subst (λ (list : List ℕ). StandsIn i list) (sym c.deref-in-Some.ensures.value)
    ((hold.listed i gate here).heard c.args.channel c.in-Some.list.now hears there)
