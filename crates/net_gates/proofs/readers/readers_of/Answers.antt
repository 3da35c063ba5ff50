use Rattle.std.proofs.Common.{ℕ, ◌<◌, length, arith, subst, sym}
use Rattle.std.proofs.lemmas.Option.{slice_get-get_or, slice_get_within}
use Rattle.net_gates.specs.{Listing.ListGates, Readers.HearBelow}
use Rattle.net_gates.proofs.Listing.{listed_from_none, listed_more}
use Rattle.net_gates.proofs.readers.readers_of.Goals as goal

pub loop-i-init : goal.loop-i-init
loop-i-init c =
    let lists = c.in_ok-no_lists.ensures in
    let heard = c.in_ok-no_lists-2.ensures in
    listed_from_none c.args.gates.now _ lists.count
    (subst (λ (n : ℕ). HearBelow n c.args.gates.now) (sym heard.count) c.requires.heard)
    lists.empty heard.empty

pub list_gate-requires-clause-arguments : goal.list_gate-requires-clause-arguments
list_gate-requires-clause-arguments c =
    c.requires.laws.earlier c.loop-i.i _
    (slice_get-get_or c.args.gates.now c.loop-i.i _ c.loop-i-test.true)

pub list_gate-requires-clause-channel : goal.list_gate-requires-clause-channel
list_gate-requires-clause-channel c = λ channel hears.
    c.loop-i.invariant.of_channels c.loop-i.i channel _
    (slice_get-get_or c.args.gates.now c.loop-i.i _ c.loop-i-test.true) hears

pub list_gate-requires-clause-inside : goal.list_gate-requires-clause-inside
list_gate-requires-clause-inside c =
    subst (λ (n : ℕ). c.loop-i.i < n) (sym c.loop-i.invariant.of_gates.count) c.loop-i-test.true

pub list_gate-requires-clause-lists : goal.list_gate-requires-clause-lists
list_gate-requires-clause-lists c =
    subst (λ (n : ℕ). ListGates n c.loop-i.readers) (sym c.loop-i.invariant.of_gates.count)
    c.loop-i.invariant.of_gates

pub loop-i-preserved : goal.loop-i-preserved
loop-i-preserved c =
    let old = c.loop-i.readers in
    let new = c.list_gate.new.readers in
    let gates = c.args.gates.now in
    listed_more gates c.loop-i.i _ old new (slice_get-get_or gates c.loop-i.i _ c.loop-i-test.true)
    (subst (λ (n : ℕ). ListGates n new) c.loop-i.invariant.of_gates.count
    c.in_ok-list_gate.ensures.lists)
    c.in_ok-list_gate.ensures.grow c.in_ok-list_gate.ensures.listed c.loop-i.invariant

pub returns : goal.returns
returns c = record {
  of_gates = c.loop-i.invariant.of_gates;
  of_channels = c.loop-i.invariant.of_channels;
  listed = λ i gate at.
      let within : i < length c.args.gates.now = slice_get_within c.args.gates.now i gate at in
      c.loop-i.invariant.listed i gate (omega (arith, within, c.loop-i-test.false)) at;
}
