use Rattle.std.proofs.Common.{◌≡◌, ◌+◌, ◌<◌, ◌++◌, ◌∷◌, [], suc, sym, subst, arith}
use Rattle.model_line.specs.Parameters.{channel_count, terminal_count}
use Rattle.net_gates.specs.NetOf.{NetOf, IsNet, IsNetOf}
use Rattle.net_gates.specs.NetLaws.{hear_channels}
use Rattle.net_compile.proofs.Ends.{HaveEnds, have_more, net_of_line, both_ok}
use Rattle.net_compile.proofs.whole_line.compile.Goals as goal

pub loop-terminal-preserved : goal.loop-terminal-preserved
loop-terminal-preserved c =
    let next : suc c.loop-terminal.terminal ≡ c.loop-terminal.terminal + 1 = omega arith in
    let more : HaveEnds c.args.line.now c.terminal_gates.new.net
    (c.loop-terminal.keys.items ++ c.in_ok-ends.ends.key ∷ [])
    (c.loop-terminal.trips.items ++ c.in_ok-ends.ends.trip ∷ []) (suc c.loop-terminal.terminal) =
    have_more c.args.line.now c.loop-terminal.net c.terminal_gates.new.net
    c.loop-terminal.keys.items c.loop-terminal.trips.items c.in_ok-ends.ends
    c.loop-terminal.terminal c.loop-terminal.invariant c.in_ok-ends.ensures.adds
    c.in_ok-ends.ensures.made in
    rw (c.in_ok-push.ensures.items, c.in_ok-push-2.ensures.items, ← next) more

pub finish-requires-clause-heard : goal.finish-requires-clause-heard
finish-requires-clause-heard c = λ i k gate at hears.
    let below : k < channel_count c.args.line.now =
    hear_channels c.args.line.now c.loop-terminal.net c.loop-terminal.invariant.named i k gate at
    hears in
    omega (arith, below)

pub returns : goal.returns
returns c =
    let all : c.loop-terminal.terminal ≡ terminal_count c.args.line.now = omega arith in
    both_ok
    (λ (net : NetOf). net ≡ record {
      gates = c.loop-terminal.net;
      keys = c.loop-terminal.keys.items;
      trips = c.loop-terminal.trips.items;
    })
    IsNet (IsNetOf c.args.line.now) c.finish.result
    (λ net same laws.
    net_of_line c.args.line.now net c.loop-terminal.terminal all
    (subst
    (λ (n : NetOf). HaveEnds c.args.line.now n.gates n.keys n.trips c.loop-terminal.terminal)
    (sym same) c.loop-terminal.invariant)
    laws)
    c.finish.ensures.net c.finish.ensures.laws
