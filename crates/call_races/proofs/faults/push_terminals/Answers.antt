use Rattle.call_races.proofs.Telling.{adds_nothing, adds_terminal}
use Rattle.call_races.proofs.faults.push_terminals.Goals as goal

pub loop-k-init : goal.loop-k-init
loop-k-init c = adds_nothing c.args.text.now.items

pub loop-k-preserved : goal.loop-k-preserved
loop-k-preserved c =
    let line = c.args.fault.now.compiled.line.now in
    let group = c.args.fault.now.group.now in
    let scripts = c.args.fault.now.scripts.now in
    adds_terminal line group scripts c.loop-k.k
    c.args.text.now.items c.loop-k.text.items c.push_terminal.new.text.items c.loop-k.trips
    c.in_ok-here.here c.either-trips.result c.loop-k.invariant c.in_ok-here.ensures c.either-trips.ensures
