use Rattle.judge_times.specs.Answers.{exact_of}
use Rattle.call_times.proofs.Telling.{adds_nothing, adds_terminal}
use Rattle.call_times.proofs.terminals.push_terminals.Goals as goal

pub loop-k-init : goal.loop-k-init
loop-k-init c = adds_nothing c.args.text.now.items c.nothing-found.result c.nothing-found.ensures

pub loop-k-preserved : goal.loop-k-preserved
loop-k-preserved c =
    adds_terminal (exact_of c.args.of.now) c.args.fault.now c.loop-k.k
    c.args.text.now.items c.loop-k.text.items c.push_terminal.new.text.items c.loop-k.found
    c.in_ok-here.here c.both-found.result c.loop-k.invariant c.in_ok-here.ensures c.both-found.ensures
