use Rattle.std.proofs.Common.{map}
use Rattle.std.proofs.lemmas.List.{take_all}
use Rattle.call_work.specs.load.Chosen.{name_of_terminal}
use Rattle.call_work.proofs.load_lemmas.NearestLaws.{near_on, nearest_found}
use Rattle.call_work.proofs.load.nearest.nearest_terminal.Goals as goal

pub loop-i-preserved : goal.loop-i-preserved
loop-i-preserved c =
    rw c.in_ok-nearer.ensures
    (near_on name_of_terminal c.args.asked.now c.as_slice-terminals.result.now c.loop-i.i
    c.index-terminals-i.result c.loop-i.near c.loop-i-test.true c.loop-i.invariant)

pub returns : goal.returns
returns c =
    let all = take_all c.loop-i.i c.as_slice-terminals.result.now c.loop-i-test.false in
    rw c.name_in.ensures
    (nearest_found c.args.asked.now (map name_of_terminal c.args.line.now.terminals.items) c.loop-i.near
    (rw (all, c.as_slice-terminals.ensures.value) at c.loop-i.invariant))
