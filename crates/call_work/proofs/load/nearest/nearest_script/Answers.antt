use Rattle.std.proofs.Common.{map}
use Rattle.std.proofs.lemmas.List.{take_all}
use Rattle.call_work.specs.load.Chosen.{name_of_script}
use Rattle.call_work.proofs.load_lemmas.NearestLaws.{near_on, nearest_found}
use Rattle.call_work.proofs.load.nearest.nearest_script.Goals as goal

pub loop-i-preserved : goal.loop-i-preserved
loop-i-preserved c =
    rw c.in_ok-nearer.ensures
    (near_on name_of_script c.args.asked.now c.args.scripts.now c.loop-i.i c.index-scripts-i.result c.loop-i.near
    c.loop-i-test.true c.loop-i.invariant)

pub returns : goal.returns
returns c =
    rw c.name_in.ensures
    (nearest_found c.args.asked.now (map name_of_script c.args.scripts.now) c.loop-i.near
    (rw (take_all c.loop-i.i c.args.scripts.now c.loop-i-test.false) at c.loop-i.invariant))
