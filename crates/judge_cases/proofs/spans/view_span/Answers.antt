use Rattle.std.proofs.Common.{◌<◌, ℕ, List, ap, arith}
use Rattle.std.specs.Prelude.{slice_index}
use Rattle.judge_cases.proofs.spans.view_span.Goals as goal

pub new-requires-4 : goal.new-requires-4
new-requires-4 c = λ lane inside.
    let before : lane < c.loop-lane.lane = omega arith in
    let ordered = c.loop-lane.invariant.ordered lane before in
    let low = ap (λ (l : List ℕ). slice_index l lane) c.new-2.ensures in
    let high = ap (λ (l : List ℕ). slice_index l lane) c.new-3.ensures in
    omega arith
