use Rattle.std.proofs.Common.{◌≡◌, ◌-◌, ◌<◌, Some, length, get_or, arith}
use Rattle.std.proofs.lemmas.Option.{slice_get-get_or, slice_get_within}
use Rattle.std.specs.Prelude.{slice_get}
use Rattle.run_signal.proofs.track.last_change.Goals as goal

pub returns-then-count-eq0 : goal.returns-then-count-eq0
returns-then-count-eq0 c = λ i x at.
    let inside : i < length c.args.changes.now = slice_get_within c.args.changes.now i x at in
    absurd (omega (arith, c.if-count-eq0.true))

pub returns : goal.returns
returns c = λ i x at.
    let changes = c.args.changes.now in
    let n = length changes - 1 in
    let inside : i < length changes = slice_get_within changes i x at in
    let last : slice_get changes n ≡ Some (get_or changes n 0) =
    slice_get-get_or changes n 0 (omega arith) in
    c.requires i n x (get_or changes n 0) (omega arith) at last
