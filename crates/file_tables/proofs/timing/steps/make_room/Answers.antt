use Rattle.std.proofs.Common.{◌≡◌, ◌+◌, ◌-◌, ◌*◌, ◌++◌, ◌∙◌, ℕ, List, Option, None, replicate, take}
use Rattle.std.proofs.Common.{vec_len, ap, arith}
use Rattle.file_tables.specs.timing.Table.{listed}
use Rattle.file_tables.proofs.timing_lemmas.TableLaws.{same_listed, take_all}
use Rattle.file_tables.proofs.timing.steps.make_room.Goals as goal

pub returns-in_ok-resize-clause-same : goal.returns-in_ok-resize-clause-same
returns-in_ok-resize-clause-same c =
    let old : List (Option ℕ) = c.args.table.now.items in
    let room : ℕ = (c.args.param + 1) * 4096 in
    let all : take room old ≡ old = take_all old room (omega (arith, c.if-len-room.true)) in
    ap (listed 0) c.in_ok-resize.ensures.items
    ∙ ap (λ (l : List (Option ℕ)). listed 0 (l ++ replicate (room - vec_len c.args.table.now) None)) all
    ∙ same_listed (room - vec_len c.args.table.now) 0 old
