use Rattle.std.proofs.Common.{◌≡◌, ◌+◌, ◌++◌, ◌∙◌, ℕ, suc, List, Option, drop, ap, arith}
use Rattle.file_tables.specs.timing.Table.{listed}
use Rattle.file_tables.proofs.timing_lemmas.TableLaws.{none_left}
use Rattle.file_tables.proofs.timing.steps.list_all.Goals as goal

pub loop-place-preserved : goal.loop-place-preserved
loop-place-preserved c =
    let t : List (Option ℕ) = c.args.table.now in
    let next : c.loop-place.place + 1 ≡ suc c.loop-place.place = omega arith in
    ap (λ (n : ℕ). c.push_at.new.steps.items ++ listed n (drop n t)) next
    ∙ c.in_ok-push_at.ensures ∙ c.loop-place.invariant

pub returns : goal.returns
returns c =
    none_left c.loop-place.steps.items c.loop-place.place c.args.table.now (omega arith)
    ∙ c.loop-place.invariant
