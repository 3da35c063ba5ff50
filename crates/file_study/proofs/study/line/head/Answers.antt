use Rattle.std.proofs.Common.{refl}
use Rattle.toml.specs.Data.{no_members}
use Rattle.toml.proofs.Views.{view-Boolean}
use Rattle.file_study.proofs.study.line.head.Goals as goal

pub returns : goal.returns
returns c =
    let version = c.with_number-table.ensures no_members (rw c.new.ensures.empty refl) in
    let tick = c.with_number-table-2.ensures _ version in
    let horizon = c.with_number-table-3.ensures _ tick in
    let all = c.with.ensures _ (c.with_text-table.ensures _ horizon) in
    rw (view-Boolean c.args.zone1_trip) at all
