use Rattle.std.proofs.Common.{[], sym, ◌∙◌}
use Rattle.std.proofs.lemmas.List.{drop_all}
use Rattle.toml.specs.View.{table_view}
use Rattle.file_line.specs.PutLaws.{groups_more}
use Rattle.file_line.proofs.table.OwnerTimes.put_groups.Goals as goal

pub loop-group-preserved : goal.loop-group-preserved
loop-group-preserved c =
    let more = groups_more c.args.self.now.unit c.args.self.now.line.now c.args.self.now.owner
    c.args.groups.now c.loop-group.group-index (table_view c.loop-group.table)
    (record { ref_ptr = (0, 0); now = [] }) c.loop-group-test.true in
    sym (rw (← c.in_ok-put_times.ensures) at more) ∙ c.loop-group.invariant

pub returns : goal.returns
returns c =
    let none = drop_all c.loop-group.group-index c.args.groups.now c.loop-group-test.false in
    rw none at c.loop-group.invariant
