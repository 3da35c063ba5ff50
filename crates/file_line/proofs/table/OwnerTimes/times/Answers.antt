use Rattle.std.proofs.Common.{sym, ◌∙◌}
use Rattle.std.proofs.lemmas.List.{drop_all}
use Rattle.toml.specs.View.{table_view}
use Rattle.toml.proofs.Views.{view-Table}
use Rattle.model_line.specs.declared.line.Setting.TheVariants.{Z1Pickup}
use Rattle.file_line.specs.Canonical.{times_data}
use Rattle.file_line.specs.PutLaws.{settings_more}
use Rattle.file_line.proofs.table.OwnerTimes.times.Goals as goal

pub loop-setting-init : goal.loop-setting-init
loop-setting-init c = rw c.new-table.ensures.empty

pub loop-setting-preserved : goal.loop-setting-preserved
loop-setting-preserved c =
    let more = settings_more c.args.self.now.unit c.args.self.now.line.now c.args.self.now.owner
    c.args.settings.now c.loop-setting.setting-index (table_view c.loop-setting.table) Z1Pickup
    c.loop-setting-test.true in
    let here = rw (← c.in_ok-time.ensures, ← c.key.ensures.key, ← c.in_ok-put.ensures) at more in
    sym here ∙ c.loop-setting.invariant

pub returns : goal.returns
unfolding times_data
returns c =
    let none = drop_all c.loop-setting.setting-index c.args.settings.now c.loop-setting-test.false in
    rw (view-Table, rw none at c.loop-setting.invariant)
