use Rattle.std.proofs.Common.{sym, ◌∙◌}
use Rattle.std.proofs.lemmas.Result.{err_from_is_err_and}
use Rattle.std.proofs.lemmas.List.{drop_all}
use Rattle.toml.specs.View.{table_view}
use Rattle.model_line.specs.declared.line.Setting.TheVariants.{Z1Pickup}
use Rattle.file_line.specs.Places.{in_table}
use Rattle.file_line.specs.Times.{times_at}
use Rattle.file_line.proofs.{TimesSteps.times_more}
use Rattle.file_line.proofs.times.TableTimes.times.Goals as goal

pub returns-in_err-interval : goal.returns-in_err-interval
returns-in_err-interval c =
    let p = err_from_is_err_and c.from_residual.result c.from_residual.ensures.1 in
    let more = times_more (in_table c.args.path) c.args.settings.now c.loop-setting.setting-index
    c.args.self.now.unit (table_view c.args.self.now.table.now) c.loop-setting.intervals.items Z1Pickup
    c.loop-setting-test.true in
    let said =
    rw (c.key-stands.ensures, c.as_bytes.ensures.value, c.key-key.ensures.key)
    at c.in_err-interval.ensures in
    let fault = rw (← said) at more in
    rw (p.1, p.2) (sym c.loop-setting.invariant ∙ fault)

pub loop-setting-preserved : goal.loop-setting-preserved
loop-setting-preserved c =
    let more = times_more (in_table c.args.path) c.args.settings.now c.loop-setting.setting-index
    c.args.self.now.unit (table_view c.args.self.now.table.now) c.loop-setting.intervals.items Z1Pickup
    c.loop-setting-test.true in
    let said =
    rw (c.key-stands.ensures, c.as_bytes.ensures.value, c.key-key.ensures.key)
    at c.in_ok-interval.ensures in
    let next = rw (← said) at more in
    rw c.in_ok-push.ensures.items (sym next ∙ c.loop-setting.invariant)

pub returns : goal.returns
unfolding times_at
returns c =
    let none = drop_all c.loop-setting.setting-index c.args.settings.now c.loop-setting-test.false in
    sym (rw none at c.loop-setting.invariant)
