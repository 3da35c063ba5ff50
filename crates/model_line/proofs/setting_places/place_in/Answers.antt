use Rattle.std.proofs.Common.{Bor, List, [], arith}
use Rattle.model_line.specs.{declared.line.Setting.Setting, Settings.same_setting}
use Rattle.model_line.proofs.Groups.{found_here, within_here, found_behind, count_next}
use Rattle.model_line.proofs.setting_places.place_in.Goals as goal

abbrev settings : Bor (List Setting) → List Setting
settings group = group.now

abbrev none : Bor (List Setting)
none = record { ref_ptr = (0, 0); now = [] }

pub overflow_add-result : goal.overflow_add-result
overflow_add-result c =
    let within = within_here (same_setting c.args.setting) settings c.args.groups.now
    c.loop-group.group-index c.loop-group.before none c.loop-group-test.true
    c.loop-group.invariant.0 c.in-Some.i c.in-Some.ensures in
    record { fits = omega (arith, c.requires, within) }

pub returns-in-Some-clause-place : goal.returns-in-Some-clause-place
returns-in-Some-clause-place c =
    found_here (same_setting c.args.setting) settings c.args.groups.now c.loop-group.group-index
    c.loop-group.before none c.loop-group-test.true c.loop-group.invariant.0 c.in-Some.i
    c.in-Some.ensures

pub returns-in-Some-clause-bound : goal.returns-in-Some-clause-bound
returns-in-Some-clause-bound c =
    let within = within_here (same_setting c.args.setting) settings c.args.groups.now
    c.loop-group.group-index c.loop-group.before none c.loop-group-test.true
    c.loop-group.invariant.0 c.in-Some.i c.in-Some.ensures in
    omega (arith, c.requires, within)

pub loop-group-preserved : goal.loop-group-preserved
loop-group-preserved c = (
  found_behind (same_setting c.args.setting) settings c.args.groups.now c.loop-group.group-index
      c.loop-group.before none c.loop-group-test.true c.loop-group.invariant.0 c.in-None.ensures,
  count_next settings c.args.groups.now c.loop-group.group-index c.loop-group.before _ none
      c.loop-group-test.true c.loop-group.invariant.1,
)
