use Rattle.std.proofs.Common.{inl, inr, refl}
use Rattle.call_inspect.proofs.ground.swept_ground.Goals as goal

pub returns-in-Ok : goal.returns-in-Ok
returns-in-Ok c = inr (record {
  study = c.args.study;
  groups = c.in-Ok.all.groups.items;
  all = c.in-Ok.all.scripts.items;
  read = c.requires;
  line_is = refl;
  come = c.in-Ok.ensures.are;
  scripts_are = refl;
})

pub returns : goal.returns
returns c = inl (
  inr (
    c.args.study,
    c.in-Err-Fault.field-0-0,
    c.requires,
    rw c.in-Err-Fault.field-0-is at c.in-Err-Fault.ensures.refused,
  ),
  refl,
)
