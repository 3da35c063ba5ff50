use Rattle.std.proofs.Common.{ap, ◌∙◌, Err}
use Rattle.call_work.specs.map.Asked.{Both}
use Rattle.call_work.proofs.map_lemmas.Denied.{denial_in}
use Rattle.call_work.proofs.map.axes.axes_of.Goals as goal

pub returns-in-Some-clause-denied : goal.returns-in-Some-clause-denied
returns-in-Some-clause-denied c why same =
    let (across, x_said, x_is) = c.in_ok-x.ensures.is in
    let (up, y_said, y_is) = c.in_ok-y.ensures.is in
    let both : Both = record { x = across; y = up } in
    rw (x_said, y_said)
    (c.in-Some.ensures.told both (record { x = x_is; y = y_is })
    ∙ ap Err (ap (denial_in c.in-Some.why) same))

pub returns-in-None-clause-are : goal.returns-in-None-clause-are
returns-in-None-clause-are c =
    let (across, x_said, x_is) = c.in_ok-x.ensures.is in
    let (up, y_said, y_is) = c.in_ok-y.ensures.is in
    let both : Both = record { x = across; y = up } in (
      both,
      rw (x_said, y_said) (c.in-None.ensures.told both (record { x = x_is; y = y_is })),
      record { x = x_is; y = y_is },
    )
