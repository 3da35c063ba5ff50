use Rattle.std.proofs.Common.{refl}
use Rattle.call_work.proofs.map.said.map_of.Goals as goal

pub returns-clause-said : goal.returns-clause-said
returns-clause-said c =
    let (both, asked, are) = c.in_ok-axes.ensures.are in (
      both,
      asked,
      rw c.good.ensures (
        refl,
        record { axes = c.in_ok-axes.axes; of = are; told = c.in_ok-text.ensures },
      ),
    )
