use Rattle.toml.proofs.Views.{view-Array}
use Rattle.file_line.proofs.table.OwnerTimes.time.Goals as goal

pub returns : goal.returns
returns c =
    rw (
      view-Array,
      c.in_ok-from_array.ensures.items,
      c.in_units-least.ensures,
      c.in_units-greatest.ensures,
      c.interval-interval.ensures,
      c.unwrap_or-place.ensures,
      c.param_of.ensures,
    )
