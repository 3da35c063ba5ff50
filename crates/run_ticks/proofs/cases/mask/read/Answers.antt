use Rattle.std.proofs.Common.{length, refl}
use Rattle.std.proofs.Math.Nat.{le_of_lt}
use Rattle.std.proofs.lemmas.Option.{slice_get_read}
use Rattle.run_ticks.proofs.cases.mask.read.Goals as goal

pub offset_bounds-list-place : goal.offset_bounds-list-place
offset_bounds-list-place g c = le_of_lt c.requires

pub returns : goal.returns
returns g c =
    slice_get_read c.args.list.now (length c.args.list.now) c.args.place c.index-list-place.result
    refl c.requires c.index-list-place.is
