use Rattle.std.proofs.Common.{length, refl}
use Rattle.std.proofs.Math.Nat.{le_of_lt}
use Rattle.std.proofs.lemmas.Option.{slice_get_read}
use Rattle.run_ticks.proofs.cases.answer.argument.Goals as goal

pub offset_bounds-earlier-id : goal.offset_bounds-earlier-id
offset_bounds-earlier-id g c = le_of_lt c.requires

pub returns : goal.returns
returns g c =
    slice_get_read c.args.earlier.now (length c.args.earlier.now) c.args.id.0
    c.index-earlier-id.result refl c.requires c.index-earlier-id.is
