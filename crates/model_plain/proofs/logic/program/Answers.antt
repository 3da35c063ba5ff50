use Rattle.std.proofs.Common.{◌+◌, subst}
use Rattle.std.specs.Prelude.{IfOk}
use Rattle.model_logic.specs.Logic.{key_by, pilot_by}
use Rattle.model_plain.specs.Parts.{AreProgramParts, StandsOver, trip_over}
use Rattle.model_plain.proofs.ProgramLaws.{program_is, trip_stands}
use Rattle.model_plain.proofs.logic.program.Goals as goal

pub returns : goal.returns
returns c trees l m n bound parts key pilot =
    let line = c.args.line.now in
    let k = c.args.k in
    let trips = pilot_by line.scheme line k in
    program_is line k _ trees l m n c.trees_name_the_line.ensures c.requires bound
    (subst (λ r. IfOk r (λ ps. AreProgramParts line trees l ps.items)) c.in_ok-parts.was parts)
    (subst (λ r. IfOk r (StandsOver trees (key_by line.scheme line k) m)) c.in_ok-key.was key)
    (subst (λ r. IfOk r (StandsOver trees (trip_over line k trips) (n + 7))) c.in_ok-trip.was
    (trip_stands line k c.args.pilot c.trip-trip.result c.trip-trip.ensures trees trips n pilot))
