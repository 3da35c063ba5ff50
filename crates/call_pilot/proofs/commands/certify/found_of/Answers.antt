use Rattle.std.proofs.Common.{◌∙◌}
use Rattle.cert_own.specs.Piece.{written_as}
use Rattle.cert_claims.specs.check.Counts.{is_no, is_undecided}
use Rattle.call_pilot.proofs.commands_lemmas.Verdicts.{any_map}
use Rattle.call_pilot.proofs.commands.certify.found_of.Goals as goal

pub returns : goal.returns
returns c = record {
  no = c.some_no.ensures ∙ any_map is_no written_as c.args.verdicts.now;
  undecided = c.some_undecided.ensures ∙ any_map is_undecided written_as c.args.verdicts.now;
}
