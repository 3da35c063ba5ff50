use Rattle.std.proofs.Common.{map, ◌∙◌}
use Rattle.cert_claims.specs.check.Counts.{is_no, is_undecided}
use Rattle.cert_split.specs.text.Piece.{written_as}
use Rattle.cert_split.specs.check.Counts.{verdict_of}
use Rattle.call_pilot.specs.commands.Split.{comes_to_no, is_left_open}
use Rattle.call_pilot.proofs.commands_lemmas.Verdicts.{any_map}
use Rattle.call_pilot.proofs.commands.split.found_of.Goals as goal

pub returns : goal.returns
unfolding comes_to_no is_left_open
returns c =
    let outcomes = c.args.outcomes.now in
    record {
      no = c.some_no.ensures
          ∙ any_map (λ outcome. is_no (verdict_of outcome)) written_as outcomes
          ∙ any_map is_no verdict_of (map written_as outcomes);
      undecided = c.some_undecided.ensures
          ∙ any_map (λ outcome. is_undecided (verdict_of outcome)) written_as outcomes
          ∙ any_map is_undecided verdict_of (map written_as outcomes);
    }
