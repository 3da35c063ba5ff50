use Rattle.std.proofs.Common.{◌++◌, ap, ◌∙◌}
use Rattle.cert_own.specs.Piece.{claims_of}
use Rattle.call_pilot.proofs.commands.run_bench.push_certified.Goals as goal

pub returns-clause-text : goal.returns-clause-text
returns-clause-text g c =
    let said = c.in_ok-said.said in
    record {
      claims = claims_of said.keys.items said.verdicts.items;
      certified = c.answers_are_certified.ensures c.args.compiled.now.line.now c.args.script.now
          said.keys.items said.verdicts.items c.in_ok-said.ensures.certified.keys
          c.in_ok-said.ensures.certified.verdicts;
      text_is = c.in_ok-extend_from_slice.ensures.items
          ∙ ap (λ z. c.args.text.now.items ++ z) (c.as_slice.ensures.value ∙ c.in_ok-piece.ensures);
    }
