use Rattle.std.proofs.Common.{[], ◌∷◌}
use Rattle.std.proofs.lemmas.List.Elements.{All-cons, All-nil}
use Rattle.model_line.specs.Fits.{Fits}
use Rattle.cert_claims.specs.text.Grammar.{end_text, head_text}
use Rattle.cert_claims.specs.text.Text.{fed}
use Rattle.call_pilot.proofs.commands_lemmas.Parts.{in_pieces, only_one}
use Rattle.call_pilot.proofs.commands.laws.a_certificate_is_made_of_parts.Goals as goal

pub returns : goal.returns
returns c = record {
  script = λ line script fits.
      let all = c.each_script_has_one_certificate.ensures.exists line (script ∷ [])
      (All-cons (Fits line) script [] fits (All-nil (Fits line))) in
      only_one line script all.0 all.1;
  scripts = c.each_script_has_one_certificate.ensures.exists;
  text = λ line scripts claims certified.
      in_pieces line
      (λ script said is.
      (c.what_is_certified_is_accepted.ensures.written line script said is).each)
      (fed head_text) (fed end_text)
      (c.a_certificate_is_its_parts.ensures.parts line) scripts claims certified;
}
