use Rattle.std.proofs.Common.{◌≡◌, ◌++◌, ap, arith, length, length-append}
use Rattle.cert_claims.specs.text.Grammar.{end_text, head_text}
use Rattle.cert_claims.specs.text.Text.{fed, parts_text}
use Rattle.cert_own.proofs.SizeLaws.{parts_short}
use Rattle.cert_own.proofs.laws.a_certificate_is_short.Goals as goal

pub returns : goal.returns
returns c line scripts claims few many fit can =
    let parts = parts_text line scripts claims in
    let whole = c.a_certificate_is_its_parts.ensures.parts line scripts claims many
    (λ i d lt. (can i d lt).each) in
    omega (
      arith,
      few,
      parts_short line (c.parameters_are_numbered.ensures.few line) scripts claims fit can,
      ap length whole,
      ap length c.a_certificate_is_its_parts.ensures.head,
      ap length c.a_certificate_is_its_parts.ensures.end,
      length-append (fed head_text) (parts ++ fed end_text),
      length-append parts (fed end_text),
    )
