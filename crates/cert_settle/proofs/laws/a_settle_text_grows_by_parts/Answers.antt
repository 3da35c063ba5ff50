use Rattle.std.proofs.Common.{refl, sym}
use Rattle.cert_split.specs.text.PairLaws.{pairs_push}
use Rattle.cert_settle.specs.Text.{part_text, parts_text}
use Rattle.cert_settle.proofs.laws.a_settle_text_grows_by_parts.Goals as goal

pub returns : goal.returns
returns c line scripts parts script results long =
    pairs_push (part_text line) (parts_text line) refl (λ x xs y ys. refl) scripts parts script
    results (sym long)
