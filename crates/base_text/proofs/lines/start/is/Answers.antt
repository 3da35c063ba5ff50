use Rattle.std.proofs.lemmas.Slice.Eq.{slice_eq-Decides}
use Rattle.std.proofs.lemmas.Bool.Decides.{Decides-eqb}
use Rattle.base_text.proofs.lines.start.is.Goals as goal

pub returns : goal.returns
returns c =
    slice_eq-Decides Decides-eqb c.args.bytes.now c.args.text.now c.eq.result c.eq.ensures
