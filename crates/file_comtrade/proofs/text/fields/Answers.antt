use Rattle.std.proofs.Common.{refl, rules, tests}
use Rattle.std.proofs.lemmas.Iterator.{YieldsList-from_map_by}
use Rattle.std.proofs.lemmas.Iterator.Consumers.{map_from_collect}
use Rattle.std.proofs.lemmas.Iterator.Splits.{YieldsList-from_slice_split}
use Rattle.std.specs.Prelude.{◌==◌}
use Rattle.file_comtrade.specs.Text.{trimmed}
use Rattle.file_comtrade.proofs.text.fields.Goals as goal

pub returns : goal.returns
returns c =
    map_from_collect _ c.collect.ensures.ran
    (YieldsList-from_map_by _ (λ r. r.now) trimmed
    (YieldsList-from_slice_split _ (λ byte. byte == 44) c.args.line.now
    (rw c.map.ensures.source c.split.ensures.rest)
    (rw c.map.ensures.source c.split.ensures.done)
    refl (λ x r q k. search (rules, tests)))
    c.map.ensures.closure (λ x r q k. search rules))
