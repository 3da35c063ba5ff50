use Rattle.std.proofs.Common.{◌≡◌, ◌++◌, ◌∙◌, ap, map, Vec}
use Rattle.std.proofs.lemmas.Result.{IfOk-weaker}
use Rattle.std.specs.Prelude.{option_to_list}
use Rattle.std.specs.declared.alloc.Global.{Global}
use Rattle.base_records.specs.SoFar.{all_of, so_far_of}
use Rattle.base_records.specs.SoFarLaws.{all_seen}
use Rattle.judge_match.specs.{declared.matching.heads.Head.Head, matching.Heads.values_of}
use Rattle.judge_match.proofs.matching.read.finished.Goals as goal

pub returns : goal.returns
returns c =
    let reading = c.args.reading in
    IfOk-weaker c.finished.result
    (λ (heads : Vec Head Global).
    heads.items ≡ reading.done.items ++ option_to_list reading.latest)
    (λ (heads : Vec Head Global).
    map values_of heads.items ≡ all_of (so_far_of values_of reading))
    (λ heads is. ap (map values_of) is ∙ all_seen values_of reading) c.finished.ensures
