use Rattle.std.proofs.Common.{◌≡◌, ◌+◌, ℕ, suc, List, map, ap, arith, ◌∙◌}
use Rattle.file_comtrade.specs.Data.{SampleValues}
use Rattle.file_comtrade.specs.SampleViews.{sample_values}
use Rattle.file_records.specs.tracks.Sampled.{changes_from}
use Rattle.file_records.proofs.tracks.samples.changes_from.Goals as goal

pub loop-n-preserved : goal.loop-n-preserved
loop-n-preserved c =
    let samples : List SampleValues = map sample_values c.args.samples.now in
    let from : ℕ = c.args.from in
    let n : ℕ = c.loop-n.n in
    let next : suc n ≡ n + 1 = omega arith in
    record {
      count =
          ap (λ (m : ℕ). m + c.change_after-changes.result) c.loop-n.invariant.count
          ∙ ap (λ (m : ℕ). changes_from samples from n + m) c.change_after-changes.ensures.value
          ∙ ap (λ (m : ℕ). changes_from samples from m) next;
      few = omega arith;
    }
