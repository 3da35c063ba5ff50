use Rattle.std.proofs.Common.{◌≡◌, ℕ, ◌+◌, ◌<◌, List, replicate, ◌∙◌, ap, arith}
use Rattle.std.proofs.lemmas.List.{get_or-replicate}
use Rattle.std.specs.Prelude.{slice_index}
use Rattle.model_history.specs.Rails.{Ends}
use Rattle.model_line.specs.Parameters.{declared_ends}
use Rattle.model_timing.specs.Candidates.{candidate_value, free_before, free_count}
use Rattle.model_timing.proofs.BlockSpanLaws.{one_free_more, all_same, read_same, number_at_last}
use Rattle.model_timing.proofs.BlockSpanLaws.{all_set_last, all_set_other}
use Rattle.model_timing.proofs.blocks.block_span.Goals.{then-before-free, else-before-free}
use Rattle.model_timing.proofs.blocks.block_span.Goals as goal

pub returns-then-least-greatest : goal.returns-then-least-greatest
unfolding candidate_value
returns-then-least-greatest c = λ lane inside.
    let line = c.args.line.now in
    let ends : Ends = declared_ends line c.args.param in
    let n : ℕ = c.args.first + lane in
    let low = c.least.ensures.number in
    let high = c.greatest.ensures.number in
    let even : ends.least ≡ ends.greatest = omega arith in
    ap (λ (e : Ends). e.least) (c.sure.ensures.exact lane inside)
    ∙ c.least-then-least-greatest.ensures.number
    ∙ all_same (free_count line) (free_before line c.args.param) ends.least ends.greatest n even

pub returns : goal.returns
unfolding candidate_value
returns c = λ lane inside.
    let line = c.args.line.now in
    let ends : Ends = declared_ends line c.args.param in
    let n : ℕ = c.args.first + lane in
    let m : ℕ = c.args.free in
    let b : ℕ = c.args.before in
    let l : ℕ = c.new-least.result in
    let g : ℕ = c.new-greatest.result in
    let low : l ≡ ends.least = c.new-least.ensures ∙ c.least-2.ensures.number in
    let high : g ≡ ends.greatest = c.new-greatest.ensures ∙ c.greatest-2.ensures.number in
    let least = c.least.ensures.number in
    let greatest = c.greatest.ensures.number in
    let ordered = c.greatest.ensures.ordered in
    let apart : l < g = omega arith in
    let more = one_free_more line c.args.param c.requires.param (omega arith) in
    let start : slice_index (replicate 64 l) lane ≡ l = get_or-replicate 64 lane l 0 inside in
    let one = c.set_lane.ensures lane inside in
    let late = c.set_lanes_from.ensures lane inside in
    let own = c.set_lane-2.ensures lane inside in
    let all : slice_index c.if-before-free.ticks lane ≡ number_at_last m b l g n =
    elim c.if-before-free.branch [
      | then-before-free w ↦
          all_set_last m b l g n _ _ _ _ apart start one late own _ w.if-before-free.true
          (ap (λ (xs : List ℕ). slice_index xs lane) w.ticks-is
          ∙ w.set_lanes_from-then-before-free.ensures lane inside)
      | else-before-free w ↦
          let other = w.if-before-free.false in
          all_set_other m b l g n _ _ _ _ apart start one late own _ (omega arith)
          (ap (λ (xs : List ℕ). slice_index xs lane) w.ticks-is
          ∙ w.set_lane-else-before-free.ensures lane inside)
    ] in
    ap (λ (xs : List ℕ). slice_index xs lane) c.new.ensures
    ∙ all
    ∙ read_same m b l g n (free_count line) (free_before line c.args.param) ends.least ends.greatest
    c.requires.free c.requires.before low high
