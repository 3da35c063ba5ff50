use Rattle.std.proofs.Common.{◌≡◌, ◌≢◌, ◌<◌, ◌+◌, ◌∙◌, ℕ, List, length, length-set, ap, subst, sym, arith}
use Rattle.std.proofs.Common.{get_or-set_other, get_or-set_same, below_more}
use Rattle.std.specs.Prelude.{Some, slice_get, slice_index, slice_set}
use Rattle.model_line.specs.{declared.line.Line.Line, Parameters.declared_ends}
use Rattle.std.proofs.lemmas.Option.{slice_get-get_or}
use Rattle.model_history.specs.ListLaws.{exists_at, one_value}
use Rattle.judge_verdict.specs.boxes.Held.{part_in}
use Rattle.judge_verdict.proofs.boxes_lemmas.HeldLaws.{part_exists}
use Rattle.judge_verdict.proofs.boxes.held.part_span.Goals as goal

-- what is said of the lanes so far, with the next one written
lane_more : (xs : List ℕ) (lane v : ℕ) (said : ℕ → ℕ → Type 0) → lane < length xs
    → ((k : ℕ) → k < lane → said k (slice_index xs k)) → said lane v
    → (k : ℕ) → k < lane + 1 → said k (slice_index (slice_set xs lane v) k)
lane_more xs lane v said inside before here =
    below_more _ _
    (λ k low. let ne : k ≢ lane = omega arith in rw get_or-set_other (before k low))
    (rw get_or-set_same here)

pub loop-lane-preserved : goal.loop-lane-preserved
loop-lane-preserved c =
    let parts = c.args.parts.now in
    let place : ℕ → ℕ = part_in (length parts) c.args.first in
    let inside : c.loop-lane.lane < length c.loop-lane.least = omega arith in
    let inside_too : c.loop-lane.lane < length c.loop-lane.greatest = omega arith in
    let there = slice_get-get_or parts c.part_at.result _ c.part_at.ensures.exists in
    let is : (part : Line) → slice_get parts (place c.loop-lane.lane) ≡ Some part
    → c.index-parts-part_at.result ≡ part =
    λ part at. c.index-parts-part_at.is
    ∙ one_value parts c.part_at.result (place c.loop-lane.lane) _ part
    c.part_at.ensures.number there at in
    record {
      long = length-set c.loop-lane.least c.loop-lane.lane _ ∙ c.loop-lane.invariant.long;
      long_too = length-set c.loop-lane.greatest c.loop-lane.lane _ ∙ c.loop-lane.invariant.long_too;
      least = λ k part low at.
          lane_more c.loop-lane.least c.loop-lane.lane _
          (λ j n. (part : Line) → slice_get parts (place j) ≡ Some part
          → n ≡ (declared_ends part c.args.param).least)
          inside (λ j early part at. c.loop-lane.invariant.least j part early at)
          (λ part at. c.new.ensures ∙ c.least.ensures.number
          ∙ ap (λ (p : Line). (declared_ends p c.args.param).least) (is part at)) k low part at;
      greatest = λ k part low at.
          lane_more c.loop-lane.greatest c.loop-lane.lane _
          (λ j n. (part : Line) → slice_get parts (place j) ≡ Some part
          → n ≡ (declared_ends part c.args.param).greatest)
          inside_too (λ j early part at. c.loop-lane.invariant.greatest j part early at)
          (λ part at. c.new-in-loop-lane.ensures ∙ c.greatest.ensures.number
          ∙ ap (λ (p : Line). (declared_ends p c.args.param).greatest) (is part at)) k low part at;
    }

pub new-requires-4 : goal.new-requires-4
new-requires-4 c = λ lane inside.
    let parts = c.args.parts.now in
    let before : lane < c.loop-lane.lane = omega arith in
    let place : ℕ = part_in (length parts) c.args.first lane in
    let (part, at) = exists_at parts place (part_exists (length parts) c.args.first lane c.requires.first) in
    let there = subst (λ (n : ℕ). c.args.param < n)
    (sym (c.counts_do_not_rest_on_the_intervals.ensures.params c.args.line.now part
    (c.requires.parts.each place part at))) c.requires.param in
    let ordered = c.declared_intervals_are_in_order.ensures.ordered part c.args.param there in
    let least = c.loop-lane.invariant.least lane part before at in
    let greatest = c.loop-lane.invariant.greatest lane part before at in
    let low = ap (λ (l : List ℕ). slice_index l lane) c.new-2.ensures in
    let high = ap (λ (l : List ℕ). slice_index l lane) c.new-3.ensures in
    omega arith
