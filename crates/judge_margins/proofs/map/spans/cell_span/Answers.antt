use Rattle.std.proofs.Common.{◌≡◌, ◌≢◌, ◌<◌, ◌≤◌, ◌+◌, ◌∙◌, ℕ, List, length, length-set, ap, arith}
use Rattle.std.proofs.Common.{get_or-set_other, get_or-set_same, below_more}
use Rattle.std.specs.Prelude.{slice_index, slice_set}
use Rattle.judge_margins.specs.map.Blocks.{lane_cell}
use Rattle.judge_margins.specs.map.PlaceLaws.{few_cells}
use Rattle.judge_margins.proofs.map.spans.cell_span.Goals as goal

-- what is said of the lanes so far, with the next one written
lane_more : (xs : List ℕ) (lane v : ℕ) (said : ℕ → ℕ → Type 0) → lane < length xs
    → ((k : ℕ) → k < lane → said k (slice_index xs k)) → said lane v
    → (k : ℕ) → k < lane + 1 → said k (slice_index (slice_set xs lane v) k)
lane_more xs lane v said inside before here =
    below_more _ _
    (λ k low. let ne : k ≢ lane = omega arith in rw get_or-set_other (before k low))
    (rw get_or-set_same here)

-- the same of two lists, each with the next one written
order_more : (xs ys : List ℕ) (lane v w : ℕ) → lane < length xs → lane < length ys
    → ((k : ℕ) → k < lane → slice_index xs k ≤ slice_index ys k) → v ≤ w
    → (k : ℕ) → k < lane + 1
    → slice_index (slice_set xs lane v) k ≤ slice_index (slice_set ys lane w) k
order_more xs ys lane v w inside inside_too before here =
    below_more _ _
    (λ k low. let ne : k ≢ lane = omega arith in
    rw get_or-set_other (rw get_or-set_other (before k low)))
    (rw get_or-set_same (rw get_or-set_same here))

pub ends_in_lane-low-requires-clause-axes : goal.ends_in_lane-low-requires-clause-axes
ends_in_lane-low-requires-clause-axes c = c.requires.axes

pub ends_in_lane-low-requires-clause-can : goal.ends_in_lane-low-requires-clause-can
ends_in_lane-low-requires-clause-can c = c.requires.can

pub ends_in_lane-low-requires-clause-some : goal.ends_in_lane-low-requires-clause-some
ends_in_lane-low-requires-clause-some c = omega (arith, c.requires.first)

pub overflow_add-first : goal.overflow_add-first
overflow_add-first c =
    record {
      fits = omega (
        arith,
        c.requires.first,
        few_cells c.args.line.now c.args.axes.now c.requires.axes,
      );
    }

pub bounds-least-lane : goal.bounds-least-lane
bounds-least-lane c = omega arith

pub bounds-greatest-lane : goal.bounds-greatest-lane
bounds-greatest-lane c = omega arith

pub new-requires : goal.new-requires
new-requires c = omega (arith, c.ends_in_lane-low.ensures.ordered, c.ends_in_lane-low.ensures.limit)

pub new-requires-in-loop-lane : goal.new-requires-in-loop-lane
new-requires-in-loop-lane c = c.ends_in_lane-low.ensures.limit

pub loop-lane-preserved : goal.loop-lane-preserved
loop-lane-preserved c =
    let line = c.args.line.now in
    let axes = c.args.axes.now in
    let first : ℕ = c.args.first in
    let param : ℕ = c.args.param in
    let lane : ℕ = c.loop-lane.lane in
    let least = c.loop-lane.least in
    let greatest = c.loop-lane.greatest in
    let inside : lane < length least = omega (arith, c.loop-lane.invariant.long) in
    let inside_too : lane < length greatest = omega (arith, c.loop-lane.invariant.long_too) in
    record {
      long = length-set least lane _ ∙ c.loop-lane.invariant.long;
      long_too = length-set greatest lane _ ∙ c.loop-lane.invariant.long_too;
      least = lane_more least lane c.new.result
          (λ k n. n ≡ ((lane_cell line axes first k).ends param).least) inside
          c.loop-lane.invariant.least (c.new.ensures ∙ c.ends_in_lane-low.ensures.least);
      greatest = lane_more greatest lane c.new-in-loop-lane.result
          (λ k n. n ≡ ((lane_cell line axes first k).ends param).greatest) inside_too
          c.loop-lane.invariant.greatest
          (c.new-in-loop-lane.ensures ∙ c.ends_in_lane-low.ensures.greatest);
      ordered = order_more least greatest lane c.new.result c.new-in-loop-lane.result inside
          inside_too c.loop-lane.invariant.ordered
          (omega (
            arith,
            c.new.ensures,
            c.new-in-loop-lane.ensures,
            c.ends_in_lane-low.ensures.ordered,
          ));
    }

pub new-requires-4 : goal.new-requires-4
new-requires-4 c = λ lane inside.
    let before : lane < c.loop-lane.lane = omega arith in
    let ordered = c.loop-lane.invariant.ordered lane before in
    let low = ap (λ (l : List ℕ). slice_index l lane) c.new-2.ensures in
    let high = ap (λ (l : List ℕ). slice_index l lane) c.new-3.ensures in
    omega (arith, low, high, ordered)
