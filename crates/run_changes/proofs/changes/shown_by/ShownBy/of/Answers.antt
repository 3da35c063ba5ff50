use Rattle.std.proofs.Common.{◌≡◌, ◌≤◌, ◌<◌, ◌+◌, ◌-◌, ℕ, List, get_or, length, take, drop, ap, ◌∙◌, arith}
use Rattle.std.proofs.lemmas.List.{get_or_read}
use Rattle.model_line.specs.declared.script.SeenSpan.{SeenSpan}
use Rattle.run_changes.specs.changes.ShownBy.{AreStarts}
use Rattle.run_changes.proofs.changes.shown_by.ShownBy.of.Goals as goal

-- a gate's spans stand between two places of the list
ordered : (spans : List SeenSpan) (starts : List ℕ) (i from to : ℕ) → AreStarts spans starts
    → i + 1 < length starts → from ≡ get_or starts i from → to ≡ get_or starts (i + 1) to
    → (from ≤ to) × (to ≤ length spans)
ordered spans starts i from to are lt is_from is_to =
    let first : from ≡ get_or starts i 0 =
    get_or_read starts i from (omega (arith, lt)) is_from 0 in
    let last : to ≡ get_or starts (i + 1) 0 = get_or_read starts (i + 1) to lt is_to 0 in
    let rise : get_or starts i 0 ≤ get_or starts (i + 1) 0 = are.rise i lt in
    let inside : get_or starts (i + 1) 0 ≤ length spans = are.inside (i + 1) lt in
    (omega (arith, first, last, rise), omega (arith, last, inside))

pub index-from-requires : goal.index-from-requires
index-from-requires c = omega (arith, c.requires.inside, c.args.self.now.starts.ok.0)

pub index-to-requires : goal.index-to-requires
index-to-requires c = omega (arith, c.requires.inside, c.args.self.now.starts.ok.0)

pub overflow_add-gate : goal.overflow_add-gate
overflow_add-gate c = record { fits = omega (arith, c.ranges.gate) }

pub offset_bounds-deref-from : goal.offset_bounds-deref-from
offset_bounds-deref-from c =
    let order : (c.index-from.result.now ≤ c.index-to.result.now)
    × (c.index-to.result.now ≤ length c.args.self.now.spans.items) =
    ordered c.args.self.now.spans.items c.args.self.now.starts.items c.args.gate
    c.index-from.result.now c.index-to.result.now c.requires.starts c.requires.inside
    c.index-from.ensures c.index-to.ensures in
    record {
      fits = omega (arith, order.0, order.1, ap length c.deref.ensures.value, c.deref.type_inv.1);
    }

pub slice_bounds-result-count : goal.slice_bounds-result-count
slice_bounds-result-count c =
    let order : (c.index-from.result.now ≤ c.index-to.result.now)
    × (c.index-to.result.now ≤ length c.args.self.now.spans.items) =
    ordered c.args.self.now.spans.items c.args.self.now.starts.items c.args.gate
    c.index-from.result.now c.index-to.result.now c.requires.starts c.requires.inside
    c.index-from.ensures c.index-to.ensures in
    order.0

pub slice_bounds-result-start : goal.slice_bounds-result-start
slice_bounds-result-start c =
    let order : (c.index-from.result.now ≤ c.index-to.result.now)
    × (c.index-to.result.now ≤ length c.args.self.now.spans.items) =
    ordered c.args.self.now.spans.items c.args.self.now.starts.items c.args.gate
    c.index-from.result.now c.index-to.result.now c.requires.starts c.requires.inside
    c.index-from.ensures c.index-to.ensures in
    omega (arith, order.0, order.1, ap length c.deref.ensures.value)

pub slice_bounds-result-end : goal.slice_bounds-result-end
slice_bounds-result-end c =
    let order : (c.index-from.result.now ≤ c.index-to.result.now)
    × (c.index-to.result.now ≤ length c.args.self.now.spans.items) =
    ordered c.args.self.now.spans.items c.args.self.now.starts.items c.args.gate
    c.index-from.result.now c.index-to.result.now c.requires.starts c.requires.inside
    c.index-from.ensures c.index-to.ensures in
    omega (arith, order.0, order.1, ap length c.deref.ensures.value)

pub returns : goal.returns
returns c =
    let starts = c.args.self.now.starts.items in
    let spans = c.args.self.now.spans.items in
    let i = c.args.gate in
    let from = c.index-from.result.now in
    let to = c.index-to.result.now in
    let first : from ≡ get_or starts i 0 =
    get_or_read starts i from (omega (arith, c.requires.inside)) c.index-from.ensures 0 in
    let last : to ≡ get_or starts (i + 1) 0 =
    get_or_read starts (i + 1) to c.requires.inside c.index-to.ensures 0 in
    ap (λ (l : List SeenSpan). take (to - from) (drop from l)) c.deref.ensures.value
    ∙ ap (λ (n : ℕ). take (to - n) (drop n spans)) first
    ∙ ap (λ (n : ℕ). take (n - get_or starts i 0) (drop (get_or starts i 0) spans)) last
