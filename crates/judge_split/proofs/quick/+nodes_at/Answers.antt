use Rattle.std.proofs.Common.{◌+◌, ◌-◌, ◌*◌, refl, rules}
use Rattle.std.proofs.lemmas.Option.{slice_get_read}
use Rattle.judge_split.specs.Quiet.{AreNodesIfTold}
use Rattle.judge_split.proofs.NodeLaws.{yes_if_told, narrow_if_told, deepest_if_told, split_if_told}
use Rattle.judge_split.proofs.{NodeLaws.joined, ListLaws.if_some_is}
use Rattle.judge_split.proofs.quick.+nodes_at.Goals as goal

pub returns-then-held-i : goal.returns-then-held-i
returns-then-held-i t c =
    yes_if_told c.args.line.now c.args.wide.now c.args.parts.now c.args.held.now c.args.i c.args.depth
    c.index-parts-i.result c.in_ok-leaf.field-0.items (search (rules, slice_get_read))
    (search (rules, slice_get_read)) c.in_ok-leaf.ensures

pub returns-in_default : goal.returns-in_default
returns-in_default t c =
    narrow_if_told c.args.line.now c.args.wide.now c.args.parts.now c.args.held.now c.args.i
    c.args.depth c.index-parts-i.result c.in_ok-leaf-2.field-0.items (search (rules, slice_get_read))
    c.requires.parts (search (rules, slice_get_read)) (c.if-not-is_narrowed.ensures refl)
    c.in_ok-leaf-2.ensures c.in_default.ensures

pub returns-then-depth-eq0 : goal.returns-then-depth-eq0
returns-then-depth-eq0 t c =
    deepest_if_told c.args.line.now c.args.wide.now c.args.parts.now c.args.held.now c.args.i
    c.args.depth c.index-parts-i.result c.in_ok-leaf-3.field-0.items (search (rules, slice_get_read))
    c.requires.parts (search (rules, slice_get_read)) (c.if-not-is_narrowed.ensures refl)
    c.in_ok-leaf-3.ensures c.if-depth-eq0.true

pub returns : goal.returns
returns t c =
    let line = c.args.line.now in
    let wide = c.args.wide.now in
    let parts = c.args.parts.now in
    let held = c.args.held.now in
    let i = c.args.i in
    let n = c.args.depth in
    let nodes = c.in_ok-split.field-0.items in
    let first = c.in-Some-2.first.items in
    let second = c.in-Some-3.second.items in
    split_if_told line wide parts held i n c.index-parts-i.result nodes
    (search (rules, slice_get_read)) c.requires.parts (search (rules, slice_get_read))
    (c.if-not-is_narrowed.ensures refl) c.in-Some.param c.middle-mid.result first second
    (joined c.in-Some.param c.middle-mid.result nodes first second c.deref.result.now
    c.deref-2.result.now c.in_ok-split.ensures c.deref.ensures.value c.deref-2.ensures.value)
    c.middle-mid.ensures.number c.if-depth-eq0.false c.in-Some.ensures (c.requires.halves i)
    (if_some_is c.in_ok-first.field-0 c.in-Some-2.first
    (λ nodes. AreNodesIfTold line wide parts held (2 * i + 2) (n - 1) nodes.items)
    c.in-Some-2.is c.in_ok-first.ensures)
    (if_some_is c.in_ok-second.field-0 c.in-Some-3.second
    (λ nodes. AreNodesIfTold line wide parts held (2 * i + 3) (n - 1) nodes.items)
    c.in-Some-3.is c.in_ok-second.ensures)
