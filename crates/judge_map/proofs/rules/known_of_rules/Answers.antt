use Rattle.std.proofs.Common.{◌<◌, ◌+◌, ◌/◌, ◌%◌, ℕ, length, refl, subst, sym, arith}
use Rattle.model_history.specs.ListLaws.{at_index}
use Rattle.judge_map.specs.{Asked.box_of, Cells.IsKnownAt, declared.known.Known.Known}
use Rattle.judge_margins.specs.map.Axes.{row_count}
use Rattle.judge_map.proofs.{BoxLaws.cell_from_one, BoxLaws.cell_ordered, KnownLaws.known_by_rule}
use Rattle.judge_margins.specs.map.PlaceLaws.{column_within, row_within, some_rows}
use Rattle.judge_map.proofs.KnownLaws.{known_more}
use Rattle.judge_map.proofs.rules.known_of_rules.Goals as goal

pub loop-n-preserved : goal.loop-n-preserved
loop-n-preserved c =
    let asked = c.args.asked.now in
    let line = asked.line.now in
    let scripts = asked.scripts.now in
    let axes = asked.axes.now in
    let box = box_of asked in
    let laws = c.laws_below.ensures in
    let n : ℕ = c.loop-n.n in
    let rules = c.args.cell.now.rules.items in
    let rule = c.index.result.now in
    let inside : n < length rules = omega (arith, c.loop-n-test.true, c.len-n-end.ensures) in
    let rows : ℕ = row_count axes in
    let some = some_rows axes.y in
    let in_column = column_within axes asked.place rows refl some c.requires.asked.place in
    let in_row = row_within asked.place rows some in
    known_more line scripts box n (n + 1) c.loop-n.known.items c.push.new.self.items
    c.known_of_rule.result refl c.in_ok-push.ensures.items
    (subst (λ (one : Known). IsKnownAt line scripts box n one) (sym c.known_of_rule.ensures)
    (known_by_rule line scripts box laws n c.args.one_railed rule c.requires.asked.fit
    (cell_from_one laws line axes (asked.place / rows) (asked.place % rows) c.requires.asked.can
    in_column in_row)
    (cell_ordered laws line axes (asked.place / rows) (asked.place % rows) c.requires.asked.can
    in_column in_row)
    c.requires.one_railed
    (c.requires.cell.each n rule (at_index rules n rule inside c.index.ensures))))
    c.loop-n.invariant
