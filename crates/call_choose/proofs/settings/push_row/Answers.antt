use Rattle.std.proofs.Common.{refl}
use Rattle.call_choose.specs.Rows.{Row}
use Rattle.call_choose.proofs.RowLaws.{is_row, row_pushed}
use Rattle.call_choose.proofs.settings.push_row.Goals as goal

pub returns : goal.returns
returns c rows are =
    let line = c.args.line.now in
    let row : Row = record { name = c.args.name.now; params = c.args.params.items } in
    let ends = c.ends_of-least.ensures in
    row_pushed line rows row _ _ c.args.all.now.names.items c.push.new.self.items
    c.args.all.now.settings.items c.push-2.new.self.items are
    (is_row line row _ _ c.in_ok-name.ensures.items (rw c.deref.ensures.value at ends.least)
    (rw c.deref.ensures.value at ends.greatest) refl refl refl ends.ordered ends.limit
    c.requires.exist c.requires.numbers c.requires.alike)
    c.in_ok-push.ensures.items c.in_ok-push-2.ensures.items
