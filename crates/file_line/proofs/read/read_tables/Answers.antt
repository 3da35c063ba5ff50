use Rattle.std.proofs.Common.{◌≤◌, length, ap, sym, ◌∙◌, arith}
use Rattle.file_line.specs.Lines.{values_of}
use Rattle.file_line.proofs.LineLaws.{start_kept, terminals_kept, between, channels_kept}
use Rattle.file_line.proofs.LineLaws.{makes_line}
use Rattle.file_line.proofs.read.read_tables.Goals as goal

pub returns-clause-makes : goal.returns-clause-makes
returns-clause-makes c =
    let line0 = c.args.line.now in
    let line1 = c.terminals.new.line in
    let line2 = c.channels.new.line in
    let some = c.requires.some in
    let head = start_kept (values_of line0) c.requires.no_terminal c.requires.no_interval in
    let ended = terminals_kept _ _ _ (values_of line0) (values_of line1) some
    c.in_ok-terminals.ensures.values head in
    let none = c.in_ok-terminals.ensures.channels ∙ c.requires.no_channel in
    let whole = channels_kept _ _ _ (values_of line1) (values_of line2) some
    c.in_ok-channels.ensures.values (between (values_of line1) ended none) in
    let joined =
    rw (c.deref.ensures.value, c.deref-2.ensures.value) at c.in_ok-all_joined.ensures in
    let few : (2 ≤ length line2.terminals.items) × (length line2.terminals.items ≤ 3) =
    (let same = ap length c.in_ok-channels.ensures.terminals in
    let count = c.in_ok-terminals.ensures.count in
    let nothing = ap length c.requires.no_terminal in
    let values = c.in_ok-terminal_values.ensures.count in
    (omega arith, omega arith)) in
    makes_line c.settings_are_counted.ensures (values_of line2) c.in_ok-all_joined.field-0 whole (sym joined)
    line2.tick_in_range line2.horizon_in_range few
