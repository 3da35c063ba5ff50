use Rattle.std.proofs.Common.{◌≡◌, ◌∙◌, List, map, subst, arith}
use Rattle.std.specs.Prelude.{OnOk, codes}
use Rattle.toml.specs.{Data.Data, Data.array, View.view, View.table_view, View.items_of}
use Rattle.toml.proofs.Views.{view-Array}
use Rattle.file_line.specs.Canonical.{put_member, terminal_members, terminals_data}
use Rattle.file_line.proofs.TableSteps.{tables_more, tables_done}
use Rattle.file_line.proofs.canonical.put_terminals.Goals as goal

pub loop-k-preserved : goal.loop-k-preserved
loop-k-preserved c =
    tables_more (terminal_members c.args.unit c.args.line.now) c.args.line.now.terminals.items c.loop-k.k
    c.index.result.now c.loop-k.tables.items c.push.new.self.items c.in_ok-terminal_table.field-0
    (omega arith) c.index.ensures c.in_ok-push.ensures.items c.in_ok-terminal_table.ensures
    ∙ c.loop-k.invariant

pub returns : goal.returns
returns c =
    let all : map view c.loop-k.tables.items ≡ terminals_data c.args.unit c.args.line.now =
    tables_done (terminal_members c.args.unit c.args.line.now) c.args.line.now.terminals.items c.loop-k.k
    c.loop-k.tables.items (terminals_data c.args.unit c.args.line.now) (omega arith) c.loop-k.invariant in
    subst (λ (ds : List Data). OnOk c.put.result (table_view c.put.new.table
    ≡ put_member (codes "terminal") (array (items_of ds)) (table_view c.args.table.now)))
    all (rw view-Array at c.put.ensures)
