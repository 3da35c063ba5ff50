use Rattle.std.proofs.Common.{◌≡◌, ◌∙◌, List, map, subst, arith}
use Rattle.std.specs.Prelude.{OnOk, codes}
use Rattle.toml.specs.{Data.Data, Data.array, View.view, View.table_view, View.items_of}
use Rattle.toml.proofs.Views.{view-Array}
use Rattle.file_line.specs.Canonical.{put_member, channel_members, channels_data}
use Rattle.file_line.proofs.TableSteps.{tables_more, tables_done}
use Rattle.file_line.proofs.canonical.put_channels.Goals as goal

pub loop-c-preserved : goal.loop-c-preserved
loop-c-preserved c =
    tables_more (channel_members c.args.unit c.args.line.now) c.args.line.now.channels.items c.loop-c.c
    c.index.result.now c.loop-c.tables.items c.push.new.self.items c.in_ok-channel_table.field-0
    (omega arith) c.index.ensures c.in_ok-push.ensures.items c.in_ok-channel_table.ensures
    ∙ c.loop-c.invariant

pub returns : goal.returns
returns c =
    let all : map view c.loop-c.tables.items ≡ channels_data c.args.unit c.args.line.now =
    tables_done (channel_members c.args.unit c.args.line.now) c.args.line.now.channels.items c.loop-c.c
    c.loop-c.tables.items (channels_data c.args.unit c.args.line.now) (omega arith) c.loop-c.invariant in
    subst (λ (ds : List Data). OnOk c.put.result (table_view c.put.new.table
    ≡ put_member (codes "channel") (array (items_of ds)) (table_view c.args.table.now)))
    all (rw view-Array at c.put.ensures)
