use Rattle.file_line.proofs.ChannelEnds.{from_is, to_is}
use Rattle.file_line.proofs.canonical.channel_table.Goals as goal

pub name_of-from-requires : goal.name_of-from-requires
name_of-from-requires c =
    let line = c.args.line.now in
    let from = from_is line.channels.items c.args.c c.args.channel c.requires.exists c.requires.is in
    rw from at (line.pairs_once.from c.args.c c.requires.exists)

pub name_of-to-requires : goal.name_of-to-requires
name_of-to-requires c =
    let line = c.args.line.now in
    let to = to_is line.channels.items c.args.c c.args.channel c.requires.exists c.requires.is in
    rw to at (line.pairs_once.to c.args.c c.requires.exists)
