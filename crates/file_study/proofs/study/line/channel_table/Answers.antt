use Rattle.std.proofs.Common.{refl, arith}
use Rattle.std.proofs.lemmas.Grind.{common_steps}
use Rattle.toml.specs.Data.{no_members}
use Rattle.file_study.proofs.study_lemmas.Texts.{channel_text}
use Rattle.file_study.proofs.study.line.channel_table.Goals as goal

pub text_of_channel-key-requires : goal.text_of_channel-key-requires
text_of_channel-key-requires c =
    rw c.channel_name-name.ensures.name
    (channel_text c.args.terminals.now c.args.channel c.index-terminals-channel.result
    c.requires.from c.requires.to c.requires.plain)

pub returns : goal.returns
returns c =
    let from = c.with_text-table.ensures no_members (rw c.new.ensures.empty refl) in
    let own = c.with_owner.ensures _ (c.with_text-table-2.ensures _ from) in
    grind (arith, common_steps, own)
