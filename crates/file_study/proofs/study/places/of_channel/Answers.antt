use Rattle.std.proofs.Common.{[], false}
use Rattle.model_line.specs.declared.line.Terminal.{Terminal}
use Rattle.file_study.proofs.study_lemmas.Texts.{channel_text}
use Rattle.file_study.proofs.study.places.of_channel.Goals as goal

pub text_of_channel-requires : goal.text_of_channel-requires
text_of_channel-requires c =
    let none : Terminal = record { name = []; weak = false; guard = false } in
    rw c.channel_name-name.ensures.name
    (channel_text c.args.terminals.now c.args.channel none c.requires.from c.requires.to
    c.requires.plain)
