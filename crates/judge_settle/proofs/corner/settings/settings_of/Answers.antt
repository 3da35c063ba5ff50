use Rattle.judge_settle.proofs.corner_lemmas.SettingOrder.{settings_made}
use Rattle.judge_settle.proofs.corner.settings.settings_of.Goals as goal

pub returns : goal.returns
returns c =
    settings_made c.args.line.now.scheme c.args.line.now.terminals.items
    c.args.line.now.channels.items c.as_slice-terminals.result.now c.as_slice-channels.result.now
    c.as_slice-terminals.ensures.value c.as_slice-channels.ensures.value _ _ _
    c.new-settings.ensures.items c.in_ok-push_terminals.ensures c.in_ok-push_channels.ensures
