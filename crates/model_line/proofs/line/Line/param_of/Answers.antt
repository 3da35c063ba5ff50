use Rattle.std.proofs.Common.{length, take, sym, ap, ◌∙◌, subst}
use Rattle.model_line.specs.Settings.{settings_of_terminals, setting_place}
use Rattle.model_line.specs.Parameters.{param_number, IsOwner}
use Rattle.model_line.specs.PositionLaws.{terminal_number_made, channel_number_made}
use Rattle.model_line.proofs.line.Line.param_of.Goals as goal

pub returns-in-Terminal : goal.returns-in-Terminal
returns-in-Terminal c =
    let k = c.in-Terminal.k in
    let line = c.args.self.now in
    terminal_number_made line k c.args.setting c.index.result.now c.count_before-before.result
    c.place_in.result c.after.result
    (subst (IsOwner line) c.in-Terminal.is c.requires) c.index.ensures
    (c.count_before-before.ensures.count
    ∙ ap (λ l. length (settings_of_terminals line.scheme 0 (take k l))) c.deref.ensures.value)
    (c.place_in.ensures.place
    ∙ ap (λ l. setting_place l c.args.setting) c.groups_of_terminal-groups.ensures.all)
    c.after.ensures
    ∙ ap (λ o. param_number line o c.args.setting) (sym c.in-Terminal.is)

pub returns-in-Channel : goal.returns-in-Channel
returns-in-Channel c =
    let k = c.in-Channel.c in
    let line = c.args.self.now in
    channel_number_made line k c.args.setting
    c.count_before-before-in-Channel.result c.count_of_channel.result
    c.place_in-in-Channel.result c.after-in-Channel.result
    (subst (IsOwner line) c.in-Channel.is c.requires)
    (c.count_before-before-in-Channel.ensures.count
    ∙ ap (λ l. length (settings_of_terminals line.scheme 0 l)) c.deref-in-Channel.ensures.value)
    c.count_of_channel.ensures.count
    (c.place_in-in-Channel.ensures.place
    ∙ ap (λ l. setting_place l c.args.setting) c.groups_of_channel.ensures.all)
    c.after-in-Channel.ensures
    ∙ ap (λ o. param_number line o c.args.setting) (sym c.in-Channel.is)
