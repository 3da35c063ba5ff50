use Rattle.std.proofs.Common.{◌≡◌, ◌<◌, ◌++◌, List, ℕ, Some, length, refl, sym, ap, ◌∙◌, subst}
use Rattle.std.proofs.Common.{append_assoc}
use Rattle.std.proofs.lemmas.Option.{slice_get_read}
use Rattle.std.specs.Prelude.{OnOk, slice_get}
use Rattle.model_line.specs.ParamNames.{channel_name, pair_name}
use Rattle.model_line.specs.Parameters.{channel_count}
use Rattle.net_compile.specs.NetText.{channel_text}
use Rattle.net_compile.proofs.Channels.{from_there, to_there}
use Rattle.net_compile.proofs.text.put_channel.Goals as goal

pub channel_name-name-requires-clause-from : goal.channel_name-name-requires-clause-from
channel_name-name-requires-clause-from c =
    subst (λ l. c.index.result.now.from < length l) (sym c.deref.ensures.value)
    (from_there c.args.line.now c.args.channel c.index.result.now c.requires c.index.ensures)

pub channel_name-name-requires-clause-to : goal.channel_name-name-requires-clause-to
channel_name-name-requires-clause-to c =
    subst (λ l. c.index.result.now.to < length l) (sym c.deref.ensures.value)
    (to_there c.args.line.now c.args.channel c.index.result.now c.requires c.index.ensures)

pub returns : goal.returns
returns c =
    let at : slice_get c.args.line.now.channels.items c.args.channel ≡ Some c.index.result.now =
    slice_get_read c.args.line.now.channels.items (channel_count c.args.line.now) c.args.channel
    c.index.result.now refl c.requires c.index.ensures in
    let name : c.bytes.result.now ≡ channel_text c.args.line.now c.args.channel =
    c.bytes.ensures.same ∙ c.channel_name-name.ensures.name
    ∙ ap (λ l. pair_name l c.index.result.now) c.deref.ensures.value
    ∙ sym (ap (channel_name c.args.line.now.terminals.items) at) in
    let old : List ℕ = c.args.text.now.items in
    let word : List ℕ = c.args.word.now in
    let all : c.put.new.text.items ++ c.bytes.result.now
    ≡ old ++ (word ++ channel_text c.args.line.now c.args.channel) =
    ap (λ l. l ++ c.bytes.result.now) c.in_ok-put.ensures
    ∙ append_assoc old word c.bytes.result.now ∙ ap (λ l. old ++ (word ++ l)) name in
    subst (λ l. OnOk c.put-2.result (c.put-2.new.text.items ≡ l)) all c.put-2.ensures
