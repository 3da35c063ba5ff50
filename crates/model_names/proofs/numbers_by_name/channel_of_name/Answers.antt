use Rattle.std.proofs.Common.{◌<◌, List, length, get_or, ap, arith}
use Rattle.std.proofs.lemmas.List.{get_or-map}
use Rattle.model_line.specs.declared.line.Channel.{Channel}
use Rattle.model_names.proofs.numbers_by_name.channel_of_name.Goals as goal

pub channel_name-own-requires-clause-from : goal.channel_name-own-requires-clause-from
channel_name-own-requires-clause-from c =
    let cs : List Channel = c.args.line.now.channels.items in
    let d : Channel = record { from = 0; to = 0 } in
    let same = c.deref-channel-items.ensures.value in
    let inside : c.loop-c.c < length cs = omega (arith, ap length same) in
    let bound = c.args.line.now.pairs_once.from c.loop-c.c inside in
    let at = get_or-map (λ (h : Channel). h.from) cs c.loop-c.c d 0 inside in
    let here = ap (λ (xs : List Channel). (get_or xs c.loop-c.c d).from) same in
    omega (arith, bound, at, here, ap length c.as_slice.ensures.value)

pub channel_name-own-requires-clause-to : goal.channel_name-own-requires-clause-to
channel_name-own-requires-clause-to c =
    let cs : List Channel = c.args.line.now.channels.items in
    let d : Channel = record { from = 0; to = 0 } in
    let same = c.deref-channel-items.ensures.value in
    let inside : c.loop-c.c < length cs = omega (arith, ap length same) in
    let bound = c.args.line.now.pairs_once.to c.loop-c.c inside in
    let at = get_or-map (λ (h : Channel). h.to) cs c.loop-c.c d 0 inside in
    let here = ap (λ (xs : List Channel). (get_or xs c.loop-c.c d).to) same in
    omega (arith, bound, at, here, ap length c.as_slice.ensures.value)
