use Rattle.std.proofs.Common.{◌≡◌, ◌∙◌, length, sym, ap, arith, true}
use Rattle.std.proofs.lemmas.Bool.{ltb-true}
use Rattle.model_line.specs.{Fits.exists_in, ParamNames.pair_name}
use Rattle.model_line.specs.declared.script.What.TheVariants as what
use Rattle.model_line.specs.ParamNameLaws.{name_of-got}
use Rattle.file_tables.specs.script.Printed.{item_text, place_text}
use Rattle.file_tables.specs.script.NamingLaws.{channel_name-got, ends_of-got}
use Rattle.file_tables.proofs.script.print.push_row.Goals as goal

pub channel_name-place-requires-clause-from : goal.channel_name-place-requires-clause-from
channel_name-place-requires-clause-from c =
    let line = c.args.line.now in
    let there : exists_in line (what.Loss c.in-Loss.channel) ≡ true =
    ap (exists_in line) (sym c.in-Loss.is) ∙ c.requires in
    let below = ltb-true c.in-Loss.channel (length line.channels.items) there in
    let ends = ends_of-got (length line.terminals.items) line.channels.items c.in-Loss.channel
    c.index.result.now line.pairs_once below c.index.ensures in
    omega (arith, ends.0, ap length c.as_slice.ensures.value)

pub channel_name-place-requires-clause-to : goal.channel_name-place-requires-clause-to
channel_name-place-requires-clause-to c =
    let line = c.args.line.now in
    let there : exists_in line (what.Loss c.in-Loss.channel) ≡ true =
    ap (exists_in line) (sym c.in-Loss.is) ∙ c.requires in
    let below = ltb-true c.in-Loss.channel (length line.channels.items) there in
    let ends = ends_of-got (length line.terminals.items) line.channels.items c.in-Loss.channel
    c.index.result.now line.pairs_once below c.index.ensures in
    omega (arith, ends.1, ap length c.as_slice.ensures.value)

pub returns-in-Element : goal.returns-in-Element
returns-in-Element c =
    let line = c.args.line.now in
    let there : exists_in line (what.Element c.in-Element.place) ≡ true =
    ap (exists_in line) (sym c.in-Element.is) ∙ c.requires in
    let below = ltb-true c.in-Element.place.terminal (length line.terminals.items) there in
    let item : item_text c.args.span.what ≡ c.element_word-item.result.now =
    ap item_text c.in-Element.is ∙ sym c.element_word-item.ensures in
    let place : place_text line c.args.span.what ≡ c.bytes.result.now =
    ap (place_text line) c.in-Element.is
    ∙ name_of-got line.terminals.items c.in-Element.place.terminal c.index-terminal.result.now
    below c.index-terminal.ensures
    ∙ sym c.bytes.ensures.same in
    rw (item, place) c.push_fields.ensures

pub returns-in-Loss : goal.returns-in-Loss
returns-in-Loss c =
    let line = c.args.line.now in
    let there : exists_in line (what.Loss c.in-Loss.channel) ≡ true =
    ap (exists_in line) (sym c.in-Loss.is) ∙ c.requires in
    let below = ltb-true c.in-Loss.channel (length line.channels.items) there in
    let place : place_text line c.args.span.what ≡ c.bytes-in-Loss.result.now =
    ap (place_text line) c.in-Loss.is
    ∙ channel_name-got line.terminals.items line.channels.items c.in-Loss.channel
    c.index.result.now below c.index.ensures
    ∙ ap (λ ts. pair_name ts c.index.result.now) (sym c.as_slice.ensures.value)
    ∙ sym c.channel_name-place.ensures.name ∙ sym c.bytes-in-Loss.ensures.same in
    rw (ap item_text c.in-Loss.is, place) c.push_fields-in-Loss.ensures
