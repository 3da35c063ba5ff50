use Rattle.std.proofs.Common.{◌||◌, ◌∙◌, ◌++◌, ap, map, refl, sym}
use Rattle.std.specs.List.{list_any}
use Rattle.std.specs.Str.{bytes_eq}
use Rattle.model_line.specs.Settings.{time_key}
use Rattle.file_document.proofs.Named.{any_front}
use Rattle.file_document.proofs.keys.is_known.Goals as goal

pub returns-then-timed : goal.returns-then-timed
returns-then-timed c =
    let rest = map (λ name. name.now) c.args.known.now ++ c.args.names.now in
    let own = list_any (λ name. bytes_eq name c.args.key.now) rest in
    c.if-timed.true ∙ ap (λ b. b || own) (sym c.if-timed.true)
    ∙ any_front time_key (λ name. bytes_eq name c.args.key.now) c.args.settings.now rest
    c.is_key_of-timed.result own c.is_key_of-timed.ensures refl

pub returns-else-timed : goal.returns-else-timed
returns-else-timed c =
    let rest = map (λ name. name.now) c.args.known.now ++ c.args.names.now in
    ap (λ b. b || c.is_among.result) (sym c.if-timed.false)
    ∙ any_front time_key (λ name. bytes_eq name c.args.key.now) c.args.settings.now rest
    c.is_key_of-timed.result c.is_among.result c.is_key_of-timed.ensures c.is_among.ensures
