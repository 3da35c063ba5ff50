use Rattle.std.proofs.Common.{Bor, List, ℕ, ◌||◌, ◌∙◌, ap, refl, sym}
use Rattle.std.specs.List.{list_any}
use Rattle.std.specs.Str.{bytes_eq}
use Rattle.file_document.proofs.Named.{any_front}
use Rattle.file_document.proofs.keys.is_among.Goals as goal

abbrev text : Bor (List ℕ) → List ℕ
text name = name.now

pub returns-then-named : goal.returns-then-named
returns-then-named c =
    let own = list_any (λ name. bytes_eq name c.args.key.now) c.args.names.now in
    c.if-named.true ∙ ap (λ b. b || own) (sym c.if-named.true)
    ∙ any_front text (λ name. bytes_eq name c.args.key.now) c.args.known.now c.args.names.now
    c.contains-named.result own c.contains-named.ensures.value refl

pub returns-else-named : goal.returns-else-named
returns-else-named c =
    ap (λ b. b || c.is_name.result) (sym c.if-named.false)
    ∙ any_front text (λ name. bytes_eq name c.args.key.now) c.args.known.now c.args.names.now
    c.contains-named.result c.is_name.result c.contains-named.ensures.value c.is_name.ensures
