use Rattle.std.proofs.Common.{◌∷◌, [], ◌++◌, List, map, ap, ◌∙◌, subst}
use Rattle.std.proofs.lemmas.List.{map-id}
use Rattle.std.proofs.lemmas.List.Concat.{flat_map_single}
use Rattle.std.proofs.lemmas.Result.{MatchResult-weaker}
use Rattle.std.specs.List.{flat_map}
use Rattle.base_text.specs.lines.Grammar.{Reads, IsFault}
use Rattle.base_text.proofs.lines.line.read_lines.Goals as goal

pub returns : goal.returns
returns g c = λ later.
    let reader = g.R.LineReader in
    let kind = reader.grammar c.args.reader.now in
    let places = flat_map_single (reader.place c.args.reader.now) c.args.items.now in
    MatchResult-weaker c.read_each.result (c.read_each.ensures later)
    (λ parts is.
    let says = reader.says c.args.reader.now in
    let same = ap (flat_map (λ part. says part ∷ [])) (map-id parts.items)
    ∙ flat_map_single says parts.items in
    let P : List kind.Place → Type 0 = λ l. Reads kind l (map says parts.items) later
    c.args.lines.now.rest.now c.args.lines.now.number c.read_each.new.lines.rest.now
    c.read_each.new.lines.number in
    let Q : List kind.Said → Type 0 = λ l. Reads kind
    (flat_map (λ x. reader.place c.args.reader.now x ∷ []) c.args.items.now) l later
    c.args.lines.now.rest.now c.args.lines.now.number c.read_each.new.lines.rest.now
    c.read_each.new.lines.number in
    (is.0, subst P places (subst Q same is.2)))
    (λ fault is.
    let P : List kind.Place → Type 0 = λ l. IsFault kind (l ++ later) c.args.lines.now.rest.now
    c.args.lines.now.number fault in
    subst P places is)
