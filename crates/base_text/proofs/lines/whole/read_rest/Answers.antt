use Rattle.std.proofs.Common.{◌∷◌, [], map}
use Rattle.std.proofs.lemmas.Result.{err_from_is_err_and}
use Rattle.base_text.specs.lines.Grammar.{ended, all_places, all_said}
use Rattle.base_text.specs.{lines.LineLaws.lines_then, lines.ReadLaws.later_fault}
use Rattle.base_text.proofs.lines.whole.read_rest.Goals as goal

pub returns-in_err-parts : goal.returns-in_err-parts
returns-in_err-parts g c =
    let p = err_from_is_err_and c.from_residual.result c.from_residual.ensures.1 in
    let kind = (g.R.PartReader.parts c.args.reader.now).grammar in
    rw (p.1, p.2) (c.in_err-parts.ensures (kind.fixed c.args.last.now ∷ []))

pub returns-in_err-take_last : goal.returns-in_err-take_last
returns-in_err-take_last g c =
    let p = err_from_is_err_and c.from_residual-in_err-take_last.result
    c.from_residual-in_err-take_last.ensures.1 in
    let parts = g.R.PartReader.parts c.args.reader.now in
    let kind = parts.grammar in
    let last = kind.fixed c.args.last.now ∷ [] in
    rw (p.1, p.2) (later_fault kind
    (ended kind (all_places parts c.args.items.now) c.args.last.now)
    (all_said parts (map g.R.PartReader.meaning c.in_ok-parts.parts.items)) c.args.lines.now.rest.now
    c.args.lines.now.number last c.read_each.new.lines.rest.now c.read_each.new.lines.number
    c.in_err-take_last.field-0.0 (c.in_ok-parts.ensures last).2 c.in_err-take_last.ensures)

pub returns : goal.returns
returns g c =
    let parts = g.R.PartReader.parts c.args.reader.now in
    let kind = parts.grammar in
    let last = kind.fixed c.args.last.now ∷ [] in
    let read = c.in_ok-parts.ensures last in (
      read.0,
      read.1,
      lines_then kind.stands kind.opens
          (ended kind (all_places parts c.args.items.now) c.args.last.now)
          (all_said parts (map g.R.PartReader.meaning c.in_ok-parts.parts.items))
          c.args.lines.now.rest.now last c.read_each.new.lines.rest.now (kind.nothing ∷ []) [] []
          read.2.lines c.in_ok-take_last.ensures,
    )
