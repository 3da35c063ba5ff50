use Rattle.std.proofs.Common.{ℕ, List, [], ◌∷◌}
use Rattle.base_text.specs.{lines.LineLaws.leaves_later, lines.LineLaws.leaves_here, lines.Reading.some_left}
use Rattle.base_text.specs.lines.ReadLaws.{taken}
use Rattle.base_text.proofs.lines.whole.take_last.Goals as goal

pub returns-else-is_empty : goal.returns-else-is_empty
returns-else-is_empty g c =
    let kind = (g.R.PartReader.parts c.args.reader.now).grammar in
    let last = c.args.last.now in
    let text : List ℕ = c.args.lines.now.rest.now in
    let rest : List ℕ = c.take.new.self.rest.now in
    let a : ℕ = c.args.lines.now.number in
    let b : ℕ = c.take.new.self.number in
    leaves_later kind.stands kind.opens (kind.fixed last ∷ []) (kind.nothing ∷ []) text a [] rest b
    b (taken kind last [] text rest a b c.in_ok-take.ensures.0
    c.in_ok-take.ensures.1)
    (leaves_here kind.stands kind.opens [] rest b
    (some_left c.is_empty.result rest c.is_empty.ensures c.if-is_empty.false))
