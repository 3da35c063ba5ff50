use Rattle.std.proofs.Common.{◌∷◌, [], map, ◌∙◌}
use Rattle.std.proofs.lemmas.List.{length-map}
use Rattle.std.proofs.lemmas.Result.{MatchResult-weaker}
use Rattle.base_text.specs.lines.Grammar.{ended, end_said, all_places, all_said}
use Rattle.base_text.specs.{lines.LineLaws.lines_then, lines.ReadLaws.later_fault, lines.ReadLaws.taken}
use Rattle.base_text.proofs.lines.whole.read_text.Goals as goal

pub returns : goal.returns
returns g c =
    let reader = g.R.PartReader in
    let parts = reader.parts c.args.reader.now in
    let kind = parts.grammar in
    let first = c.args.first.now in
    let rest = ended kind (all_places parts c.args.items.now) c.args.last.now in
    let start = c.new-lines.ensures in
    let one = taken kind first rest c.args.bytes.now c.take.new.self.rest.now 1
    c.take.new.self.number (rw start.all at c.in_ok-take.ensures.0)
    (rw start.first at c.in_ok-take.ensures.1) in
    MatchResult-weaker c.read_rest.result c.read_rest.ensures
    (λ read is. record {
      many = length-map read.items reader.meaning ∙ is.0;
      each = is.1;
      lines = lines_then kind.stands kind.opens (kind.fixed first ∷ rest) (kind.nothing ∷ [])
          c.args.bytes.now rest c.take.new.self.rest.now
          (end_said kind (all_said parts (map reader.meaning read.items))) [] [] one.lines is.2;
    })
    (λ fault is. later_fault kind (kind.fixed first ∷ rest) (kind.nothing ∷ []) c.args.bytes.now 1
    rest c.take.new.self.rest.now c.take.new.self.number fault one is)
