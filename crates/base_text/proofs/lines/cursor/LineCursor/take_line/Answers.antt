use Rattle.std.proofs.Common.{arith, refl, sym, ◌∙◌, ◌+◌}
use Rattle.std.proofs.lemmas.List.{take_rest}
use Rattle.base_text.proofs.lines_lemmas.CursorLaws.{line_is, no_line}
use Rattle.base_text.proofs.lines.cursor.LineCursor.take_line.Goals as goal

pub returns-then-end-self : goal.returns-then-end-self
returns-then-end-self c = (
  refl,
  λ line rest begins. no_line c.args.self.now.rest.now line rest
      (sym c.find_byte-end.ensures.place ∙ c.if-end-self.true) begins,
)

pub returns : goal.returns
returns c =
    rw (take_rest c.args.self.now.rest.now (c.find_byte-end.result + 1)) (
      line_is c.args.self.now.rest.now c.find_byte-end.result c.find_byte-end.ensures.place (omega
          arith),
      refl,
    )
