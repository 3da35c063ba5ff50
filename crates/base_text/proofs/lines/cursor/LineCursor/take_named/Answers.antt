use Rattle.std.proofs.Common.{◌≡◌, List, ℕ, ◌++◌, refl}
use Rattle.base_text.specs.lines.LineLaws.{one_line}
use Rattle.base_text.proofs.lines.cursor.LineCursor.take_named.Goals as goal

pub returns-else-is_named : goal.returns-else-is_named
returns-else-is_named c =
    let text : List ℕ = c.args.start.now ++ c.args.name.now in
    let no = c.if-is_named.false in (
      refl,
      λ rest begins.
          let same : c.in_ok-line.line.now ≡ text =
          one_line c.args.self.now.rest.now c.in_ok-line.line.now c.take_line.new.self.rest.now text
          rest c.in_ok-line.ensures.0 begins in
          let yes = c.is_named.ensures.1 same in
          cc,
    )
