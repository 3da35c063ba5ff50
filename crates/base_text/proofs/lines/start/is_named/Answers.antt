use Rattle.std.proofs.Common.{List, ℕ, ◌++◌, ◌∙◌, ap}
use Rattle.base_text.specs.lines.NamedLaws.{after_word}
use Rattle.base_text.proofs.lines.start.is_named.Goals as goal

pub returns-in-Some : goal.returns-in-Some
returns-in-Some c =
    let start : List ℕ = c.args.start.now in (
      λ yes. c.in-Some.ensures ∙ ap (λ (l : List ℕ). start ++ l) (c.is.ensures.0 yes),
      λ same. c.is.ensures.1 (after_word c.args.bytes.now start c.in-Some.rest.now c.args.name.now
          c.in-Some.ensures same),
    )
