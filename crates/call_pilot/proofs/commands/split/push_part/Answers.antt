use Rattle.std.proofs.Common.{◌++◌, map, refl, ap, ◌∙◌}
use Rattle.cert_split.specs.{text.Piece.written_as, text.Text.part_text}
use Rattle.call_pilot.proofs.commands.split.push_part.Goals as goal

pub returns : goal.returns
returns c =
    let outcomes = c.in_ok-outcomes.outcomes.items in
    record {
      results = map written_as outcomes;
      searched =
          record { searches = outcomes; found = c.in_ok-outcomes.ensures.found; written = refl };
      found = rw c.as_slice-3.ensures.value at c.found_of.ensures;
      text_is = c.in_ok-extend_from_slice.ensures.items
          ∙ ap (λ z. c.args.text.now.items ++ z) (c.as_slice-2.ensures.value
          ∙ c.in_ok-piece.ensures
          ∙ ap (λ found. part_text c.args.compiled.now.line.now c.args.script.now
          (map written_as found))
          c.as_slice.ensures.value);
    }
