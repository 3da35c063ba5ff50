use Rattle.std.proofs.Common.{◌++◌, ◌∙◌, [], ◌∷◌, ap}
use Rattle.std.proofs.lemmas.List.{append_assoc, replicate_more}
use Rattle.call_columns.specs.Fields.{blanks}
use Rattle.call_columns.proofs.line.push_blanks.Goals as goal

pub loop-preserved : goal.loop-preserved
loop-preserved c =
    rw c.in_ok-push.ensures.items
    (ap (λ text. text ++ 32 ∷ []) c.loop.invariant
    ∙ append_assoc c.args.text.now.items (blanks c.loop.counter) (32 ∷ [])
    ∙ ap (λ more. c.args.text.now.items ++ more) (replicate_more c.loop.counter 32))
