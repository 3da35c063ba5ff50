use Rattle.std.proofs.Common.{Bool, sym, ◌∙◌, ap}
use Rattle.std.proofs.lemmas.List.{get_or-replicate}
use Rattle.std.specs.Prelude.{if◌then◌else◌}
use Rattle.model_history.specs.Rails.{must_of}
use Rattle.run_signal.proofs.vectors.spread.Goals as goal

pub returns-then-same : goal.returns-then-same
returns-then-same c = λ i lt.
    get_or-replicate 64 i 0 0 lt
    ∙ ap (λ (b : Bool). if b then 1 else 0)
    (sym (ap must_of (c.same.ensures c.if-same.true i lt ∙ c.known.ensures i lt)))

pub returns-then-same-2 : goal.returns-then-same-2
returns-then-same-2 c = λ i lt.
    get_or-replicate 64 i 1 0 lt
    ∙ ap (λ (b : Bool). if b then 1 else 0)
    (sym (ap must_of (c.same-2.ensures c.if-same-2.true i lt ∙ c.known-2.ensures i lt)))
