use Rattle.std.proofs.Common.{ℕ, List, ◌∷◌, [], ◌++◌, map, sym, ◌∙◌, ap, arith}
use Rattle.std.proofs.lemmas.List.FromFn.{map-range_with_len_more}
use Rattle.std.specs.List.{range_with_len}
use Rattle.model_timing.specs.Candidates.{candidate_value}
use Rattle.model_timing.proofs.candidates.candidate.Goals as goal

pub loop-param-preserved : goal.loop-param-preserved
loop-param-preserved c =
    let f : ℕ → ℕ = candidate_value c.args.line.now c.args.index in
    let i : ℕ = c.loop-param.param in
    ◌∙◌ {A = List ℕ} c.in_ok-push.ensures.items
    (ap (λ (xs : List ℕ). xs ++ c.candidate_value.result ∷ []) c.loop-param.invariant
    ∙ ap (λ (n : ℕ). map f (range_with_len 0 i) ++ n ∷ []) c.candidate_value.ensures
    ∙ sym (map-range_with_len_more f 0 i i (omega arith)))
