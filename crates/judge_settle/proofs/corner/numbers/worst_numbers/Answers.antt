use Rattle.std.proofs.Common.{ℕ, List, ◌∷◌, [], ◌++◌, map, sym, ◌∙◌, ap, arith}
use Rattle.std.proofs.lemmas.List.FromFn.{map-range_with_len_more}
use Rattle.std.specs.List.{range_with_len}
use Rattle.judge_settle.specs.corner.Named.{rail_named}
use Rattle.judge_settle.specs.corner.Corner.{worst_number}
use Rattle.judge_settle.proofs.corner.numbers.worst_numbers.Goals as goal

pub loop-param-preserved : goal.loop-param-preserved
loop-param-preserved c =
    let f : ℕ → ℕ = worst_number c.args.line.now (rail_named c.args.rail) in
    let i : ℕ = c.loop-param.param in
    ◌∙◌ {A = List ℕ} c.in_ok-push.ensures.items
    (ap (λ (xs : List ℕ). xs ++ c.worst_number.result ∷ []) c.loop-param.invariant
    ∙ ap (λ (n : ℕ). map f (range_with_len 0 i) ++ n ∷ []) c.worst_number.ensures
    ∙ sym (map-range_with_len_more f 0 i i (omega arith)))
