use Rattle.std.proofs.Common.{ℕ, List, ◌∷◌, [], ◌++◌, map, sym, ◌∙◌, ap, arith}
use Rattle.std.proofs.lemmas.List.FromFn.{map-range_with_len_more}
use Rattle.std.specs.List.{range_with_len}
use Rattle.run_signal.specs.declared.tern.Tern.{Tern}
use Rattle.judge_match.specs.matching.Waves.{wave_of}
use Rattle.judge_match.proofs.matching.waves.waves.Goals as goal

pub loop-terminal-preserved : goal.loop-terminal-preserved
loop-terminal-preserved c =
    let f : ℕ → List Tern = wave_of c.args.line.now.horizon c.args.changes.now c.args.trip in
    let k : ℕ = c.loop-terminal.terminal in
    ◌∙◌ {A = List (List Tern)} c.in_ok-push.ensures.items
    (ap (λ (xs : List (List Tern)). xs ++ c.in_ok-wave.field-0 ∷ []) c.loop-terminal.invariant
    ∙ ap (λ (w : List Tern). map f (range_with_len 0 k) ++ w ∷ []) c.in_ok-wave.ensures
    ∙ sym (map-range_with_len_more f 0 k k (omega arith)))
