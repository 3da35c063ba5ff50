use Rattle.std.proofs.Common.{◌≡◌, ◌∙◌, ℕ, List, length, ap, arith}
use Rattle.std.proofs.lemmas.List.{length-take}
use Rattle.std.proofs.lemmas.List.FromFn.{length-map-range_with_len}
use Rattle.std.specs.Prelude.{min}
use Rattle.run_signal.specs.declared.tern.Tern.{Tern}
use Rattle.judge_match.specs.matching.Waves.{tern_by}
use Rattle.judge_match.proofs.matching.waves.wave.Goals as goal

pub push-requires-clause-room : goal.push-requires-clause-room
push-requires-clause-room c =
    let items : List Tern = c.deref-level-items.result.now in
    let i : ℕ = c.loop-level.level-index in
    let long : length c.loop-level.wave ≡ min i (length items) =
    ap length c.loop-level.invariant ∙ length-take i items in
    let count : length items ≡ c.args.horizon =
    ap length (c.deref-level-items.ensures.value ∙ c.in_ok-levels.ensures)
    ∙ length-map-range_with_len (tern_by c.args.changes.now c.args.trip c.args.terminal) 0
    c.args.horizon in
    let inside = c.loop-level-test.true in
    let short = c.requires in
    omega arith
