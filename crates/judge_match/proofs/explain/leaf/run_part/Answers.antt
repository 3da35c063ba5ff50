use Rattle.std.proofs.Common.{◌<◌, arith, subst, sym, ℕ, []}
use Rattle.model_logic.specs.Choice.{Box, LeastFromOne}
use Rattle.run_signal.specs.{Terns.tern_rails}
use Rattle.run_step.specs.{LaneBox.lane_box, Runs.IsTheHistory}
use Rattle.run_changes.specs.changes.Tracks.{tracks_history}
use Rattle.judge_match.specs.explain.Parts.{part_box}
use Rattle.run_step.specs.LaneBox.{own_span}
use Rattle.judge_match.proofs.explain_lemmas.BoxLaws.{box_is}
use Rattle.judge_match.proofs.explain_lemmas.ListLaws.{ok_weaker}
use Rattle.judge_match.proofs.explain.leaf.run_part.Goals as goal

pub run_tracks-requires-clause-delayed : goal.run_tracks-requires-clause-delayed
run_tracks-requires-clause-delayed c = λ lane below.
    subst (LeastFromOne c.args.q.now.compiled.line.now)
    (sym (box_is c.args.q.now.compiled.line.now c.args.part.now lane)) c.requires.part.delays

pub returns-clause-history : goal.returns-clause-history
returns-clause-history c =
    let line = c.args.q.now.compiled.line.now in
    let script = c.args.q.now.script.now in
    let part = c.args.part.now in
    ok_weaker (λ tracks. (lane : ℕ) → lane < 1
    → IsTheHistory line script (lane_box own_span line part [] lane)
    (tracks_history (λ x _. tern_rails x) lane tracks.keys.items tracks.trips.items))
    (λ tracks. IsTheHistory line script (part_box line part)
    (tracks_history (λ x _. tern_rails x) 0 tracks.keys.items tracks.trips.items))
    c.run_tracks.result
    (λ tracks each. subst (λ (b : Box). IsTheHistory line script b
    (tracks_history (λ x _. tern_rails x) 0 tracks.keys.items tracks.trips.items))
    (box_is line part 0) (each 0 (omega arith)))
    c.run_tracks.ensures.history
