use Rattle.std.proofs.Common.{◌≡◌, ◌∙◌, ◌++◌, ap, arith, sym, ℕ}
use Rattle.std.specs.List.{flat_map, range_with_len}
use Rattle.model_line.specs.Parameters.{terminal_count}
use Rattle.run_changes.specs.changes.PlayedTracks.{played}
use Rattle.judge_match.specs.{explain.Answers.paired_terminal, explain.Asked.recorded_of}
use Rattle.judge_match.proofs.explain_lemmas.PlayLaws.{flat_range, rows_same}
use Rattle.judge_match.proofs.explain.play.rows.Goals as goal

pub loop-k-preserved : goal.loop-k-preserved
loop-k-preserved c =
    let f = paired_terminal c.args.q.now.compiled.line.now (recorded_of c.args.q.now)
    (played c.in_ok-tracks.tracks.keys.items c.in_ok-tracks.tracks.trips.items) in
    c.in_ok-push_terminal.ensures
    ∙ ap (λ l. l ++ f c.loop-k.k) c.loop-k.invariant
    ∙ sym (flat_range f c.loop-k.k)

pub returns : goal.returns
returns c = λ h is.
    let line = c.args.q.now.compiled.line.now in
    let rec = recorded_of c.args.q.now in
    let now = played c.in_ok-tracks.tracks.keys.items c.in_ok-tracks.tracks.trips.items in
    let all : c.loop-k.k ≡ terminal_count line =
    omega (arith, c.loop-k-test.false, c.loop-k.auto, c.len-k-end.ensures) in
    c.loop-k.invariant
    ∙ ap (λ (n : ℕ). flat_map (paired_terminal line rec now) (range_with_len 0 n)) all
    ∙ rows_same line rec now h (c.in_ok-tracks.ensures.history.only h is)
