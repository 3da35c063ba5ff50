use Rattle.std.proofs.Common.{◌≡◌, ◌<◌, ◌∙◌, ◌++◌, arith, List, ℕ, true, false, length}
use Rattle.model_history.specs.ListLaws.{at_index}
use Rattle.base_text.specs.lines.AnswerLaws.{on_ok}
use Rattle.run_signal.specs.SentKeys.{SentKeys}
use Rattle.run_signal.specs.declared.level.Level.{Level}
use Rattle.run_changes.specs.changes.PlayedTracks.{played}
use Rattle.judge_match.specs.explain.Answers.{paired, paired_signal, paired_terminal}
use Rattle.judge_match.specs.explain.Asked.{recorded_of}
use Rattle.judge_match.specs.declared.explain.paired.Paired.{Paired}
use Rattle.judge_match.proofs.explain_lemmas.PlayLaws.{signal_rows, rows_grow}
use Rattle.judge_match.proofs.explain.play.push_terminal.Goals as goal

pub returns : goal.returns
returns c =
    let q = c.args.q.now in
    let line = q.compiled.line.now in
    let rec = recorded_of q in
    let k : ℕ = c.args.k in
    let keys : List (SentKeys Level) = c.args.tracks.now.keys.items in
    let trips : List (SentKeys Level) = c.args.tracks.now.trips.items in
    let h = played keys trips in
    let rows : List Paired = c.args.rows.now.items in
    let mid : List Paired = c.push_paired.new.rows.items in
    let new : List Paired = c.push_paired-2.new.rows.items in
    let in_keys : k < length keys = omega (arith, c.requires.terminal, c.requires.keys.count) in
    let in_trips : k < length trips = omega (arith, c.requires.terminal, c.requires.trips.count) in
    let kept_keys : k < length q.keys.items =
    omega (arith, c.requires.terminal, c.requires.question.keys.count) in
    let kept_trips : k < length q.trips.items =
    omega (arith, c.requires.terminal, c.requires.question.trips.count) in
    let first : mid ≡ rows ++ paired_signal line rec h false k =
    signal_rows line q.within rec.key q.keys.items keys k c.index-3.result.now c.index.result.now
    c.deref.result.now c.deref-2.result.now false rows mid c.requires.question.keys c.requires.keys
    (at_index q.keys.items k c.index-3.result.now kept_keys c.index-3.ensures)
    (at_index keys k c.index.result.now in_keys c.index.ensures)
    c.deref.ensures.value (c.deref-2.ensures.value ∙ c.in_ok-keys.ensures)
    c.in_ok-push_paired.ensures in
    on_ok
    (new ≡ mid ++ paired k true true c.deref-3.result.now c.deref-4.result.now)
    (new ≡ rows ++ paired_terminal line rec h k) c.push_paired-2.result
    (λ is. rows_grow rows mid new (paired_signal line rec h false k)
    (paired_signal line rec h true k) first
    (signal_rows line q.within rec.trip q.trips.items trips k c.index-4.result.now
    c.index-2.result.now c.deref-3.result.now c.deref-4.result.now true mid new
    c.requires.question.trips c.requires.trips
    (at_index q.trips.items k c.index-4.result.now kept_trips c.index-4.ensures)
    (at_index trips k c.index-2.result.now in_trips c.index-2.ensures)
    c.deref-3.ensures.value (c.deref-4.ensures.value ∙ c.in_ok-trips.ensures) is))
    c.push_paired-2.ensures
