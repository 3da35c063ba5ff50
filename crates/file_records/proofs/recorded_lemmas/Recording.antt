-- What tracks that tell a play come to.
use Rattle.std.proofs.Common.{◌≡◌, ◌<◌, ◌++◌, ◌∙◌, ℕ, zero, suc, Bool, List, [], ◌∷◌, refl, ap, arith}
use Rattle.std.specs.Bool.{beq}
use Rattle.std.specs.Prelude.{codes, decimal, if◌then◌else◌}
use Rattle.model_history.specs.{Each.each_below, EachLaws.each_below-same}
use Rattle.model_line.specs.Parameters.{terminal_count}
use Rattle.model_line.specs.declared.script.What.TheVariants as what
use Rattle.model_line.specs.NamesByNumber.{terminal_name}
use Rattle.run_changes.specs.rows.PlayRows.{value_before, level_word}
use Rattle.judge_match.specs.matching.Row.{header_record}
use Rattle.file_records.specs.declared.map.source.Signal.TheVariants.{Shown, Key, Trip}
use Rattle.file_records.specs.map.Signals.{shown}
use Rattle.file_records.specs.tracks.Levels.{is_on}
use Rattle.file_records.specs.recorded.Changes.{change_at, head_record, terminal_changes, tick_changes}
use Rattle.file_records.specs.recorded.Shows.{ShowsWhatIsTold}
use Rattle.file_records.specs.recorded.Recorded.{RecordsArePlays, ScriptsShowPlays, history_changes}
use Rattle.file_records.proofs.recorded_lemmas.Telling.{plays_are_told}

pub scripts_show_plays : ShowsWhatIsTold → ScriptsShowPlays
scripts_show_plays told line script h plain placed tracks own are t early = record {
  elements = λ element k there.
      (told line tracks t early).elements element k there
      ∙ plays_are_told line script h plain placed tracks own.own are (shown element k) t early
      (own.elements element k there);
  losses = λ c there.
      (told line tracks t early).losses c there
      ∙ plays_are_told line script h plain placed tracks own.own are (Shown (what.Loss c)) t early
      (own.losses c there);
}

before_same : (on own : ℕ → Bool) (horizon t : ℕ) → t < horizon
    → ((s : ℕ) → s < horizon → on s ≡ own s) → value_before on t ≡ value_before own t
before_same on own horizon zero early same = refl
before_same on own horizon (suc t) early same = same t (omega arith)

change_same : (name : List ℕ) (t : ℕ) (terminal signal : List ℕ) (on own : ℕ → Bool) (horizon : ℕ)
    → t < horizon → ((s : ℕ) → s < horizon → on s ≡ own s)
    → change_at name t terminal signal on ≡ change_at name t terminal signal own
change_same name t terminal signal on own horizon early same =
    let row : Bool → Bool → List (List (List ℕ)) =
    λ before now. if beq before now then []
    else (name ∷ decimal t ∷ terminal ∷ signal ∷ level_word now ∷ []) ∷ [] in
    ap (λ (b : Bool). row b (on t)) (before_same on own horizon t early same)
    ∙ ap (λ (b : Bool). row (value_before own t) b) (same t early)

pub records_are_plays : RecordsArePlays
records_are_plays line script h plain placed tracks own are name =
    let n : ℕ = terminal_count line in
    ap (λ (l : List (List (List ℕ))). header_record ∷ head_record name ∷ l)
    (each_below-same line.horizon (tick_changes name line tracks) (λ t. each_below n (history_changes name line h t))
    (λ t early. each_below-same n (terminal_changes name line tracks t) (history_changes name line h t)
    (λ k there.
    let terminal : List ℕ = terminal_name line k in
    let key = change_same name t terminal (codes "key") (is_on tracks (Key k)) (h.key k) line.horizon early
    (λ s before. plays_are_told line script h plain placed tracks own.own are (Key k) s before
    (own.keys k there)) in
    let trip = change_same name t terminal (codes "trip") (is_on tracks (Trip k)) (h.trip k) line.horizon early
    (λ s before. plays_are_told line script h plain placed tracks own.own are (Trip k) s before
    (own.trips k there)) in
    ap (λ (l : List (List (List ℕ))). l ++ change_at name t terminal (codes "trip") (is_on tracks (Trip k))) key
    ∙ ap (λ (l : List (List (List ℕ))). change_at name t terminal (codes "key") (h.key k) ++ l) trip)))
