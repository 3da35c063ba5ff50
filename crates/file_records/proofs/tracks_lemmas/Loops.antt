-- Loops, one step on.
use Rattle.std.proofs.Common.{◌≡◌, ◌+◌, ◌-◌, ◌<◌, ◌++◌, ℕ, suc, List, [], ◌∷◌}
use Rattle.std.proofs.Common.{map, length, take, drop, get_or, refl, ap, sym, subst, ◌∙◌, arith}
use Rattle.std.proofs.Common.{Some, None}
use Rattle.std.proofs.lemmas.List.{drop_more, map-append, take_more, length-map}
use Rattle.std.proofs.lemmas.List.{length-take-le, take-append-drop}
use Rattle.model_line.specs.declared.line.Line.{Line}
use Rattle.file_comtrade.specs.declared.record.RecordFault.{RecordFault}
use Rattle.file_records.specs.declared.map.{recorder.Recorder.Recorder, source.Signal.Signal}
use Rattle.file_records.specs.{map.Recorders.RecorderValues, map.Recorders.recorder_values}
use Rattle.file_records.specs.map.Sources.{source_values}
use Rattle.file_records.specs.declared.tracks.placed.{Placed.Placed, RecordBytes.RecordBytes}
use Rattle.file_records.specs.{tracks.Channels.IsRefused, tracks.Told.first_from, tracks.Told.untold_at}
use Rattle.file_records.specs.tracks.Tracks.{PlacedValues, TrackValues, IsTrack, AreTracks, FailsAt}
use Rattle.file_records.specs.tracks.Tracks.{bytes_values, placed_at, placed_from, placed_values}
use Rattle.file_records.proofs.tracks_lemmas.InOrder.{fails_behind, tracks_more}

-- ---- tracks

module _ (ps : List Placed) (i : ℕ) (d : Placed) (ts : List TrackValues) (inside : i < length ps)
    (are : AreTracks (map placed_values (take i ps)) ts) where
  -- one source more, and its track
  pub read_more : (t : TrackValues) → IsTrack (placed_values (get_or ps i d)) t
      → AreTracks (map placed_values (take (i + 1) ps)) (ts ++ t ∷ [])
  read_more t is =
      let P : List PlacedValues → Type 0 = λ xs. AreTracks xs (ts ++ t ∷ []) in
      let same : map placed_values (take (i + 1) ps)
      ≡ map placed_values (take i ps) ++ placed_values (get_or ps i d) ∷ [] =
      ap (map placed_values) (take_more ps i d inside)
      ∙ map-append placed_values (take i ps) (get_or ps i d ∷ []) in
      subst P (sym same)
      (tracks_more (map placed_values (take i ps)) ts (placed_values (get_or ps i d)) t are is)

  -- a source that has none
  pub read_fails : (why : RecordFault)
      → IsRefused (placed_values (get_or ps i d)).files (placed_values (get_or ps i d)).source.channel
      (placed_values (get_or ps i d)).ticks why
      → FailsAt (map placed_values ps) i why
  read_fails why refused =
      let rest = map placed_values (drop (i + 1) ps) in
      let front = map placed_values (take i ps) in
      let p = placed_values (get_or ps i d) in
      let whole : ps ≡ take i ps ++ get_or ps i d ∷ drop (i + 1) ps =
      sym (take-append-drop i ps) ∙ ap (λ xs. take i ps ++ xs) (drop_more ps i d inside) in
      let same : map placed_values ps ≡ front ++ p ∷ rest =
      ap (map placed_values) whole
      ∙ map-append placed_values (take i ps) (get_or ps i d ∷ drop (i + 1) ps) in
      let long : length front ≡ i =
      length-map (take i ps) placed_values ∙ length-take-le i ps (omega arith) in
      let fails = fails_behind front ts p rest why are refused in
      let P : List PlacedValues → Type 0 = λ xs. FailsAt xs i why in
      let Q : ℕ → Type 0 = λ n. FailsAt (front ++ p ∷ rest) n why in
      subst P (sym same) (subst Q long fails)

-- ---- places

pub placed_more : (line : Line) (i : ℕ) (rs : List Recorder) (fs : List RecordBytes) (r : Recorder)
    (f : RecordBytes) → i < length rs → i < length fs
    → map (placed_at line i (recorder_values (get_or rs i r)) (bytes_values (get_or fs i f)))
    (map source_values (get_or rs i r).signals.sources.items)
    ++ placed_from line (i + 1) (map recorder_values (drop (i + 1) rs))
    (map bytes_values (drop (i + 1) fs))
    ≡ placed_from line i (map recorder_values (drop i rs)) (map bytes_values (drop i fs))
placed_more line i rs fs r f here there = rw (drop_more rs i r here, drop_more fs i f there) refl

-- ---- what is told

module _ (rs : List RecorderValues) (k n : ℕ) (inside : k < n) where
  terminals_left : n - k ≡ suc (n - (k + 1))
  terminals_left = omega arith

  pub told_more : untold_at rs k ≡ None → first_from rs k (n - k) ≡ first_from rs (k + 1) (n - (k + 1))
  told_more none = rw (terminals_left, none) refl

  pub untold_here : (s : Signal) → untold_at rs k ≡ Some s → first_from rs k (n - k) ≡ Some s
  untold_here s is = rw (terminals_left, is) refl
