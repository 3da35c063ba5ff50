-- The files of recorders, one recorder on.
use Rattle.std.proofs.Common.{◌∷◌, ◌<◌, ◌+◌, ◌++◌, ℕ, List, [], Result, drop, get_or, length, map}
use Rattle.std.proofs.lemmas.List.{drop_more}
use Rattle.file_records.specs.map.Recorders.{recorder_values}
use Rattle.file_records.specs.declared.map.recorder.Recorder.{Recorder}
use Rattle.call_records.specs.Course.{Course, recorder_course, recorders_course}
use Rattle.call_records.specs.Parts.{RecorderFiles}
use Rattle.call_records.specs.Files.{Held, Runs}
use Rattle.call_records.specs.declared.halt.Halt.{Halt}

-- what leads on from one recorder leads on from the list at its place
pub one_more : (files : Held) (c1 c2 : List ℕ → ℕ) (map_name : List ℕ) (rs : List Recorder) (i : ℕ)
    (d : Recorder) (done : List RecorderFiles) (own : RecorderFiles) → i < length rs
    → ((next : RecorderFiles → Course) (now : List ℕ → ℕ) (r : Result (List ℕ) Halt)
    → Runs files c2 now (next own) r
    → Runs files c1 now (recorder_course map_name (recorder_values (get_or rs i d)) next) r)
    → (next : List RecorderFiles → Course) (now : List ℕ → ℕ) (r : Result (List ℕ) Halt)
    → Runs files c2 now
    (recorders_course map_name (map recorder_values (drop (i + 1) rs)) (done ++ own ∷ []) next) r
    → Runs files c1 now (recorders_course map_name (map recorder_values (drop i rs)) done next) r
one_more files c1 c2 map_name rs i d done own inside leads next now r run =
    rw (drop_more rs i d inside)
    (leads (λ f. recorders_course map_name (map recorder_values (drop (i + 1) rs)) (done ++ f ∷ []) next)
    now r run)

-- where one recorder stops, so does the list at its place
pub stops_here : (files : Held) (c1 c2 : List ℕ → ℕ) (map_name : List ℕ) (rs : List Recorder) (i : ℕ)
    (d : Recorder) (done : List RecorderFiles) (r : Result (List ℕ) Halt) → i < length rs
    → ((next : RecorderFiles → Course)
    → Runs files c1 c2 (recorder_course map_name (recorder_values (get_or rs i d)) next) r)
    → (next : List RecorderFiles → Course)
    → Runs files c1 c2 (recorders_course map_name (map recorder_values (drop i rs)) done next) r
stops_here files c1 c2 map_name rs i d done r inside stops next =
    rw (drop_more rs i d inside)
    (stops (λ f. recorders_course map_name (map recorder_values (drop (i + 1) rs)) (done ++ f ∷ []) next))
