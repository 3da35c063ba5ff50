-- Loops of a map's readers, one step on.
use Rattle.std.proofs.Common.{◌≡◌, ◌+◌, ◌<◌, ◌++◌, ℕ, List, [], ◌∷◌, drop, length, get_or}
use Rattle.std.proofs.lemmas.List.{drop_more}
use Rattle.toml.specs.{View.view, View.items_view, declared.value.Value.Value, Data.Members}
use Rattle.toml.proofs.Views.{items_view-drop}
use Rattle.model_line.specs.{declared.line.Line.Line, declared.line.Terminal.Terminal}
use Rattle.model_line.specs.Channels.{channel_number}
use Rattle.base_memory.specs.Gives.{◌>>=◌}
use Rattle.file_records.specs.declared.map.source.Signal.{Signal}
use Rattle.file_document.specs.Paths.{numbered}
use Rattle.file_records.specs.map.Sources.{SourceValues, source_in, sources_in}
use Rattle.file_records.specs.map.Signals.{SignalsValues, loss_under, losses_from}
use Rattle.file_records.specs.map.Recorders.{RecorderValues, recorder_at, recorders_in}

-- the next item of an array
pub sources_more : (path : List ℕ) (signal : Signal) (i : ℕ) (vs : List Value) (d : Value)
    (done : List SourceValues) → i < length vs
    → (source_in (numbered path i) signal (view (get_or vs i d)) >>= λ source.
    sources_in path signal (i + 1) (items_view (drop (i + 1) vs)) (done ++ source ∷ []))
    ≡ sources_in path signal i (items_view (drop i vs)) done
unfolding sources_in
sources_more path signal i vs d done h = rw (items_view-drop vs i d h)

pub recorders_more : (line : Line) (start : ℕ) (path : List ℕ) (i : ℕ) (vs : List Value)
    (d : Value) (done : List RecorderValues) → i < length vs
    → (recorder_at line start (numbered path i) (view (get_or vs i d)) >>= λ new.
    recorders_in line start path (i + 1) (items_view (drop (i + 1) vs)) (done ++ new ∷ []))
    ≡ recorders_in line start path i (items_view (drop i vs)) done
unfolding recorders_in
recorders_more line start path i vs d done h = rw (items_view-drop vs i d h)

-- the next terminal
pub losses_more : (line : Line) (path : List ℕ) (k : ℕ) (ms : Members) (j : ℕ)
    (ts : List Terminal) (d : Terminal) (done : SignalsValues) → j < length ts
    → (loss_under path (get_or ts j d).name (channel_number line.channels.items j k) ms done
    >>= λ more. losses_from line path k ms (j + 1) (drop (j + 1) ts) more)
    ≡ losses_from line path k ms j (drop j ts) done
unfolding losses_from
losses_more line path k ms j ts d done h = rw (drop_more ts j d h)
