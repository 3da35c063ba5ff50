-- Tracks, one after another.
use Rattle.std.proofs.Common.{◌++◌, List, [], ◌∷◌, length}
use Rattle.file_comtrade.specs.declared.record.RecordFault.{RecordFault}
use Rattle.file_records.specs.tracks.Channels.{IsRefused}
use Rattle.file_records.specs.tracks.Tracks.{PlacedValues, TrackValues, IsTrack, AreTracks, FailsAt}

-- one source more, and its track
pub tracks_more : (ps : List PlacedValues) (ts : List TrackValues) (p : PlacedValues) (t : TrackValues)
    → AreTracks ps ts → IsTrack p t → AreTracks (ps ++ p ∷ []) (ts ++ t ∷ [])
tracks_more [] [] p t are is = (is, tt)
tracks_more [] (u ∷ ts) p t are is = absurd are
tracks_more (q ∷ ps) [] p t are is = absurd are
tracks_more (q ∷ ps) (u ∷ ts) p t are is = (are.0, tracks_more ps ts p t are.1 is)

-- the source behind those that have tracks has none
pub fails_behind : (ps : List PlacedValues) (ts : List TrackValues) (p : PlacedValues)
    (rest : List PlacedValues) (why : RecordFault) → AreTracks ps ts
    → IsRefused p.files p.source.channel p.ticks why → FailsAt (ps ++ p ∷ rest) (length ps) why
fails_behind [] ts p rest why are refused = refused
fails_behind (q ∷ ps) [] p rest why are refused = absurd are
fails_behind (q ∷ ps) (u ∷ ts) p rest why are refused =
    (u, are.0, fails_behind ps ts p rest why are.1 refused)
