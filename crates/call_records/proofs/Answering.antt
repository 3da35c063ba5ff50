-- What may be answered over all that was read.
use Rattle.std.proofs.Common.{◌≡◌, ◌⊎◌, ◌∷◌, ◌∙◌, ℕ, List, [], Option, None, Some, Result, Ok, Err, map, refl, ap, subst, sym, inl, inr}
use Rattle.std.specs.Prelude.{Vec, slice_get}
use Rattle.std.specs.declared.alloc.Global.{Global}
use Rattle.model_line.specs.declared.line.Line.{Line}
use Rattle.file_comtrade.specs.declared.record.RecordFault.{RecordFault}
use Rattle.file_records.specs.map.Maps.{MapValues}
use Rattle.file_records.specs.tracks.Tracks.{AreTracks, BytesValues, FailsAt, PlacedValues, TrackValues, placed_from}
use Rattle.call_records.specs.Answers.{Answers, over_records, over_work, placed_of, refuses}
use Rattle.call_records.specs.Parts.{RecordParts, SectionRefusal, bytes_in}
use Rattle.call_records.specs.{RecordFaults.record_refusal, SectionFaults.refused_section}
use Rattle.call_records.specs.{Halts.End, Halts.Refuses, Lines.Refusal, Request.Asked}
use Rattle.call_records.specs.Read.{Gives, IsMemory, Stops, TellsAt, TellsOf, record_values}
use Rattle.call_records.specs.declared.parts as code
use Rattle.call_records.specs.declared.halt.Halt.{Halt}
use Rattle.call_records.specs.declared.halt.Halt.TheVariants as halt

bytes_twice : (rs : List code.RecordParts.RecordParts)
    → map (λ r. bytes_in (record_values r)) rs ≡ map bytes_in (map record_values rs)
bytes_twice [] = refl
bytes_twice (r ∷ rs) = ap (λ (l : List BytesValues). bytes_in (record_values r) ∷ l) (bytes_twice rs)

-- the sources are those of the map
pub placed_are : (line : Line) (m : MapValues) (rs : List code.RecordParts.RecordParts)
    (placed : List PlacedValues) (bytes : List BytesValues)
    → bytes ≡ map (λ r. bytes_in (record_values r)) rs
    → placed ≡ placed_from line 0 m.recorders bytes
    → placed ≡ placed_of line m (map record_values rs)
placed_are line m rs placed bytes are is =
    is ∙ ap (placed_from line 0 m.recorders) (are ∙ bytes_twice rs)

wider : (allowed more : Answers) (r : Result (Vec ℕ Global) Halt)
    → ((end : End) (text : List ℕ) → allowed end text → more end text) → Gives allowed r → Gives more r
wider allowed more (Ok v) f given = f _ _ given
wider allowed more (Err (halt.Refused line)) f given = f _ _ given
wider allowed more (Err (halt.Store file)) f given = absurd given
wider allowed more (Err halt.Sink) f given = absurd given
wider allowed more (Err halt.Memory) f given = tt

-- a file that is refused
told_so : (refusal : Refusal) (stop : Halt) → Refuses refusal stop → Gives (refuses refusal) (Err stop)
told_so refusal (halt.Refused told) tells = (tells, refl)
told_so refusal (halt.Store file) tells = absurd tells
told_so refusal halt.Sink tells = absurd tells
told_so refusal halt.Memory tells = tt

without_memory : (allowed : Answers) (stop : Halt) → IsMemory stop → Gives allowed (Err stop)
without_memory allowed (halt.Refused told) is = absurd is
without_memory allowed (halt.Store file) is = absurd is
without_memory allowed halt.Sink is = absurd is
without_memory allowed halt.Memory is = tt

-- a record that has not its sections
pub over_refused : (asked : Asked) (line : Line) (m : MapValues)
    (said : Result (List RecordParts) SectionRefusal) (stop : Halt)
    → Stops refused_section said stop ⊎ IsMemory stop
    → Gives (over_records asked line m said) (Err stop)
over_refused asked line m said stop stops = elim stops [
  | inl by ↦ subst (λ (s : Result (List RecordParts) SectionRefusal).
      Gives (over_records asked line m s) (Err stop)) (sym by.fails)
      (told_so (refused_section by.fault) stop by.tells)
  | inr is ↦ without_memory (over_records asked line m said) stop is
]

module _ (asked : Asked) (line : Line) (m : MapValues) (records : List RecordParts) where
  -- each source tells a track
  pub over_all : (placed : List PlacedValues) (tracks : List TrackValues)
      (r : Result (Vec ℕ Global) Halt) → placed ≡ placed_of line m records → AreTracks placed tracks
      → Gives (over_work asked line m placed tracks) r → Gives (over_records asked line m (Ok records)) r
  over_all placed tracks r is are given =
      wider (over_work asked line m placed tracks) (over_records asked line m (Ok records)) r
      (λ end text holds.
      inl (
        tracks,
        subst (λ (ps : List PlacedValues). AreTracks ps tracks) is are,
        subst (λ (ps : List PlacedValues). over_work asked line m ps tracks end text) is holds,
      )) given

  -- ---- one tells nothing

  module _ (place : ℕ) (why : RecordFault) (fails : FailsAt (placed_of line m records) place why) where
    abbrev Refused : Halt → Type 0
    Refused stop = Gives (over_records asked line m (Ok records)) (Err stop)

    by_memory : (stop : Halt) → IsMemory stop → Refused stop
    by_memory (halt.Refused told) is = absurd is
    by_memory (halt.Store file) is = absurd is
    by_memory halt.Sink is = absurd is
    by_memory halt.Memory is = tt

    module _ (source : PlacedValues) (there : slice_get (placed_of line m records) place ≡ Some source)
        (own : RecordParts) (its : slice_get records source.recorder ≡ Some own) where
      abbrev refusal_of_it : Refusal
      refusal_of_it = record_refusal asked own source.source.channel why

      by_line : (stop : Halt) → Refuses refusal_of_it stop → Refused stop
      by_line (halt.Refused told) tells = inr (
        place,
        why,
        refusal_of_it,
        fails,
        record { source = source; there = there; own = own; its = its; is = refl },
        (tells, refl),
      )
      by_line (halt.Store file) tells = absurd tells
      by_line halt.Sink tells = absurd tells
      by_line halt.Memory tells = tt

    by_own : (source : PlacedValues) → slice_get (placed_of line m records) place ≡ Some source
        → (o : Option RecordParts) → slice_get records source.recorder ≡ o → (stop : Halt)
        → TellsOf asked o source why stop → Refused stop
    by_own source there None its stop tells = by_memory stop tells
    by_own source there (Some own) its stop tells =
        by_line source there own its stop tells

    by_source : (o : Option PlacedValues) → slice_get (placed_of line m records) place ≡ o
        → (stop : Halt) → TellsAt asked o records why stop → Refused stop
    by_source None there stop tells = by_memory stop tells
    by_source (Some source) there stop tells =
        by_own source there (slice_get records source.recorder) refl stop tells

  pub over_none : (placed : List PlacedValues) (place : ℕ) (why : RecordFault) (stop : Halt)
      → placed ≡ placed_of line m records → FailsAt placed place why
      → TellsAt asked (slice_get placed place) records why stop
      → Gives (over_records asked line m (Ok records)) (Err stop)
  over_none placed place why stop is fails tells =
      by_source place why (subst (λ (ps : List PlacedValues). FailsAt ps place why) is fails)
      (slice_get (placed_of line m records) place) refl stop
      (subst (λ (ps : List PlacedValues). TellsAt asked (slice_get ps place) records why stop) is tells)
