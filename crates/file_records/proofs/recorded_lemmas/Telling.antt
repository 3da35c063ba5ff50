-- Tracks whose sources name the channels of a play tell the play.
use Rattle.std.proofs.Common.{◌≡◌, ◌<◌, ◌∙◌, ℕ, zero, suc, Bool, true, false, List, [], ◌∷◌, length}
use Rattle.std.proofs.Common.{get_or, refl, ap, sym, arith, subst, inl, inr}
use Rattle.std.proofs.lemmas.Bool.{cases_Bool, eq-eqb, eqb-true, or_right}
use Rattle.std.proofs.lemmas.List.FromFn.{get_or-map-range_with_len}
use Rattle.std.proofs.lemmas.List.Elements.{All-head, All-tail}
use Rattle.std.specs.List.{All, Contains}
use Rattle.model_line.specs.{declared.line.Line.Line, declared.script.Script.Script}
use Rattle.model_line.specs.PlainNames.{is_plain_name}
use Rattle.model_line.specs.declared.script.Element.{Element}
use Rattle.model_line.specs.declared.script.Element.TheVariants.{Z1, Z2, Rv, Uv, Cur}
use Rattle.model_line.specs.declared.script.{What.What}
use Rattle.model_line.specs.declared.script.What.TheVariants as what
use Rattle.model_logic.specs.Histories.{History}
use Rattle.file_comtrade.specs.declared.record.RecordFault.{RecordFault}
use Rattle.file_records.specs.declared.map.source.Signal.{Signal}
use Rattle.file_records.specs.declared.map.source.Signal.TheVariants.{Shown, Key, Trip}
use Rattle.file_records.specs.map.Sources.{id}
use Rattle.file_records.specs.tracks.Channels.{AreLevels, IsRefused}
use Rattle.file_records.specs.tracks.Levels.{is_on, same_signal, tells}
use Rattle.file_records.specs.tracks.Tracks.{AreTracks, FailsAt, IsTrack, PlacedValues, TrackValues, ticks_of, turned}
use Rattle.file_records.specs.recorded.Channels.{id_of, level_of, signals_of}
use Rattle.file_records.specs.recorded.ReadBack.{IsReadBack, levels_meant, start}
use Rattle.file_records.specs.recorded.Told.{IsOwnSource, PlaysAreAccepted, PlaysAreTold}
use Rattle.file_records.proofs.recorded_lemmas.Whole.{plays_are_read_back}

-- ---- signals are compared as they are

same_element : (a b : Element) (j k : ℕ)
    → same_signal (Shown (what.Element (record { element = a; terminal = j })))
    (Shown (what.Element (record { element = b; terminal = k }))) ≡ true → (a ≡ b) × (j ≡ k)
same_element Z1 Z1 j k same = (refl, eqb-true j k same)
same_element Z2 Z2 j k same = (refl, eqb-true j k same)
same_element Rv Rv j k same = (refl, eqb-true j k same)
same_element Uv Uv j k same = (refl, eqb-true j k same)
same_element Cur Cur j k same = (refl, eqb-true j k same)
same_element a b j k same = absurd (cc)

same_what : (v w : What) → same_signal (Shown v) (Shown w) ≡ true → v ≡ w
same_what (what.Element p) (what.Element q) same =
    let parts = same_element p.element q.element p.terminal q.terminal same in
    ap (λ (e : Element). what.Element (record { element = e; terminal = p.terminal })) parts.0
    ∙ ap (λ (k : ℕ). what.Element (record { element = q.element; terminal = k })) parts.1
same_what (what.Loss c) (what.Loss d) same = ap what.Loss (eqb-true c d same)
same_what (what.Element p) (what.Loss d) same = cc
same_what (what.Loss c) (what.Element q) same = cc

signal_is : (a b : Signal) → same_signal a b ≡ true → a ≡ b
signal_is (Shown v) (Shown w) same = ap Shown (same_what v w same)
signal_is (Key j) (Key k) same = ap Key (eqb-true j k same)
signal_is (Trip j) (Trip k) same = ap Trip (eqb-true j k same)
signal_is (Shown v) (Key k) same = cc
signal_is (Shown v) (Trip k) same = cc
signal_is (Key k) (Shown v) same = cc
signal_is (Key j) (Trip k) same = cc
signal_is (Trip k) (Shown v) same = cc
signal_is (Trip j) (Key k) same = cc

element_same : (a : Element) (k : ℕ)
    → same_signal (Shown (what.Element (record { element = a; terminal = k })))
    (Shown (what.Element (record { element = a; terminal = k }))) ≡ true
element_same Z1 k = eq-eqb k k refl
element_same Z2 k = eq-eqb k k refl
element_same Rv k = eq-eqb k k refl
element_same Uv k = eq-eqb k k refl
element_same Cur k = eq-eqb k k refl

signal_same : (a : Signal) → same_signal a a ≡ true
signal_same (Shown (what.Element p)) = element_same p.element p.terminal
signal_same (Shown (what.Loss c)) = eq-eqb c c refl
signal_same (Key k) = eq-eqb k k refl
signal_same (Trip k) = eq-eqb k k refl

-- ---- one source

module _ (line : Line) (script : Script) (h : History) (plain : is_plain_name script.name ≡ true) where
  read_back : (signal : Signal) → Contains (signals_of line) signal → IsReadBack line script h signal
  read_back signal there =
      let k : ℕ = there.0 in
      subst (IsReadBack line script h) there.2
      (plays_are_read_back line script h plain k signal there.1)

  own_levels : (p : PlacedValues) (levels : List Bool) → IsOwnSource line script h p
      → AreLevels p.files p.source.channel p.ticks levels
      → levels ≡ levels_meant line (level_of script h p.source.signal)
  own_levels p levels own are =
      (read_back p.source.signal own.there).only levels
      (subst (λ x. AreLevels x (id (id_of line p.source.signal)) (ticks_of line start) levels) own.files
      (subst (λ x. AreLevels p.files x (ticks_of line start) levels) own.channel
      (subst (λ x. AreLevels p.files p.source.channel x levels) own.ticks are)))

  own_track : (p : PlacedValues) (track : TrackValues) → IsOwnSource line script h p → IsTrack p track
      → (t : ℕ) → t < line.horizon → get_or track.levels t false ≡ level_of script h p.source.signal t
  own_track p track own is t early =
      let level = level_of script h p.source.signal in
      ap (λ (l : List Bool). get_or l t false)
      (is.turns ∙ ap (λ (b : Bool). turned b is.levels) own.plain ∙ own_levels p is.levels own is.are)
      ∙ get_or-map-range_with_len level 0 line.horizon t t false early (omega arith)

  -- a source tells its own signal, and no other
  tells_own : (p : PlacedValues) (track : TrackValues) → IsOwnSource line script h p → IsTrack p track
      → (signal : Signal) (t : ℕ) → t < line.horizon → p.source.signal ≡ signal
      → tells signal t track ≡ level_of script h signal t
  tells_own p track own is signal t early same =
      let named : same_signal track.signal signal ≡ true =
      ap (λ (s : Signal). same_signal s signal) (is.signal ∙ same) ∙ signal_same signal in
      rw named (own_track p track own is t early ∙ ap (λ (s : Signal). level_of script h s t) same)

  tells_at_most : (p : PlacedValues) (track : TrackValues) → IsOwnSource line script h p → IsTrack p track
      → (signal : Signal) (t : ℕ) → t < line.horizon → level_of script h signal t ≡ false
      → tells signal t track ≡ false
  tells_at_most p track own is signal t early off = elim (cases_Bool (same_signal track.signal signal)) [
    | inl named ↦ (
        let same : p.source.signal ≡ signal = sym is.signal ∙ signal_is track.signal signal named in
        tells_own p track own is signal t early same ∙ off)
    | inr other ↦ rw other refl
  ]

  off_everywhere : (placed : List PlacedValues) (tracks : List TrackValues)
      → All (IsOwnSource line script h) placed → AreTracks placed tracks → (signal : Signal) (t : ℕ)
      → t < line.horizon → level_of script h signal t ≡ false → is_on tracks signal t ≡ false
  off_everywhere [] [] own are signal t early off = refl
  off_everywhere [] (x ∷ tracks) own are signal t early off = absurd are
  off_everywhere (p ∷ placed) [] own are signal t early off = absurd are
  off_everywhere (p ∷ placed) (x ∷ tracks) own are signal t early off =
      rw (tells_at_most p x (All-head (IsOwnSource line script h) p placed own) are.0 signal t early off)
      (off_everywhere placed tracks (All-tail (IsOwnSource line script h) p placed own) are.1 signal t early off)

  on_there : (placed : List PlacedValues) (tracks : List TrackValues)
      → All (IsOwnSource line script h) placed → AreTracks placed tracks → (signal : Signal) (t : ℕ)
      → t < line.horizon → level_of script h signal t ≡ true → (k : ℕ) (q : PlacedValues) → k < length placed
      → get_or placed k q ≡ q → q.source.signal ≡ signal → is_on tracks signal t ≡ true
  on_there [] [] own are signal t early on k q within at same = absurd (omega arith)
  on_there [] (x ∷ tracks) own are signal t early on k q within at same = absurd are
  on_there (p ∷ placed) [] own are signal t early on k q within at same = absurd are
  on_there (p ∷ placed) (x ∷ tracks) own are signal t early on zero q within at same =
      let mine : p.source.signal ≡ signal = ap (λ (s : PlacedValues). s.source.signal) at ∙ same in
      rw (tells_own p x (All-head (IsOwnSource line script h) p placed own) are.0 signal t early mine ∙ on) refl
  on_there (p ∷ placed) (x ∷ tracks) own are signal t early on (suc k) q within at same =
      or_right (tells signal t x) (is_on tracks signal t)
      (on_there placed tracks (All-tail (IsOwnSource line script h) p placed own) are.1 signal t early on k q
      (omega arith) at same)

  refused_so : (placed : List PlacedValues) (i : ℕ) (why : RecordFault)
      → All (IsOwnSource line script h) placed → ¬ FailsAt placed i why
  refused_so [] i why own fails = fails
  refused_so (p ∷ placed) zero why all fails =
      let own = All-head (IsOwnSource line script h) p placed all in
      (read_back p.source.signal own.there).accepted why
      (subst (λ x. IsRefused x (id (id_of line p.source.signal)) (ticks_of line start) why) own.files
      (subst (λ x. IsRefused p.files x (ticks_of line start) why) own.channel
      (subst (λ x. IsRefused p.files p.source.channel x why) own.ticks fails)))
  refused_so (p ∷ placed) (suc i) why all fails =
      refused_so placed i why (All-tail (IsOwnSource line script h) p placed all) fails.2

pub plays_are_told : PlaysAreTold
plays_are_told line script h plain placed tracks own are signal t early there =
    elim (cases_Bool (level_of script h signal t)) [
      | inl on ↦ on_there line script h plain placed tracks own are signal t early on there.0 there.1
          there.2 there.3 there.4 ∙ sym on
      | inr off ↦ off_everywhere line script h plain placed tracks own are signal t early off ∙ sym off
    ]

pub plays_are_accepted : PlaysAreAccepted
plays_are_accepted line script h plain placed i why own fails =
    refused_so line script h plain placed i why own fails
