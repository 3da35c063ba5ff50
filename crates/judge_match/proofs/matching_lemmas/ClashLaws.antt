-- What the waves of gates allow.
use Rattle.std.proofs.Common.{◌≡◌, ◌<◌, ℕ, Bool, true, false, List, [], Option, Some, None, length}
use Rattle.std.proofs.Common.{get_or, refl, sym, ◌∙◌, ap, subst, arith}
use Rattle.std.specs.Prelude.{IsTrue, MatchOption}
use Rattle.model_history.specs.Rails.{Rails, Covers, RailsCover, both}
use Rattle.model_history.specs.RailLaws.{covers_both, both_covered}
use Rattle.run_signal.specs.declared.tern.Tern.{Tern}
use Rattle.model_line.specs.{declared.line.Line.Line, declared.script.Script.Script}
use Rattle.model_line.specs.Parameters.{terminal_count}
use Rattle.model_logic.specs.{PairMean.pair_mean, Tree.Tree}
use Rattle.net_gates.specs.NetOf.{NetOf, IsNetOf, key_of, trip_of}
use Rattle.run_waves.specs.waves.Waves.{wave_at}
use Rattle.run_waves.specs.derived.Claims.{AreGateWaves, pairs_of, declared_world}
use Rattle.judge_match.specs.matching.Signal.{CoversAt, IsSignalClash, IsSignalChecked}
use Rattle.judge_match.specs.matching.Clash.{level_at, derived_at, IsAllowed, IsSignalAllowed}
use Rattle.judge_match.specs.matching.Clash.{IsTerminalAllowed, IsTerminalClash, IsFirstClash}
use Rattle.judge_match.specs.{declared.matching.seen.Seen.Seen, declared.matching.clash.Clash.Clash, matching.Seen.AreSeen}

allows : (x y z : Rails) (v : Bool) → x ≡ z → y ≡ both v → RailsCover x y → Covers z v
allows x y z v e f cover =
    both_covered z v
    (subst (λ (r : Rails). RailsCover z r) f (subst (λ (r : Rails). RailsCover r y) e cover))

allowed_covers : (x y z : Rails) (v : Bool) → x ≡ z → y ≡ both v → Covers z v → RailsCover x y
allowed_covers x y z v e f cover =
    subst (λ (r : Rails). RailsCover r y) (sym e)
    (subst (λ (r : Rails). RailsCover z r) (sym f) (covers_both z v cover))

-- the gate of a terminal's key, and of its trip
abbrev pub gate_of : NetOf → Bool → ℕ → ℕ
gate_of net false k = key_of net k
gate_of net true k = trip_of net k

-- the wave that was seen of a terminal's key, and of its trip
abbrev pub seen_wave : Seen → Bool → ℕ → List Tern
seen_wave seen false k = get_or seen.keys.items k []
seen_wave seen true k = get_or seen.trips.items k []

module _ (line : Line) (script : Script) (net : NetOf) (seen : Seen) (waves : List (List Tern))
    (of_line : IsNetOf line net) (are : AreSeen line seen)
    (derived : AreGateWaves line script net.gates (pairs_of seen.keys.items) waves) where
  abbrev gate_wave : Bool → ℕ → List Tern
  gate_wave trip k = get_or waves (gate_of net trip k) []

  gate_within : (trip : Bool) (k : ℕ) → k < terminal_count line
      → gate_of net trip k < length net.gates
  gate_within false k kn =
      let count = of_line.terminals in of_line.laws.keys k (omega arith)
  gate_within true k kn =
      let count = of_line.terminals in
      let same = of_line.laws.same in
      of_line.laws.trips k (omega arith)

  pair_is : (trip : Bool) (k t : ℕ) → k < terminal_count line → t < line.horizon
      → wave_at (gate_wave trip k) t ≡ derived_at line script seen trip k t
  pair_is false k t kn lt =
      (derived.each (key_of net k) (gate_within false k kn)).values t lt
      ∙ ap (λ (x : Tree). pair_mean (declared_world line script) (pairs_of seen.keys.items) x t)
      (of_line.keys k kn)
  pair_is true k t kn lt =
      (derived.each (trip_of net k) (gate_within true k kn)).values t lt
      ∙ ap (λ (x : Tree). pair_mean (declared_world line script) (pairs_of seen.keys.items) x t)
      (of_line.trips k kn)

  level_is : (trip : Bool) (k t : ℕ) → k < terminal_count line → t < line.horizon
      → wave_at (seen_wave seen trip k) t ≡ both (level_at seen trip k t)
  level_is false k t kn lt = are.known_keys k t kn lt
  level_is true k t kn lt = are.known_trips k t kn lt

  level_must : (trip : Bool) (k t : ℕ) → (wave_at (seen_wave seen trip k) t).must
      ≡ level_at seen trip k t
  level_must false k t = refl
  level_must true k t = refl

  long : (trip : Bool) (k : ℕ) → k < terminal_count line
      → length (gate_wave trip k) ≡ line.horizon
  long trip k kn = (derived.each (gate_of net trip k) (gate_within trip k kn)).long

  allowed_at : (trip : Bool) (k t : ℕ) → k < terminal_count line → t < line.horizon
      → CoversAt (gate_wave trip k) (seen_wave seen trip k) t → IsAllowed line script seen trip k t
  allowed_at trip k t kn lt =
      allows (wave_at (gate_wave trip k) t) (wave_at (seen_wave seen trip k) t)
      (derived_at line script seen trip k t) (level_at seen trip k t) (pair_is trip k t kn lt)
      (level_is trip k t kn lt)

  covered_at : (trip : Bool) (k t : ℕ) → k < terminal_count line → t < line.horizon
      → IsAllowed line script seen trip k t → CoversAt (gate_wave trip k) (seen_wave seen trip k) t
  covered_at trip k t kn lt =
      allowed_covers (wave_at (gate_wave trip k) t) (wave_at (seen_wave seen trip k) t)
      (derived_at line script seen trip k t) (level_at seen trip k t) (pair_is trip k t kn lt)
      (level_is trip k t kn lt)

  pub signal_allowed : (trip : Bool) (k : ℕ) → k < terminal_count line
      → ((t : ℕ) → t < length (gate_wave trip k)
      → CoversAt (gate_wave trip k) (seen_wave seen trip k) t)
      → IsSignalAllowed line script seen trip k
  signal_allowed trip k kn all t lt =
      let e = long trip k kn in
      allowed_at trip k t kn lt (all t (omega arith))

  pub signal_clashes : (trip : Bool) (k : ℕ) → k < terminal_count line
      → (IsTrue trip → IsSignalAllowed line script seen false k) → (c : Clash)
      → IsSignalClash (gate_wave trip k) (seen_wave seen trip k) k trip c
      → (c.terminal ≡ k) × IsTerminalClash line script seen k c.trip c.tick c.level c.derived
  signal_clashes trip k kn key_first c is =
      let e = long trip k kn in
      let inside = is.tick.inside in
      let lt : c.tick < line.horizon = omega arith in (
        is.terminal,
        subst (λ (b : Bool). IsTerminalClash line script seen k b c.tick c.level c.derived)
            (sym is.signal)
            (record {
              key_first = key_first;
              tick = record {
                inside = lt;
                fails = λ allowed. is.tick.fails (covered_at trip k c.tick kn lt allowed);
                before = λ r early.
                    allowed_at trip k r kn (omega arith) (is.tick.before r early);
              };
              seen_is = is.seen_is ∙ level_must trip k c.tick;
              derived_is = is.derived_is ∙ pair_is trip k c.tick kn lt;
            }),
      )

  -- what is told of the trip, where the key is allowed
  pub terminal_told : (k : ℕ) → k < terminal_count line
      → IsSignalAllowed line script seen false k → (o : Option Clash)
      → IsSignalChecked (gate_wave true k) (seen_wave seen true k) k true o
      → MatchOption o (IsTerminalAllowed line script seen k)
      (λ c. (c.terminal ≡ k) × IsTerminalClash line script seen k c.trip c.tick c.level c.derived)
  terminal_told k kn key None all = record {
    key = key;
    trip = signal_allowed true k kn all;
  }
  terminal_told k kn key (Some c) is = signal_clashes true k kn (λ on. key) c is

-- the first clash of a terminal is the first of all, where those before it are allowed
pub first_of_all : (line : Line) (script : Script) (seen : Seen) (k : ℕ) (c : Clash)
    → k < terminal_count line → ((j : ℕ) → j < k → IsTerminalAllowed line script seen j)
    → c.terminal ≡ k → IsTerminalClash line script seen k c.trip c.tick c.level c.derived
    → IsFirstClash line script seen c.terminal c.trip c.tick c.level c.derived
first_of_all line script seen k c kn before same clash =
    subst (λ (n : ℕ). IsFirstClash line script seen n c.trip c.tick c.level c.derived) (sym same)
    (record { terminal = kn; before = before; clash = clash })

-- two equal waves are checked alike
pub checked_same : (a b x y : List Tern) (k : ℕ) (trip : Bool) (o : Option Clash) → a ≡ x → b ≡ y
    → IsSignalChecked a b k trip o → IsSignalChecked x y k trip o
checked_same a b x y k trip o e f is =
    subst (λ (w : List Tern). IsSignalChecked w y k trip o) e
    (subst (λ (w : List Tern). IsSignalChecked a w k trip o) f is)
