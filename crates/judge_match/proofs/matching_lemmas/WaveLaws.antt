-- The waves that a record's changes give are of the horizon's length, and known at every tick.
use Rattle.std.proofs.Common.{◌≡◌, ◌<◌, ℕ, Bool, true, false, List, [], ◌∷◌, length, get_or, map}
use Rattle.std.proofs.Common.{refl, sym, ◌∙◌, ap, subst, arith}
use Rattle.std.proofs.lemmas.List.{get_or-map}
use Rattle.std.proofs.lemmas.List.Elements.{All-nil, All-cons}
use Rattle.std.proofs.lemmas.List.FromFn.{length-map-range_with_len, get_or-map-range_with_len}
use Rattle.std.specs.List.{All}
use Rattle.model_history.specs.Rails.{Rails, both}
use Rattle.run_signal.specs.declared.tern.Tern.{Tern}
use Rattle.run_signal.specs.{declared.tern.Tern.TheVariants.Zero, Terns.tern_rails}
use Rattle.model_line.specs.{declared.line.Line.Line, Parameters.terminal_count}
use Rattle.run_waves.specs.waves.Waves.{wave_at, AreWaves}
use Rattle.run_waves.specs.derived.Claims.{pairs_of}
use Rattle.judge_match.specs.declared.matching.change.Change.{Change}
use Rattle.judge_match.specs.{declared.matching.seen.Seen.Seen, matching.Seen.AreSeen, matching.Heads.HeadValues}
use Rattle.judge_match.specs.{matching.Heads.level_by, matching.Waves.SeenValues, matching.Waves.seen_values, matching.Waves.seen_of}
use Rattle.judge_match.specs.{matching.Waves.known_level, matching.Waves.tern_by, matching.Waves.wave_of, matching.Waves.waves_of}

known_rails : (b : Bool) → tern_rails (known_level b) ≡ both b
known_rails true = refl
known_rails false = refl

module _ (line : Line) (changes : List Change) (trip : Bool) where
  wave_is : (k : ℕ) → k < terminal_count line
      → get_or (waves_of line changes trip) k [] ≡ wave_of line.horizon changes trip k
  wave_is k kn =
      get_or-map-range_with_len (wave_of line.horizon changes trip) 0 (terminal_count line) k k []
      kn (omega arith)

  pub are_waves : AreWaves (terminal_count line) line.horizon (waves_of line changes trip)
  are_waves = record {
    many = length-map-range_with_len (wave_of line.horizon changes trip) 0 (terminal_count line);
    long = λ k kn.
        ap length (wave_is k kn)
        ∙ length-map-range_with_len (tern_by changes trip k) 0 line.horizon;
  }

  value_is : (k t : ℕ) → t < line.horizon
      → wave_at (wave_of line.horizon changes trip k) t ≡ both (level_by k trip t changes false)
  value_is k t lt =
      let wave = wave_of line.horizon changes trip k in
      let inside : t < length wave =
      (let long = length-map-range_with_len (tern_by changes trip k) 0 line.horizon in
      omega arith) in
      get_or-map tern_rails wave t Zero (both false) inside
      ∙ ap tern_rails
      (get_or-map-range_with_len (tern_by changes trip k) 0 line.horizon t t Zero lt (omega arith))
      ∙ known_rails (level_by k trip t changes false)

  -- the pair of a wave at a tick is that of its level
  pub known : (k t : ℕ) → k < terminal_count line → t < line.horizon
      → pairs_of (waves_of line changes trip) k t
      ≡ both (pairs_of (waves_of line changes trip) k t).must
  known k t kn lt =
      let here = ap (λ (w : List Tern). wave_at w t) (wave_is k kn) ∙ value_is k t lt in
      here ∙ sym (ap (λ (r : Rails). both r.must) here)

keys_are : (line : Line) (seen : Seen) (head : HeadValues) → seen_values seen ≡ seen_of line head
    → seen.keys.items ≡ waves_of line head.changes false
keys_are line seen head e = ap (λ (s : SeenValues). s.keys) e

trips_are : (line : Line) (seen : Seen) (head : HeadValues) → seen_values seen ≡ seen_of line head
    → seen.trips.items ≡ waves_of line head.changes true
trips_are line seen head e = ap (λ (s : SeenValues). s.trips) e

-- what was seen under a head is a record
pub head_is_seen : (line : Line) (seen : Seen) (head : HeadValues)
    → seen_values seen ≡ seen_of line head → AreSeen line seen
head_is_seen line seen head e =
    let keys = sym (keys_are line seen head e) in
    let trips = sym (trips_are line seen head e) in
    record {
      keys =
          subst (λ (ws : List (List Tern)). AreWaves (terminal_count line) line.horizon ws) keys
          (are_waves line head.changes false);
      trips =
          subst (λ (ws : List (List Tern)). AreWaves (terminal_count line) line.horizon ws) trips
          (are_waves line head.changes true);
      known_keys = λ k t kn lt.
          subst (λ (ws : List (List Tern)). pairs_of ws k t ≡ both (pairs_of ws k t).must) keys
          (known line head.changes false k t kn lt);
      known_trips = λ k t kn lt.
          subst (λ (ws : List (List Tern)). pairs_of ws k t ≡ both (pairs_of ws k t).must) trips
          (known line head.changes true k t kn lt);
    }

-- so is what was seen under each
pub heads_are_seen : (line : Line) (all : List Seen) (heads : List HeadValues)
    → map seen_values all ≡ map (seen_of line) heads → All (λ s. AreSeen line s) all
heads_are_seen line [] heads e = All-nil (λ s. AreSeen line s)
heads_are_seen line (s ∷ all) [] e = absurd (cc)
heads_are_seen line (s ∷ all) (h ∷ heads) e =
    let one : seen_values s ≡ seen_of line h = cc in
    let rest : map seen_values all ≡ map (seen_of line) heads = cc in
    All-cons (λ s. AreSeen line s) s all (head_is_seen line s h one)
    (heads_are_seen line all heads rest)
