-- What is shown at the least lengths of a part, tick by tick.
use Rattle.std.specs.Prelude.{◌≡◌, ℕ, List, [], ◌∷◌, length, get_or, nat_lt, if◌then◌else◌}
use Rattle.std.specs.List.{flat_map}
use Rattle.model_history.specs.Rails.{Ends, single}
use Rattle.model_line.specs.Seen.{is_seen, is_lost}
use Rattle.model_line.specs.declared.script.{Place.Place, SeenSpan.SeenSpan}
use Rattle.model_borders.specs.Borders.{earliest_alone, shown_at, stands}
use Rattle.model_borders.specs.declared.script.{Border.Border, LooseScript.LooseScript, LooseSpan.LooseSpan}

-- the least of each length
unfoldable pub least_lengths : List Ends → ℕ → ℕ
least_lengths part i = (get_or part i (single 0)).least

-- the tick at which a border stands there
abbrev pub least_tick : List Border → List Ends → ℕ → ℕ
least_tick borders part b = stands 1 borders (length part) (least_lengths part) b

-- these spans show at each tick what is shown there
pub record ShowTheLeast (script : LooseScript) (part : List Ends) (spans : List SeenSpan) : Type 0 where
  pub seen : (p : Place) (t : ℕ) → is_seen spans p t
      ≡ (shown_at 1 script (length part) (least_lengths part)).seen p t
  pub lost : (c t : ℕ) → is_lost spans c t
      ≡ (shown_at 1 script (length part) (least_lengths part)).lost c t

-- ---- the spans that do

-- a span from its first border on before its last
abbrev pub least_span : List Border → List Ends → LooseSpan → SeenSpan
least_span borders part span = record {
  what = span.what;
  from = earliest_alone borders part span.from;
  to = earliest_alone borders part span.to;
}

-- it, if it holds a tick
abbrev pub with_tick : SeenSpan → List SeenSpan
with_tick span = if nat_lt span.from span.to then span ∷ [] else []

abbrev pub least_spans : List Border → List Ends → List LooseSpan → List SeenSpan
least_spans borders part spans = flat_map (λ span. with_tick (least_span borders part span)) spans
