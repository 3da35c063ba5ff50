-- The spans of a script that hold a tick, and those that begin later.
use Rattle.std.specs.Prelude.{◌≡◌, ◌<◌, ◌≤◌, ◌-◌, ◌++◌, ℕ, Bool, false, List, length}
use Rattle.std.specs.List.Sorted.{IsNonDecreasingBy}
use Rattle.model_history.specs.Rails.{both}
use Rattle.model_line.specs.Seen.{is_seen, is_lost}
use Rattle.model_line.specs.{declared.script.Place.Place, declared.script.SeenSpan.SeenSpan}
use Rattle.model_line.specs.Seen.{is_of_place, is_of_loss}
use Rattle.model_logic.specs.PairMean.{PairWorld}
use Rattle.net_gates.specs.declared.gate.Gate.{Gate}
use Rattle.net_gates.specs.declared.gate.Gate.TheVariants.{Const, Seen, Loss, Raw, Not, And, Or}
use Rattle.net_gates.specs.declared.gate.Gate.TheVariants.{Timer, Seal}
use Rattle.run_step.specs.Quiet.{ScriptKeeps}

-- at tick t the spans show and lose the same as all
pub record ShowTheSame (t : ℕ) (spans all : List SeenSpan) : Type 0 where
  pub seen : (p : Place) → is_seen spans p t ≡ is_seen all p t
  pub lost : (c : ℕ) → is_lost spans c t ≡ is_lost all c t

-- those that hold a tick, and those that begin later
pub record ShownSpans : Type 0 where
  pub present : List SeenSpan
  pub ahead : List SeenSpan

-- the others are over
abbrev pub not_over : ShownSpans → List SeenSpan
not_over s = s.present ++ s.ahead

-- the spans stand in order of their beginnings, so many of them have begun, and there is room for
-- all to be present
pub record AreInOrder (present : List SeenSpan) (capacity : ℕ) (ordered : List SeenSpan)
    (begun : ℕ) : Type 0 where
  pub rising : IsNonDecreasingBy (λ (s : SeenSpan). s.from) ordered
  pub inside : begun ≤ length ordered
  pub few : length present ≤ begun
  pub room : length ordered ≤ capacity

-- from tick t on those that are not over show and lose the same as all; until a tick those present
-- do, and all stays the same
pub record AreShown (all : List SeenSpan) (spans : ShownSpans) (t until : ℕ) : Type 0 where
  pub left : (r : ℕ) → t ≤ r → ShowTheSame r (not_over spans) all
  pub shown : (r : ℕ) → t ≤ r → r < until → ShowTheSame r spans.present all
  pub keeps : ScriptKeeps all t (until - t)

-- ---- gate by gate

-- the gate is of what the span shows or loses
abbrev pub is_shown_by : Gate → SeenSpan → Bool
is_shown_by (Const v) span = false
is_shown_by (Seen p) span = is_of_place p span.what
is_shown_by (Loss c) span = is_of_loss c span.what
is_shown_by (Raw c) span = false
is_shown_by (Not a) span = false
is_shown_by (And a b) span = false
is_shown_by (Or a b) span = false
is_shown_by (Timer a p d) span = false
is_shown_by (Seal a b) span = false

-- at tick t the spans show and lose what the gate is of, as the world does
abbrev pub IsShownAt : List SeenSpan → PairWorld → ℕ → Gate → Type 0
IsShownAt spans w t (Const v) = Unit {0}
IsShownAt spans w t (Seen p) = both (is_seen spans p t) ≡ w.seen p t
IsShownAt spans w t (Loss c) = both (is_lost spans c t) ≡ w.lost c t
IsShownAt spans w t (Raw c) = Unit {0}
IsShownAt spans w t (Not a) = Unit {0}
IsShownAt spans w t (And a b) = Unit {0}
IsShownAt spans w t (Or a b) = Unit {0}
IsShownAt spans w t (Timer a p d) = Unit {0}
IsShownAt spans w t (Seal a b) = Unit {0}

-- so it is at each tick
abbrev pub IsShown : List SeenSpan → PairWorld → Gate → Type 0
IsShown spans w gate = (t : ℕ) → IsShownAt spans w t gate
