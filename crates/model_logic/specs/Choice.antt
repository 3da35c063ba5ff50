-- Choices of every number that a line leaves open, boxes of such choices, and the worlds they make.
use Rattle.std.specs.Prelude.{◌≤◌, ◌<◌, ℕ, List, get_or}
use Rattle.model_history.specs.Rails.{Ends, both, single, IsPartOf}
use Rattle.model_line.specs.Parameters.{channel_count, param_count, delay_param, declared_ends}
use Rattle.model_line.specs.Seen.{is_seen, is_lost}
use Rattle.model_line.specs.Channels.{from_of}
use Rattle.model_line.specs.{declared.script.Script.Script, declared.line.Line.Line}
use Rattle.model_logic.specs.declared.time.Time.TheVariants.{Zero, Param}
use Rattle.model_logic.specs.{declared.time.Time.Time, Mean.World, PairMean.PairWorld}

-- one number for each parameter, and for each channel, at every tick, the delay that the signal
-- arriving at that tick has had
pub record Choice : Type 0 where
  pub number : ℕ → ℕ
  pub delay : ℕ → ℕ → ℕ

-- one interval for each parameter, and for each channel one at every tick
pub record Box : Type 0 where
  pub ends : ℕ → Ends
  pub delay : ℕ → ℕ → Ends

-- the number lies in the interval
pub record IsIn (n : ℕ) (ends : Ends) : Type 0 where
  pub least : ends.least ≤ n
  pub greatest : n ≤ ends.greatest

-- each number of the choice lies in its interval of the box, at every tick
pub record IsWithin (line : Line) (choice : Choice) (box : Box) : Type 0 where
  pub numbers : (i : ℕ) → i < param_count line → IsIn (choice.number i) (box.ends i)
  pub delays : (c t : ℕ) → c < channel_count line → t < line.horizon
      → IsIn (choice.delay c t) (box.delay c t)

-- each interval of the inner box is part of the outer box's, at every tick
pub record IsBoxWithin (line : Line) (inner outer : Box) : Type 0 where
  pub numbers : (i : ℕ) → i < param_count line → IsPartOf (inner.ends i) (outer.ends i)
  pub delays : (c t : ℕ) → c < channel_count line → t < line.horizon
      → IsPartOf (inner.delay c t) (outer.delay c t)

-- each delay of the choice is at least 1, at every tick
abbrev pub DelaysFromOne : Line → Choice → Type 0
DelaysFromOne line choice =
    (c t : ℕ) → c < channel_count line → t < line.horizon → 1 ≤ choice.delay c t

-- each delay's least of the box is at least 1, at every tick
abbrev pub LeastFromOne : Line → Box → Type 0
LeastFromOne line box =
    (c t : ℕ) → c < channel_count line → t < line.horizon → 1 ≤ (box.delay c t).least

-- the box of the declared intervals, the same at every tick
unfoldable pub declared_box : Line → Box
declared_box line = record {
  ends = declared_ends line;
  delay = λ c t. declared_ends line (delay_param line c);
}

-- the choice is inside the declared intervals
abbrev pub IsInside : Line → Choice → Type 0
IsInside line choice = IsWithin line choice (declared_box line)

-- the box of one choice alone
abbrev pub point_box : Choice → Box
point_box choice = record {
  ends = λ i. single (choice.number i);
  delay = λ c t. single (choice.delay c t);
}

-- the choice of a list with one number for each parameter: each delay is the same at every tick
unfoldable pub steady_choice : Line → List ℕ → Choice
steady_choice line values = record {
  number = λ i. get_or values i 0;
  delay = λ c t. get_or values (delay_param line c) 0;
}

abbrev pub time_by : (ℕ → ℕ) → Time → ℕ
time_by number Zero = 0
time_by number (Param i) = number i

abbrev pub ends_by : (ℕ → Ends) → Time → Ends
ends_by ends Zero = single 0
ends_by ends (Param i) = ends i

-- a line and its script at a choice
unfoldable pub world_of : Line → Script → Choice → World
world_of line script choice = record {
  seen = is_seen script.spans.items;
  lost = is_lost script.spans.items;
  from = from_of line.channels.items;
  delay = choice.delay;
  time = time_by choice.number;
}

-- a line and its script over a box
unfoldable pub pair_world_of : Line → Script → Box → PairWorld
pair_world_of line script box = record {
  seen = λ p t. both (is_seen script.spans.items p t);
  lost = λ c t. both (is_lost script.spans.items c t);
  from = from_of line.channels.items;
  delay = box.delay;
  time = ends_by box.ends;
}
