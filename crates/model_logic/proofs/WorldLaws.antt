-- The worlds of a line at a choice and over a box: their delays are at least 1 where those are.
use Rattle.std.proofs.Common.{◌≡◌, ℕ, ◌<◌, ◌≤◌, List, refl}
use Rattle.std.specs.Prelude.{get_or}
use Rattle.model_history.specs.Rails.{single}
use Rattle.model_line.specs.Parameters.{channel_count, delay_param}
use Rattle.model_line.specs.{declared.script.Script.Script, declared.line.Line.Line}
use Rattle.model_logic.specs.declared.time.Time.TheVariants.{Zero, Param}
use Rattle.model_logic.specs.Choice.{Choice, DelaysFromOne, steady_choice}
use Rattle.model_logic.specs.Choice.{point_box, time_by, ends_by, world_of, pair_world_of}
use Rattle.model_logic.specs.{Solution.IsDelayed, Covering.IsSameWorld}
use Rattle.model_logic.specs.{declared.time.Time.Time, PairMean.singles}

pub world_delayed : (line : Line) (script : Script) (choice : Choice) → DelaysFromOne line choice
    → IsDelayed line (singles (world_of line script choice))
unfolding world_of
world_delayed line script choice d = record { from = line.pairs_once.from; later = d }

same_time : (number : ℕ → ℕ) (x : Time)
    → ends_by (λ i. single (number i)) x ≡ single (time_by number x)
same_time number Zero = refl
same_time number (Param i) = refl

-- the world over a choice's own box is the choice's, as pairs
pub point_world : (line : Line) (script : Script) (choice : Choice)
    → IsSameWorld line (pair_world_of line script (point_box choice))
    (singles (world_of line script choice))
unfolding pair_world_of world_of
point_world line script choice = record {
  seen = λ p t. refl;
  lost = λ c t. refl;
  from = λ c. refl;
  delay = λ c t lt early. refl;
  time = λ x has. same_time choice.number x;
}

-- the numbers of a list are at least 1 where its delays are
pub steady_delays : (line : Line) (values : List ℕ)
    → ((c : ℕ) → c < channel_count line → 1 ≤ get_or values (delay_param line c) 0)
    → DelaysFromOne line (steady_choice line values)
unfolding steady_choice
steady_delays line values d c t lt early = d c lt
