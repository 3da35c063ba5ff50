-- The interval history of a line over a box under assumptions.
use Rattle.std.specs.Prelude.{◌≡◌, ◌<◌, ◌≤◌, ℕ, Bool, IsFalse, List, Option, None}
use Rattle.std.specs.Prelude.{Some, Contains}
use Rattle.model_history.specs.Rails.{Rails, both, rails_not, rails_and, rails_or, rails_timed}
use Rattle.model_history.specs.Rails.{rails_sealed, rails_delayed}
use Rattle.model_line.specs.{declared.line.Line.Line, declared.script.Script.Script}
use Rattle.model_line.specs.Parameters.{terminal_count}
use Rattle.model_logic.specs.Tree.{Tree, Const, Seen, Loss, Raw, Not, And, Or, Timer, Seal}
use Rattle.model_logic.specs.PairMean.{PairWorld, PairSignals}
use Rattle.model_logic.specs.Choice.{Box, pair_world_of}
use Rattle.model_logic.specs.Histories.{Everywhere, PairHistory}
use Rattle.model_logic.specs.Logic.{key_tree, trip_tree}
use Rattle.model_settle.specs.Assumed.{Assumption, Throughout, Span, wanted, assumed_level}

-- the level that is assumed, if one is, else the pair
abbrev pub assumed_or : Option Bool → Rails → Rails
assumed_or (Some v) own = both v
assumed_or None own = own

-- the pair of a tree at a tick: that of the interval rules, but a timer of which a level is assumed
-- at a tick has this level on both rails there, wherever it is read
unfoldable pub pair_under : (Tree → ℕ → Option Bool) → PairWorld → PairSignals → Tree → ℕ → Rails
pair_under level w keys (Const v) t = both v
pair_under level w keys (Seen p) t = w.seen p t
pair_under level w keys (Loss c) t = w.lost c t
pair_under level w keys (Raw c) t = rails_delayed (keys (w.from c)) (w.delay c t) t
pair_under level w keys (Not x) t = rails_not (pair_under level w keys x t)
pair_under level w keys (And x y) t =
    rails_and (pair_under level w keys x t) (pair_under level w keys y t)
pair_under level w keys (Or x y) t =
    rails_or (pair_under level w keys x t) (pair_under level w keys y t)
pair_under level w keys (Timer x p d) t =
    assumed_or (level (Timer x p d) t)
    (rails_timed (pair_under level w keys x) (w.time p) (w.time d) t)
pair_under level w keys (Seal a b) t =
    rails_sealed (pair_under level w keys a) (pair_under level w keys b) t

-- the pair that a tree has by its own rule, whatever is assumed of the tree itself
unfoldable pub own_pair : (Tree → ℕ → Option Bool) → PairWorld → PairSignals → Tree → ℕ → Rails
own_pair level w keys (Timer x p d) t =
    rails_timed (pair_under level w keys x) (w.time p) (w.time d) t
own_pair level w keys x t = pair_under level w keys x t

-- the interval history of a line under a script over a box, under assumptions
pub record IsPairHistoryUnder (line : Line) (script : Script) (box : Box)
    (assumed : List Assumption) (w : PairHistory) : Type 0 where
  pub keys : Everywhere line (λ k t.
      w.key k t ≡ pair_under (assumed_level line box assumed) (pair_world_of line script box) w.key
      (key_tree line k) t)
  pub trips : Everywhere line (λ k t.
      w.trip k t ≡ pair_under (assumed_level line box assumed) (pair_world_of line script box) w.key
      (trip_tree line k) t)

-- an echo is assumed to be wanted throughout a span, and over the interval history its own rule says
-- of a tick of the span that it cannot be
pub record SomeIsExcluded (line : Line) (script : Script) (box : Box) (assumed : List Assumption)
    (w : PairHistory) : Type 0 where
  pub span : Span
  pub is : Contains assumed (Throughout span)
  pub terminal : span.terminal < terminal_count line
  pub tick : ℕ
  pub from : span.from ≤ tick
  pub to : tick < span.to
  pub run : tick < line.horizon
  pub excluded : IsFalse (own_pair (assumed_level line box assumed)
      (pair_world_of line script box) w.key (wanted line span.terminal) tick).may
