-- A timing under its name.
use Rattle.std.specs.Prelude.{ℕ, List}
use Rattle.model_timing.specs.{declared.named_timing.NamedTiming.NamedTiming, Timing.TimingValues}

pub record NamedValues : Type 0 where
  pub name : List ℕ
  pub timing : TimingValues

abbrev pub values_of : NamedTiming → NamedValues
values_of t = record { name = t.name; timing = t.timing }
