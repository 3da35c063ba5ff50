-- What the records of a file of timings have said so far.
use Rattle.std.specs.Prelude.{◌≡◌, ◌<◌, ◌++◌, ℕ, List, [], ◌∷◌, Option, None, Some, option_map}
use Rattle.std.specs.Prelude.{length, map, slice_set}
use Rattle.model_line.specs.{declared.line.Line.Line, Intervals.leasts, Parameters.param_count}
use Rattle.model_timing.specs.NamedValues.{NamedValues, values_of}
use Rattle.model_timing.specs.Timing.{TimingValues, with_step}
use Rattle.file_tables.specs.declared.timing.named.Named.{Named}
use Rattle.file_tables.specs.declared.timing.named.Named.TheVariants as named
use Rattle.file_tables.specs.declared.timing.reading.Reading.{Reading}
use Rattle.file_tables.specs.declared.timing.reading.Open.{Open}

-- the latest timing, and the parameters that its rows have set
pub record OpenTiming : Type 0 where
  pub name : List ℕ
  pub timing : TimingValues
  pub given : List ℕ

abbrev pub closed : OpenTiming → NamedValues
closed t = record { name = t.name; timing = t.timing }

-- the timings that are finished, and the latest, to which a row adds
pub record TimingsSoFar : Type 0 where
  pub done : List NamedValues
  pub latest : Option OpenTiming

abbrev pub one_or_none : Option OpenTiming → List NamedValues
one_or_none None = []
one_or_none (Some t) = closed t ∷ []

-- all of them, in file order
abbrev pub all_timings : TimingsSoFar → List NamedValues
all_timings s = s.done ++ one_or_none s.latest

-- before the first row
abbrev pub no_timings : TimingsSoFar
no_timings = record { done = []; latest = None }

-- a timing opens with each parameter at its least, and no step
abbrev pub opened : Line → List ℕ → OpenTiming
opened line name = record {
  name = name;
  timing = record { values = leasts line.params.items; steps = [] };
  given = [];
}

-- a row sets a parameter, or adds a step, or does neither
abbrev pub with_row : OpenTiming → Named → ℕ → OpenTiming
with_row t named.Nothing value = t
with_row t (named.Number i) value = record t {
  timing = record t.timing { values = slice_set t.timing.values i value };
  given = t.given ++ i ∷ [];
}
with_row t (named.Step i from) value = record t {
  timing = record t.timing {
    steps = with_step (record { param = i; from = from; value = value }) t.timing.steps;
  };
}

-- what the code holds of them
abbrev pub open_of : Open → OpenTiming
open_of t = record {
  name = t.name;
  timing = record { values = t.values.items; steps = t.steps };
  given = t.given.items;
}

abbrev pub so_far_of : Reading → TimingsSoFar
so_far_of r = record { done = map values_of r.done.items; latest = option_map open_of r.latest }

-- a timing has one number for each parameter of the line
abbrev pub IsFull : Line → OpenTiming → Type 0
IsFull line t = length t.timing.values ≡ param_count line

-- a step that a row names has a place in the table of steps
abbrev pub IsPlaced : Named → Type 0
IsPlaced named.Nothing = Unit {0}
IsPlaced (named.Number i) = Unit {0}
IsPlaced (named.Step i from) = (i < 64) × (from < 4096)

-- what a row names is one of these; the line has at most 63 parameters and 4,000 ticks
abbrev pub IsNamedIn : Line → Named → Type 0
IsNamedIn line named.Nothing = Unit {0}
IsNamedIn line (named.Number i) = i < param_count line
IsNamedIn line (named.Step i from) = IsPlaced (named.Step i from)
