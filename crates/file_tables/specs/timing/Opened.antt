-- What the code holds of the timings before a row's and of the row's own.
use Rattle.std.specs.Prelude.{map}
use Rattle.file_tables.specs.declared.timing.reading.Opened.{Opened}
use Rattle.model_timing.specs.NamedValues.{values_of}
use Rattle.file_tables.specs.{timing.SoFar.open_of, timing.Checks.Opening}

abbrev pub opening_of : Opened → Opening
opening_of x = record { done = map values_of x.done.items; timing = open_of x.timing }
