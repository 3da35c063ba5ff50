-- What is wrong with the words of an axis, in words.
use Rattle.std.specs.Prelude.{ℕ, List, codes}
use Rattle.file_document.specs.declared.time_fault.TimeFault.{TimeFault}
use Rattle.file_document.specs.declared.time_fault.TimeFault.TheVariants as time
use Rattle.file_study.specs.declared.times.{axis_fault.AxisFault.AxisFault, axis_fault.Part.Part}
use Rattle.file_study.specs.declared.times.axis_fault.AxisFault.TheVariants as fault
use Rattle.file_study.specs.declared.times.axis_fault.Part.TheVariants as part

abbrev pub part_words : Part → List ℕ
part_words part.First = codes "FROM: "
part_words part.Last = codes "TO: "
part_words part.Step = codes "STEP: "

abbrev pub time_words : TimeFault → List ℕ
time_words (time.NoValue place) = codes "a tolerance has no time before it"
time_words (time.NoNumber place) = codes "no number, as 8 or 1.25"
time_words (time.TooManyDigits place) = codes "a number has more than nine digits"
time_words (time.NoUnit place) = codes "a unit is missing: all three have one, or none has"
time_words (time.UnknownUnit place) = codes "no unit: us, ms and s are"
time_words (time.NoFrequency place) = codes "cycles are no unit here: us, ms and s are"
time_words (time.Order place) = codes "the second end is below the first"
time_words (time.NoStep place) = codes "the step is 0"
time_words (time.Surplus place) = codes "something stands behind the time"

abbrev pub what_words : AxisFault → List ℕ
what_words fault.NoEquals = codes "no `=`: write P=FROM..TO:STEP"
what_words (fault.Unknown number) = codes " of the list stands for no parameter of the line"
what_words fault.NoLast = codes "no `..`: write P=FROM..TO:STEP"
what_words fault.NoStep = codes "no `:`: write P=FROM..TO:STEP"
what_words (fault.NoTicks part) = codes "no number of ticks; a time has a unit, as 8 ms"
what_words (fault.BadTime part why) = time_words why
what_words (fault.NoInstant part) = codes "one time is needed, no interval"
what_words (fault.Beyond part) = codes "more than 4000 ticks"
what_words (fault.OffGrid part) = codes "no whole number of ticks"
what_words fault.Order = codes "FROM is after TO"
what_words fault.StepOfZero = codes "the step is 0"
