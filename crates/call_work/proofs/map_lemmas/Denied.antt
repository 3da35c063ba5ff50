-- What is denied where a map is.
use Rattle.std.proofs.Common.{Result, Ok, Err}
use Rattle.judge_margins.specs.declared.map.axis.Axes.{Axes}
use Rattle.call_work.specs.declared.map.denial.MapDenial.{MapDenial}
use Rattle.base_memory.specs.declared.stopped.Stopped.{Stopped}
use Rattle.base_memory.specs.declared.stopped.Stopped.TheVariants as stopped

-- the denial, or another where there is none
abbrev pub denial_in : MapDenial → Result Axes (Stopped MapDenial) → MapDenial
denial_in other (Ok axes) = other
denial_in other (Err stopped.Memory) = other
denial_in other (Err (stopped.Fault why)) = why
