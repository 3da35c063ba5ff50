-- How the end of a reader stops a call: a fault as a refusal, want of memory as such.
use Rattle.base_memory.specs.declared.stopped.Stopped.{Stopped}
use Rattle.base_memory.specs.declared.stopped.Stopped.TheVariants as stopped
use Rattle.call_files.specs.declared.refusal.Refusal.{Refusal}
use Rattle.call_files.specs.declared.stop.Stop.{Stop}
use Rattle.call_files.specs.declared.stop.Stop.TheVariants as stop

-- a refusal tells the fault
abbrev pub stop_by : {F : Type 0} → (F → Refusal) → Stopped F → Stop
stop_by told (stopped.Fault fault) = stop.Refused (told fault)
stop_by told stopped.Memory = stop.Memory
