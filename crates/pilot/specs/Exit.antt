-- The exit status that each answer of the top call is.
use Rattle.std.specs.Prelude.{ℕ}
use Rattle.call_files.specs.declared.stop.Status.{Status}
use Rattle.call_files.specs.declared.stop.Status.TheVariants.{Good, SomeNo, SomeUndecided, Rejected}
use Rattle.call_files.specs.declared.stop.Status.TheVariants.{Usage, BadInput, StoreFault}
use Rattle.call_files.specs.declared.stop.Status.TheVariants.{SinkFault, Memory}

abbrev pub exit_number : Status → ℕ
exit_number Good = 0
exit_number SomeNo = 1
exit_number SomeUndecided = 2
exit_number Rejected = 3
exit_number Usage = 4
exit_number BadInput = 5
exit_number StoreFault = 6
exit_number SinkFault = 7
exit_number Memory = 8
