-- Results, by cases.
use Rattle.std.proofs.Common.{OnOk, Result, Ok, Err}
use Rattle.call_answer.specs.declared.done.Done.{Done}
use Rattle.base_text.specs.declared.store.sink.PutFailed.{PutFailed}
use Rattle.base_memory.specs.declared.stopped.Stopped.{Stopped}
use Rattle.call_files.specs.Status.{ended}

-- what follows, where there is a value
pub on_ok : {X Fault P Q : Type 0} (r : Result X Fault) → (P → Q) → OnOk r P → OnOk r Q
on_ok (Ok x) then p = then p
on_ok (Err e) then p = tt

-- what holds in any case holds where there is a value
pub if_ok : {X Fault P : Type 0} (r : Result X Fault) → P → OnOk r P
if_ok (Ok x) p = p
if_ok (Err e) p = tt

-- what follows, where a command is done
pub on_done : {P Q : Type 0} (r : Result Done (Stopped PutFailed)) → (P → Q) → OnOk r P → OnOk (ended r) Q
on_done (Ok d) then p = then p
on_done (Err why) then p = tt
