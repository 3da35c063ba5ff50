-- Why a fault has no scripts.
use Rattle.std.proofs.Common.{◌≡◌, ◌<◌, ℕ, Bool, true, false, cond, None, Some}
use Rattle.model_line.specs.{declared.line.Line.Line, PlainNames.is_plain_name}
use Rattle.std.specs.Prelude.{nat_le}
use Rattle.base_memory.specs.{Gives.OfFault, declared.stopped.Stopped.Stopped}
use Rattle.base_memory.specs.declared.stopped.Stopped.TheVariants as stopped
use Rattle.file_study.specs.study.Faults.{FaultValues}
use Rattle.file_study.specs.sweeps.Choices.{choice_of, horizon_for}
use Rattle.file_study.specs.{sweeps.Scripts.script_of, sweeps.Sweeps.count_of, sweeps.Sweeps.script_name}
use Rattle.file_study.specs.sweeps.Refusals.{IsRefused, choice_refusal, horizon_of, is_of_line}
use Rattle.file_study.specs.declared.sweeps.fault.SweepFault.{SweepFault}
use Rattle.file_study.specs.declared.sweeps.fault.SweepFault.TheVariants as fault

not_for_count : (plain within stands : Bool) (k ticks us : ℕ)
    → cond plain
    (cond within (cond stands None (Some (fault.NoFit k))) (Some (fault.Horizon k ticks us)))
    (Some (fault.BadName k))
    ≡ Some fault.TooMany → ⊥
not_for_count true true true k ticks us e = cc
not_for_count true true false k ticks us e = cc
not_for_count true false stands k ticks us e = cc
not_for_count false within stands k ticks us e = cc

-- the first choice that has no script
refused_for : (line : Line) (f : FaultValues) (n k : ℕ) (why : SweepFault)
    → count_of f ≡ Some n → k < n → ((j : ℕ) → j < k → choice_refusal line f n j ≡ None)
    → choice_refusal line f n k ≡ Some why → IsRefused line f why
refused_for line f n k fault.TooMany count within before here =
    absurd (not_for_count (is_plain_name (script_name f n k))
    (nat_le (horizon_for (choice_of f k)) line.horizon)
    (is_of_line line (script_of (script_name f n k) f (choice_of f k)))
    k (horizon_of f) line.tick_us here)
refused_for line f n k (fault.BadName j) count within before here =
    record { n = n; k = k; count = count; within = within; here = here; before = before }
refused_for line f n k (fault.Horizon j ticks us) count within before here =
    record { n = n; k = k; count = count; within = within; here = here; before = before }
refused_for line f n k (fault.NoFit j) count within before here =
    record { n = n; k = k; count = count; within = within; here = here; before = before }

pub refused_at : (line : Line) (f : FaultValues) (n k : ℕ) (why : Stopped SweepFault)
    → count_of f ≡ Some n → k < n → ((j : ℕ) → j < k → choice_refusal line f n j ≡ None)
    → OfFault (λ told. choice_refusal line f n k ≡ Some told) why
    → OfFault (IsRefused line f) why
refused_at line f n k (stopped.Fault told) count within before here =
    refused_for line f n k told count within before here
refused_at line f n k stopped.Memory count within before here = tt
