-- A wider window shows what a narrower one shows.
use Rattle.std.proofs.Common.{◌≡◌, ◌≤◌, ◌∷◌, ℕ, Bool, true, false, List, [], arith, refl, subst, sym}
use Rattle.std.specs.Prelude.{◌==◌, ◌&&◌, nat_lt, if◌then◌else◌}
use Rattle.std.proofs.lemmas.Bool.{ltb-true}
use Rattle.std.proofs.lemmas.List.Elements.{All-weaker, All-nil, All-cons, All-append}
use Rattle.std.specs.List.{All, flat_map}
use Rattle.model_line.specs.declared.line.Line.{Line}
use Rattle.model_line.specs.Parameters.{channel_count, delay_param}
use Rattle.model_timing.specs.declared.step.Step.{Step}
use Rattle.model_plain.specs.declared.role.Role.{Role}
use Rattle.model_plain.specs.declared.role.Role.TheVariants as role
use Rattle.draw_run.specs.diagram.DelaySteps.{delay_steps, marks_of, role_marks, tick_of_step}
use Rattle.draw_shapes.specs.declared.rows.Rows.{Rows}
use Rattle.draw_run.specs.declared.diagram.trace.Trace.{Trace}
use Rattle.draw_run.specs.declared.diagram.trace.Trace.TheVariants.{Seen, Lost, Logic, Key, Trip}
use Rattle.model_history.specs.Rails.{Rails}
use Rattle.model_line.specs.declared.script.Script.{Script}
use Rattle.draw_run.specs.diagram.Traces.{ShownPairs}
use Rattle.draw_run.specs.declared.diagram.rows.Row.{Row}
use Rattle.draw_run.specs.diagram.Windows.{BeginsBelow, ChangesBelow, IsInWindow, IsTickBelow}
use Rattle.draw_run.specs.diagram.Windows.{IsChangeShown, IsShown, ShowsMore}
use Rattle.draw_run.specs.{diagram.Diagrams.IsMarkedRow, diagram.Stretches.AreStretches, diagram.Traces.trace_pair}
use Rattle.draw_run.specs.{declared.diagram.stretch.Stretch.Stretch, declared.diagram.window.Window.Window}

pub change_still_shown : (narrow wide : Window) → ShowsMore narrow wide → (s : Stretch)
    → IsChangeShown narrow s → IsChangeShown wide s
change_still_shown narrow wide wider s shown begins =
    let held = shown begins in (omega arith, omega arith)

pub marks_still_shown : (narrow wide : Window) → ShowsMore narrow wide → (marks : List ℕ)
    → All (IsInWindow narrow) marks → All (IsInWindow wide) marks
marks_still_shown narrow wide wider marks shown =
    All-weaker (IsInWindow narrow) (IsInWindow wide) (λ t held. (omega arith, omega arith)) marks shown

pub row_still_shown : (narrow wide : Window) → ShowsMore narrow wide → (row : Row)
    → IsShown narrow row → IsShown wide row
row_still_shown narrow wide wider row shown = (
  All-weaker (IsChangeShown narrow) (IsChangeShown wide) (change_still_shown narrow wide wider)
      row.stretches.items shown.0,
  marks_still_shown narrow wide wider row.marks.items shown.1,
)

-- stretches up to a tick begin below it
pub stretches_below : (pair : ℕ → Rails) (from : ℕ) (xs : List Stretch) (to : ℕ)
    → AreStretches pair from xs to → (from ≤ to) × All (BeginsBelow to) xs
stretches_below pair from [] to are = (omega arith, All-nil (BeginsBelow to))
stretches_below pair from (x ∷ xs) to are =
    let rest = stretches_below pair x.to xs to are.2 in
    let some = are.0.some in
    let begins = are.1 in
    let end = rest.0 in
    (omega arith, All-cons (BeginsBelow to) x xs (omega arith) rest.1)

-- the marks of a row are ticks of the run
steps_below : (param horizon : ℕ) (steps : List (Step ℕ))
    → All (IsTickBelow horizon) (flat_map (tick_of_step param horizon) steps)
steps_below param horizon [] = All-nil (IsTickBelow horizon)
steps_below param horizon (s ∷ rest) =
    All-append (IsTickBelow horizon) (tick_of_step param horizon s)
    (flat_map (tick_of_step param horizon) rest)
    (step_below (s.param == param) (nat_lt s.from horizon) refl)
    (steps_below param horizon rest)
  where
    step_below : (is below : Bool) → nat_lt s.from horizon ≡ below
        → All (IsTickBelow horizon) (if is && below then s.from ∷ [] else [])
    step_below true true e =
        All-cons (IsTickBelow horizon) s.from [] (ltb-true s.from horizon e)
        (All-nil (IsTickBelow horizon))
    step_below true false e = All-nil (IsTickBelow horizon)
    step_below false below e = All-nil (IsTickBelow horizon)

channel_below : (line : Line) (steps : List (Step ℕ)) (c : ℕ)
    → All (IsTickBelow line.horizon) (delay_steps line steps c)
channel_below line steps c = by_there (nat_lt c (channel_count line))
  where
    by_there : (there : Bool) → All (IsTickBelow line.horizon)
        (if there then flat_map (tick_of_step (delay_param line c) line.horizon) steps else [])
    by_there true = steps_below (delay_param line c) line.horizon steps
    by_there false = All-nil (IsTickBelow line.horizon)

marks_below : (line : Line) (steps : List (Step ℕ)) (trace : Trace)
    → All (IsTickBelow line.horizon) (marks_of line steps trace)
marks_below line steps (Seen place) = All-nil (IsTickBelow line.horizon)
marks_below line steps (Lost c) = All-nil (IsTickBelow line.horizon)
marks_below line steps (Logic what gate) = by_role what
  where
    none : All (IsTickBelow line.horizon) []
    none = All-nil (IsTickBelow line.horizon)

    by_role : (what : Role) → All (IsTickBelow line.horizon) (role_marks line steps what)
    by_role (role.Seen place) = none
    by_role (role.Timed place) = none
    by_role (role.Lost c) = none
    by_role (role.Raw c) = none
    by_role (role.Received c) = channel_below line steps c
    by_role (role.Window c) = none
    by_role (role.Lockout c) = none
    by_role (role.Guard k) = none
    by_role (role.Coordination k) = none
    by_role (role.Echo k) = none
    by_role (role.Permission k) = none
    by_role (role.AnyReceived k) = none
marks_below line steps (Key k) = All-nil (IsTickBelow line.horizon)
marks_below line steps (Trip k) = All-nil (IsTickBelow line.horizon)

pub row_below : (line : Line) (script : Script) (w : ShownPairs) (steps : List (Step ℕ))
    (which : Rows) (row : Row) → IsMarkedRow line script w steps which row
    → ChangesBelow line.horizon row
row_below line script w steps which row is = (
  (stretches_below (trace_pair script w row.trace) 0 row.stretches.items line.horizon
      is.stretches).1,
  subst (All (IsTickBelow line.horizon)) (sym is.marks) (marks_below line steps row.trace),
)
