-- What is suspicious in a script.
use Rattle.std.specs.Prelude.{◌&&◌, ◌==◌, ◌-◌, ◌+◌, ℕ, Bool, true, false, List, length, not, nat_lt}
use Rattle.std.specs.Prelude.{if◌then◌else◌}
use Rattle.std.specs.List.{list_all}
use Rattle.model_history.specs.Elements.{every_below}
use Rattle.model_line.specs.declared.script.Kind.TheVariants.{Internal, External}
use Rattle.model_line.specs.{declared.script.Kind.Kind, declared.script.Script.Script}
use Rattle.model_line.specs.{declared.script.What.What, declared.script.SeenSpan.SeenSpan}
use Rattle.model_line.specs.declared.script.What.TheVariants as what
use Rattle.model_line.specs.declared.script.Element.TheVariants.{Cur}
use Rattle.model_line.specs.Seen.{is_seen, is_lost}
use Rattle.call_lint.specs.warnings.ElementTests.{is_shown_in}

-- what a span is of is there at t: the element is seen, the channel is lost
abbrev pub is_there : List SeenSpan → What → ℕ → Bool
is_there spans (what.Element place) t = is_seen spans place t
is_there spans (what.Loss channel) t = is_lost spans channel t

-- it is at t + 1 as it is at t
abbrev pub stays : List SeenSpan → What → ℕ → Bool
stays spans w t =
    if is_there spans w t then is_there spans w (t + 1) else not (is_there spans w (t + 1))

-- so is whatever some span is of
abbrev pub all_stay : List SeenSpan → ℕ → Bool
all_stay spans t = list_all (λ s. stays spans s.what t) spans

-- from the first tick to the last below the horizon nothing changes
abbrev pub nothing_changes : ℕ → List SeenSpan → Bool
nothing_changes horizon spans = every_below (all_stay spans) (horizon - 1)

abbrev pub is_internal : Kind → Bool
is_internal Internal = true
is_internal External = false

-- each span begins after the deadline
abbrev pub each_begins_after : ℕ → List SeenSpan → Bool
each_begins_after deadline spans = list_all (λ s. nat_lt deadline s.from) spans

-- and there is one
abbrev pub begins_after : ℕ → List SeenSpan → Bool
begins_after deadline spans = not (length spans == 0) && each_begins_after deadline spans

-- an internal fault whose deadline is before all that is seen of it
abbrev pub is_due_first : Script → Bool
is_due_first script = is_internal script.kind && begins_after script.deadline script.spans.items

-- an internal fault without current at terminal k
abbrev pub lacks_current : Script → ℕ → Bool
lacks_current script k =
    is_internal script.kind && not (is_shown_in (record { element = Cur; terminal = k }) script)
