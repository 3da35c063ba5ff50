-- All warnings of a line and its scripts, in order: of the times by parameter, of the terminals, of
-- the scripts.
use Rattle.std.specs.Prelude.{◌++◌, ◌&&◌, ℕ, List, [], ◌∷◌, Option, Some, None, length, not, slice_get}
use Rattle.std.specs.List.{flat_map}
use Rattle.file_study.specs.declared.times.time.Interval.{Interval}
use Rattle.model_line.specs.{declared.line.Line.Line, declared.script.Script.Script}
use Rattle.model_line.specs.{declared.script.Place.Place, declared.script.Element.Element}
use Rattle.model_line.specs.declared.script.Element.TheVariants.{Z1, Z2, Rv, Uv}
use Rattle.model_line.specs.Parameters.{declared_ends, param_count, terminal_count}
use Rattle.model_logic.specs.Elements.{is_guarded, is_weak, pickup_and_dropout}
use Rattle.call_lint.specs.declared.warnings.warning.Warning.{Warning}
use Rattle.call_lint.specs.declared.warnings.warning.Warning.TheVariants as warning
use Rattle.call_lint.specs.{warnings.Listed.told_if, warnings.Listed.told_below}
use Rattle.call_lint.specs.warnings.TimeTests.{is_below_tick, is_rounded, is_past, reaches, is_wide}
use Rattle.call_lint.specs.warnings.TimeTests.{is_fixed_delay}
use Rattle.call_lint.specs.warnings.ElementTests.{is_shown, is_timed}
use Rattle.call_lint.specs.warnings.ScriptTests.{nothing_changes, is_due_first, lacks_current}

-- ---- times

-- of the exact ends of parameter i, in microseconds, where they are told
abbrev pub exact_warnings : ℕ → ℕ → Option Interval → List Warning
exact_warnings tick_us i None = []
exact_warnings tick_us i (Some ends) =
    told_if (is_below_tick tick_us ends.greatest) (warning.BelowTick i)
    ++ told_if (is_rounded tick_us ends) (warning.Rounded i)

-- of its interval in ticks
unfoldable pub declared_warnings : Line → ℕ → List Warning
declared_warnings line i =
    told_if (is_past line.horizon (declared_ends line i)) (warning.PastHorizon i)
    ++ told_if (reaches line.horizon (declared_ends line i)) (warning.ReachesHorizon i)
    ++ told_if (is_wide (declared_ends line i)) (warning.Wide i)
    ++ told_if (is_fixed_delay line i) (warning.FixedDelay i)

unfoldable pub time_warnings : Line → List Interval → ℕ → List Warning
time_warnings line exact i =
    exact_warnings line.tick_us i (slice_get exact i) ++ declared_warnings line i

-- ---- terminals

abbrev pub place_at : ℕ → Element → Place
place_at k e = record { element = e; terminal = k }

-- of an element at terminal k: shown and without times
unfoldable pub element_warnings : Line → List Script → ℕ → Element → List Warning
element_warnings line scripts k e =
    told_if (is_shown scripts (place_at k e) && not (is_timed line k (pickup_and_dropout e)))
    (warning.Untimed (place_at k e))

-- the elements that have times
abbrev pub timed_elements : List Element
timed_elements = Z1 ∷ Z2 ∷ Rv ∷ Uv ∷ []

unfoldable pub terminal_warnings : Line → List Script → ℕ → List Warning
terminal_warnings line scripts k =
    told_if (is_guarded line k && not (is_shown scripts (place_at k Rv))) (warning.Unguarded k)
    ++ told_if (is_weak line k && not (is_shown scripts (place_at k Uv))) (warning.Unechoed k)
    ++ flat_map (element_warnings line scripts k) timed_elements

-- ---- scripts

abbrev pub script_warnings : Line → ℕ → Option Script → List Warning
script_warnings line s None = []
script_warnings line s (Some script) =
    told_if (nothing_changes line.horizon script.spans.items) (warning.NothingChanges s)
    ++ told_if (is_due_first script) (warning.DueFirst s)
    ++ told_below (terminal_count line)
    (λ k. told_if (lacks_current script k) (warning.NoCurrent s k))

-- ---- all

-- of the times of a line
unfoldable pub line_warnings : Line → List Interval → List Warning
line_warnings line exact = told_below (param_count line) (time_warnings line exact)

-- of what scripts of the line show
unfoldable pub shown_warnings : Line → List Script → List Warning
shown_warnings line scripts =
    told_below (terminal_count line) (terminal_warnings line scripts)
    ++ told_below (length scripts) (λ s. script_warnings line s (slice_get scripts s))

unfoldable pub warnings : Line → List Interval → List Script → List Warning
warnings line exact scripts = line_warnings line exact ++ shown_warnings line scripts
