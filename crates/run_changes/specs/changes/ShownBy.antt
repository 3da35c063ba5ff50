-- The spans of a script that each gate shows, gate after gate in one list.
use Rattle.std.specs.Prelude.{◌≡◌, ◌<◌, ◌≤◌, ◌+◌, ℕ, List, Some, length, slice_get, slice_index}
use Rattle.std.specs.List.{filter, slice_range}
use Rattle.model_line.specs.declared.script.{Script.Script, SeenSpan.SeenSpan}
use Rattle.net_gates.specs.declared.gate.Gate.{Gate}
use Rattle.run_changes.specs.declared.changes.shown_by.ShownBy.{ShownBy}
use Rattle.run_step.specs.Shown.{is_shown_by}

-- those from the start with this number up to the next start
abbrev pub spans_at : List SeenSpan → List ℕ → ℕ → List SeenSpan
spans_at spans starts i = slice_range spans (slice_index starts i) (slice_index starts (i + 1))

-- those of the gate with this number
abbrev pub shown_of : ShownBy → ℕ → List SeenSpan
shown_of shown i = spans_at shown.spans.items shown.starts.items i

-- no start is behind the next one or behind the end
pub record AreStarts (spans : List SeenSpan) (starts : List ℕ) : Type 0 where
  pub rise : (i : ℕ) → i + 1 < length starts → slice_index starts i ≤ slice_index starts (i + 1)
  pub inside : (i : ℕ) → i < length starts → slice_index starts i ≤ length spans

-- there is a start for each of n gates, and one for the end
pub record HasSpansOf (n : ℕ) (shown : ShownBy) : Type 0 where
  pub count : length shown.starts.items ≡ n + 1
  pub starts : AreStarts shown.spans.items shown.starts.items

-- each gate has the spans of the script that are of it
abbrev pub AreShownBy : Script → List Gate → ShownBy → Type 0
AreShownBy script gates shown =
    (i : ℕ) (gate : Gate) → slice_get gates i ≡ Some gate
    → shown_of shown i ≡ filter (is_shown_by gate) script.spans.items

-- the first n gates have theirs, and the last start is the end
pub record AreListed (script : Script) (gates : List Gate) (n : ℕ) (spans : List SeenSpan)
    (starts : List ℕ) : Type 0 where
  pub count : length starts ≡ n + 1
  pub are : AreStarts spans starts
  pub last : slice_index starts n ≡ length spans
  pub shown : (i : ℕ) (gate : Gate) → i < n → slice_get gates i ≡ Some gate
      → spans_at spans starts i ≡ filter (is_shown_by gate) script.spans.items
