-- A fault and its scripts.
use Rattle.std.specs.Prelude.{◌≡◌, ◌≤◌, ◌<◌, ◌+◌, ℕ, List}
use Rattle.model_line.specs.{declared.line.Line.Line, declared.script.Script.Script}
use Rattle.model_line.specs.Parameters.{terminal_count}
use Rattle.run_waves.specs.waves.FirstTick.{first_on}
use Rattle.judge_report.specs.Deadlines.{deadline_of}
use Rattle.judge_verdict.specs.verdict.OneEach.{OneEach}
use Rattle.draw_run.specs.diagram.Times.{is_begun}
use Rattle.draw_page.specs.declared.page.{Case.Case, Fault.Fault}
use Rattle.file_study.specs.declared.sweeps.group.Group.{Group}
use Rattle.call_tables.specs.declared.row.Row.{Row}
use Rattle.file_study.specs.sweeps.Places.{place_in}
use Rattle.call_page.specs.declared.parts.Part.{Part}
use Rattle.call_facts.specs.declared.firsts.Firsts.{Firsts}
use Rattle.call_page.specs.{Parts.fault_name, Parts.swept_values}
use Rattle.call_facts.specs.{Drawings.IsBandsOf, Lists.At}
use Rattle.call_page.specs.Verdicts.{IsVerdictOf, distance_at}

-- script s: its name, the values of what is swept, when it begins, and its deadline
pub record IsCaseOf (line : Line) (groups : List Group) (s : ℕ) (script : Script) (c : Case)
    : Type 0 where
  pub name : c.name.items ≡ script.name
  pub swept : c.swept.items ≡ swept_values (place_in groups s)
  pub inception : c.inception ≡ first_on (is_begun script.spans.items) line.horizon
  pub deadline : c.deadline ≡ deadline_of script.kind script.deadline

-- of so many scripts from `start` on, at the first n terminals, this one is nearest to failing: at
-- one of these it is at this distance, and none is nearer
pub record IsLeastSoFar (line : Line) (scripts : List Script) (rows : List Row)
    (firsts : List Firsts) (start count n shown least : ℕ) : Type 0 where
  pub among : shown < count
  pub terminal : ℕ
  pub there : terminal < n
  pub is : least ≡ distance_at line scripts rows firsts (start + shown) terminal
  pub none_less : (j k : ℕ) → j < count → k < n
      → least ≤ distance_at line scripts rows firsts (start + j) k

-- of so many scripts from `start` on this one does worst: at some terminal it is as near to failing
-- as any of them is at any terminal
pub record IsShown (line : Line) (scripts : List Script) (rows : List Row) (firsts : List Firsts)
    (start count shown : ℕ) : Type 0 where
  pub among : shown < count
  pub terminal : ℕ
  pub there : terminal < terminal_count line
  pub least : (j k : ℕ) → j < count → k < terminal_count line
      → distance_at line scripts rows firsts (start + shown) terminal
      ≤ distance_at line scripts rows firsts (start + j) k

-- the scripts of a part: each of them, how they stand at each terminal, and every choice at once of
-- the one that does worst
pub record IsFaultOf (line : Line) (scripts : List Script) (groups : List Group) (rows : List Row)
    (firsts : List Firsts) (part : Part) (fault : Fault) : Type 0 where
  pub name : fault.name.items ≡ fault_name groups scripts part.start
  pub kind : At scripts part.start (λ s. fault.kind ≡ s.kind)
  pub cases : OneEach (λ j c. At scripts (part.start + j)
      (λ s. IsCaseOf line groups (part.start + j) s c)) part.count fault.cases.items
  pub verdicts : OneEach (IsVerdictOf line scripts rows firsts part.start part.count)
      (terminal_count line) fault.verdicts.items
  pub shown : ℕ
  pub is_shown : IsShown line scripts rows firsts part.start part.count shown
  pub named : At scripts (part.start + shown) (λ s. fault.shown.items ≡ s.name)
  pub bands : At scripts (part.start + shown) (λ s. IsBandsOf line s fault.bands)
