-- How a fault's scripts stand at a terminal, and which of them does worst.
use Rattle.std.specs.Prelude.{◌≡◌, ◌≤◌, ◌<◌, ◌+◌, ◌-◌, ℕ, List, Option, None, Some, slice_get}
use Rattle.std.specs.List.{slice_range}
use Rattle.model_line.specs.{declared.line.Line.Line, declared.script.Script.Script}
use Rattle.model_line.specs.declared.script.Kind.{Kind}
use Rattle.model_line.specs.declared.script.Kind.TheVariants.{Internal, External}
use Rattle.model_line.specs.NamesByNumber.{terminal_name}
use Rattle.run_waves.specs.waves.FirstTick.{first_on}
use Rattle.draw_run.specs.diagram.Times.{is_begun}
use Rattle.judge_report.specs.Deadlines.{deadline_of}
use Rattle.judge_settle.specs.declared.settle.answer.Answer.{Answer}
use Rattle.judge_settle.specs.declared.settle.answer.Answer.TheVariants.{Held, Fails, Open}
use Rattle.judge_settle.specs.declared.settle.answer.By.{By}
use Rattle.judge_settle.specs.declared.settle.answer.By.TheVariants as by
use Rattle.judge_verdict.specs.verdict.OneEach.{OneEach}
use Rattle.draw_page.specs.declared.page.Means.{Means}
use Rattle.draw_page.specs.declared.page.Means.TheVariants as means
use Rattle.draw_page.specs.declared.page.{Standing.Standing, Verdict.Verdict}
use Rattle.draw_page.specs.declared.page.Standing.TheVariants as standing
use Rattle.call_tables.specs.declared.row.Row.{Row}
use Rattle.call_facts.specs.declared.firsts.Firsts.{Firsts}
use Rattle.call_facts.specs.{FirstTicks.place, Lists.At, Spares.IsSpareBy}

-- how an obligation with this answer stands
abbrev pub standing_of : Answer → Standing
standing_of (Held nodes) = standing.Held
standing_of (Fails timing every) = standing.Fails
standing_of (Open nodes) = standing.Open

-- by what it was settled
abbrev pub means_of : By → Means
means_of by.Rules = means.Rules
means_of by.Candidate = means.Candidate
means_of by.Corner = means.Corner
means_of by.Parts = means.Parts
means_of by.Cases = means.Cases

-- how far it is from failing: one that fails is at 0, one that is open at 1; one that is held is
-- farther by what is to spare before its deadline, and farthest where it has none
abbrev pub distance_held : Kind → ℕ → Option ℕ → ℕ
distance_held Internal deadline None = 2
distance_held Internal deadline (Some first) = 2 + (deadline - first)
distance_held External deadline first = 8000

abbrev pub distance : Answer → Kind → ℕ → Option ℕ → ℕ
distance (Fails timing every) kind deadline first = 0
distance (Open nodes) kind deadline first = 1
distance (Held nodes) kind deadline first = distance_held kind deadline first

abbrev pub distance_by : Option Script → Option Row → Option Firsts → ℕ
distance_by (Some s) (Some row) (Some f) = distance row.settled.answer s.kind s.deadline f.must
distance_by (Some s) (Some row) None = 0
distance_by (Some s) None f = 0
distance_by None row f = 0

-- that of script s at terminal k
abbrev pub distance_at : Line → List Script → List Row → List Firsts → ℕ → ℕ → ℕ
distance_at line scripts rows firsts s k =
    distance_by (slice_get scripts s) (slice_get rows (place line s k))
    (slice_get firsts (place line s k))

-- of so many scripts from `start` on this one does worst at terminal k: none is nearer to failing
pub record IsWorst (line : Line) (scripts : List Script) (rows : List Row) (firsts : List Firsts)
    (start count k worst : ℕ) : Type 0 where
  pub among : worst < count
  pub least : (j : ℕ) → j < count
      → distance_at line scripts rows firsts (start + worst) k
      ≤ distance_at line scripts rows firsts (start + j) k

-- a tick, counted from the inception of its fault: 0 at it, and before it; of a script that shows no
-- fault counted from tick 0
abbrev pub after_inception : Option ℕ → Option ℕ → Option ℕ
after_inception inception None = None
after_inception None (Some tick) = Some tick
after_inception (Some inception) (Some tick) = Some (tick - inception)

-- the inception of a script's fault: the first tick at which a relay sees it
abbrev pub inception_of : Line → Script → Option ℕ
inception_of line script = first_on (is_begun script.spans.items) line.horizon

-- so many scripts from `start` on
abbrev pub own_scripts : List Script → ℕ → ℕ → List Script
own_scripts scripts start count = slice_range scripts start (start + count)

-- what the scripts of a fault have to spare at terminal k, where it is external
abbrev pub IsSpareOfFault : Line → List Script → ℕ → Option ℕ → Type 0
IsSpareOfFault line own k spare = At own 0 (λ s. IsSpareBy s.kind line own k spare)

-- the standing of each of these scripts at terminal k; and of the one that does worst there by what it
-- was settled, and counted from its inception its deadline and first ticks; and what they have to spare
pub record IsVerdictOf (line : Line) (scripts : List Script) (rows : List Row)
    (firsts : List Firsts) (start count k : ℕ) (v : Verdict) : Type 0 where
  pub terminal : v.terminal.items ≡ terminal_name line k
  pub standings : OneEach
      (λ j x. At rows (place line (start + j) k) (λ row. x ≡ standing_of row.settled.answer)) count
      v.standings.items
  pub worst : ℕ
  pub is_worst : IsWorst line scripts rows firsts start count k worst
  pub by : At rows (place line (start + worst) k) (λ row. v.by ≡ means_of row.settled.by)
  pub deadline : At scripts (start + worst) (λ s.
      v.deadline ≡ after_inception (inception_of line s) (deadline_of s.kind s.deadline))
  pub ticks : At scripts (start + worst) (λ s. At firsts (place line (start + worst) k) (λ f.
      (v.may ≡ after_inception (inception_of line s) f.may)
      × (v.must ≡ after_inception (inception_of line s) f.must)))
  pub spare : IsSpareOfFault line (own_scripts scripts start count) k v.spare
