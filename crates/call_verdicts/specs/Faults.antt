-- The table of verdicts with a record for each fault and terminal.
use Rattle.std.specs.Prelude.{◌≡◌, ◌*◌, ◌++◌, ℕ, zero, suc, List, [], ◌∷◌, Option, None, map}
use Rattle.std.specs.Prelude.{codes, decimal, drop, get_or, length, nat_eq, option_map, slice_get}
use Rattle.std.specs.Prelude.{take, if◌then◌else◌}
use Rattle.std.specs.List.{count_by, filter_map, list_any}
use Rattle.csv.specs.Writing.{row_text, default_writer}
use Rattle.model_line.specs.{declared.line.Line.Line, declared.script.Script.Script}
use Rattle.model_line.specs.Parameters.{terminal_count}
use Rattle.model_line.specs.NamesByNumber.{kind_text, terminal_name}
use Rattle.file_study.specs.declared.sweeps.group.Group.{Group}
use Rattle.call_answer.specs.{Answers.Answers, Answers.status_by, declared.done.Done.Done}
use Rattle.call_verdicts.specs.{Findings.AreFindings, Verdicts.is_failing, Verdicts.is_open}
use Rattle.call_verdicts.specs.Verdicts.{fails_for_every, fails_so, is_left}
use Rattle.call_verdicts.specs.Records.{margin_text, trip_text}
use Rattle.call_verdicts.specs.Stretches.{is_held, place_label, stretches, values_label}
use Rattle.call_verdicts.specs.Worst.{place_text, worst_place}
use Rattle.call_verdicts.specs.declared.finding.Finding.{Finding}
use Rattle.call_verdicts.specs.declared.verdict.Verdict.{Verdict}

-- a finding and its script, as a verdict
abbrev pub verdict_of : Finding → Script → Verdict
verdict_of f s = record {
  kind = s.kind;
  deadline = s.deadline;
  standing = f.standing;
  first_must = f.first_must;
}

-- that of a finding, if it is of this terminal
abbrev pub verdict_at : List Script → ℕ → Finding → Option Verdict
verdict_at scripts k f =
    if nat_eq f.terminal k then option_map (verdict_of f) (slice_get scripts f.script) else None

-- those of findings at a terminal, in their order
abbrev pub verdicts_at : List Script → ℕ → List Finding → List Verdict
verdicts_at scripts k found = filter_map (verdict_at scripts k) found

abbrev pub faults_header : List (List ℕ)
faults_header =
    codes "fault" ∷ codes "terminal" ∷ codes "kind" ∷ codes "scripts" ∷ codes "held"
    ∷ codes "fails" ∷ codes "fails_every" ∷ codes "open" ∷ codes "place" ∷ codes "trip_ms"
    ∷ codes "margin_ms" ∷ codes "not_held" ∷ codes "not_held_ms" ∷ []

-- The fields of a fault at a terminal, of which these are the verdicts: how many there are, are
-- held, fail, fail for every choice, and are open; of the worst place which it is, its trip and its margin; and where it is
-- not held, by the numbers of places and by the values of what is swept.
unfoldable pub fault_record : Line → Group → ℕ → List Verdict → List (List ℕ)
fault_record line group k vs =
    group.name ∷ terminal_name line k ∷ get_or (map (λ v. kind_text v.kind) vs) 0 []
    ∷ decimal (length vs) ∷ decimal (count_by is_held vs)
    ∷ decimal (count_by (λ v. fails_so v.standing) vs)
    ∷ decimal (count_by (λ v. fails_for_every v.standing) vs)
    ∷ decimal (count_by (λ v. is_left v.standing) vs)
    ∷ place_text vs (worst_place line.horizon vs)
    ∷ get_or (map (λ v. trip_text line.tick_us v.first_must) vs) (worst_place line.horizon vs) []
    ∷ get_or (map (λ v. margin_text line.tick_us v.kind v.deadline v.first_must) vs)
    (worst_place line.horizon vs) []
    ∷ stretches vs place_label (length vs)
    ∷ stretches vs (values_label line.tick_us group) (length vs) ∷ []

-- the records of a fault at the first n terminals, of which these are the findings
abbrev pub fault_records : Line → List Script → Group → List Finding → ℕ → List ℕ
fault_records line scripts group found zero = []
fault_records line scripts group found (suc n) =
    fault_records line scripts group found n
    ++ row_text default_writer (fault_record line group n (verdicts_at scripts n found))

-- how many findings a fault has: one for each of its scripts and each terminal
abbrev pub findings_of : Line → Group → ℕ
findings_of line group = length group.swept.items * terminal_count line

-- those of faults whose findings stand one after another
abbrev pub faults_from : Line → List Script → List Group → List Finding → List ℕ
faults_from line scripts [] found = []
faults_from line scripts (group ∷ more) found =
    fault_records line scripts group (take (findings_of line group) found) (terminal_count line)
    ++ faults_from line scripts more (drop (findings_of line group) found)

-- the header, and the records of all faults
abbrev pub faults_text : Line → List Script → List Group → List Finding → List ℕ
faults_text line scripts groups found =
    row_text default_writer faults_header ++ faults_from line scripts groups found

-- a table over findings that are so, one for each obligation
pub record AreFaults (line : Line) (scripts : List Script) (groups : List Group) (status : Done)
    (text : List ℕ) : Type 0 where
  pub found : List Finding
  pub are : AreFindings line scripts found
  pub status_is : status ≡ status_by (list_any is_failing found) (list_any is_open found)
  pub text_is : text ≡ faults_text line scripts groups found

abbrev pub faults_answer : Line → List Script → List Group → Answers
faults_answer line scripts groups = AreFaults line scripts groups
