-- What files are held against: the line of the only study or line file among them, and its scripts.
use Rattle.std.specs.Prelude.{◌≡◌, ◌⊎◌, ℕ, List, Option, Some, None, Ok, Vec, IsErr, map, slice_get}
use Rattle.std.specs.Prelude.{if◌then◌else◌, length, nat_le}
use Rattle.std.specs.declared.alloc.Global.{Global}
use Rattle.model_line.specs.{declared.line.Line.Line, declared.script.Script.Script}
use Rattle.file_line.specs.{Lines.line_values, LineFiles.line_of}
use Rattle.file_tables.specs.{script.Values.values_of, script.Scripts.scripts_of}
use Rattle.file_study.specs.study.Faults.{fault_values}
use Rattle.file_study.specs.study.Studies.{study_of, study_values}
use Rattle.file_study.specs.declared.study.study.Study.{Study}
use Rattle.file_study.specs.sweeps.Studies.{AreScriptsOf, IsStudyRefused}
use Rattle.file_study.specs.declared.sweeps.group.Group.{Group}
use Rattle.file_study.specs.declared.sweeps.study_fault.StudySweepFault.{StudySweepFault}
use Rattle.call_inspect.specs.Given.{content, has_a_line, has_scripts, kind_in, only}
use Rattle.call_inspect.specs.declared.given.GivenFile.{GivenFile}
use Rattle.call_inspect.specs.declared.ground.Ground.{Ground}
use Rattle.call_inspect.specs.declared.ground.Ground.TheVariants as ground
use Rattle.call_inspect.specs.declared.kind.Kind.{Kind}
use Rattle.call_inspect.specs.declared.kind.Kind.TheVariants as kind

-- a line, and scripts of it where they are known
abbrev pub Base : Type 1
Base = Line → Option (List Script) → Type 0

abbrev pub scripts_in : Option (Vec Script Global) → Option (List Script)
scripts_in (Some v) = Some v.items
scripts_in None = None

-- at most 64 scripts
abbrev pub few : Option (List Script) → Option (List Script)
few None = None
few (Some scripts) = if nat_le (length scripts) 64 then Some scripts else None

-- such a line is the ground
abbrev pub IsOf : Base → Ground → Type 0
IsOf Says ground.Nothing = ⊥
IsOf Says ground.Refused = ⊥
IsOf Says (ground.Line own) = Says own.line (scripts_in own.scripts)

-- the bytes of a study say the line, and its scripts
pub record StudySays (bytes : List ℕ) (line : Line) (scripts : Option (List Script)) : Type 0 where
  pub study : Study
  pub groups : List Group
  pub all : List Script
  pub read : study_of bytes ≡ Ok (study_values study)
  pub line_is : study.line ≡ line
  pub come : AreScriptsOf study.line (map fault_values study.faults.items) all groups
  pub scripts_are : scripts ≡ Some all

-- those of a study that is refused, or whose faults come to no scripts
abbrev pub IsNoStudy : List ℕ → Type 0
IsNoStudy bytes =
    IsErr (study_of bytes)
    ⊎ ((study : Study) × (why : StudySweepFault) × (study_of bytes ≡ Ok (study_values study))
    × IsStudyRefused study.line (map fault_values study.faults.items) why)

-- scripts of a line, of the file at this place, where there is one and it is not refused
abbrev pub AreKnown : Line → Option GivenFile → Option (List Script) → Type 0
AreKnown line None scripts = scripts ≡ None
AreKnown line (Some f) None = IsErr (scripts_of line (content f))
AreKnown line (Some f) (Some all) = scripts_of line (content f) ≡ Ok (map values_of all)

abbrev pub file_at : List GivenFile → Option ℕ → Option GivenFile
file_at files None = None
file_at files (Some i) = slice_get files i

-- the bytes of a line file say the line, and the only scripts among the files say its scripts
pub record LineSays (bytes : List ℕ) (files : List GivenFile) (line : Line)
    (scripts : Option (List Script)) : Type 0 where
  pub read : line_of bytes ≡ Ok (line_values line)
  pub known : AreKnown line (file_at files (only has_scripts files)) scripts

-- a file is refused and the ground is that it is, or it says this
abbrev pub IsGroundOf : Type 0 → Base → Ground → Type 0
IsGroundOf IsNone Says g = (IsNone × (g ≡ ground.Refused)) ⊎ IsOf Says g

abbrev pub IsGroundBy : List GivenFile → List ℕ → Option Kind → Ground → Type 0
IsGroundBy files bytes (Some kind.Study) g = IsGroundOf (IsNoStudy bytes) (StudySays bytes) g
IsGroundBy files bytes other g = IsGroundOf (IsErr (line_of bytes)) (LineSays bytes files) g

abbrev pub IsGroundAt : List GivenFile → Option GivenFile → Ground → Type 0
IsGroundAt files None g = g ≡ ground.Nothing
IsGroundAt files (Some f) g = IsGroundBy files (content f) (kind_in f) g

-- what the files are held against: nothing where no study and no line file is the only one of them
abbrev pub IsGround : List GivenFile → Ground → Type 0
IsGround files g = IsGroundAt files (file_at files (only has_a_line files)) g
