-- What is found in a file.
use Rattle.std.specs.Prelude.{◌≡◌, ◌⊎◌, ℕ, List, Option, Some, None, Result, Ok, Err, Vec, cond, length, nat_lt}
use Rattle.std.specs.declared.alloc.Global.{Global}
use Rattle.model_line.specs.{declared.line.Line.Line, declared.script.Script.Script}
use Rattle.file_tables.specs.timing.Timings.{timings_of}
use Rattle.file_records.specs.map.Maps.{map_of}
use Rattle.file_comtrade.specs.{Config.config_of, Sections.parts_of, Sections.Parts, Config.ConfigValues}
use Rattle.file_comtrade.specs.declared.fault.ConfigFault.{ConfigFault}
use Rattle.file_comtrade.specs.declared.fault.ConfigFault.TheVariants as config_fault
use Rattle.file_comtrade.specs.declared.sections.SectionFault.{SectionFault}
use Rattle.judge_match.specs.matching.Waves.{records_said}
use Rattle.cert_claims.specs.text.Grammar as certificate
use Rattle.cert_split.specs.text.Grammar as splits
use Rattle.cert_settle.specs.Grammar as trees
use Rattle.call_lint.specs.lint.Outcomes.{IsLineLinted, IsShownLinted, IsStudyLinted}
use Rattle.call_lint.specs.declared.lint.linted.Outcome.{Outcome}
use Rattle.call_lint.specs.declared.lint.linted.Outcome.TheVariants.{Clean, Suspicious, Refused}
use Rattle.call_inspect.specs.{Grounds.few, Grounds.scripts_in, Kinds.kind_of, Kinds.limit_of}
use Rattle.call_inspect.specs.declared.given.GivenFile.{GivenFile}
use Rattle.call_inspect.specs.declared.ground.Ground.{Ground}
use Rattle.call_inspect.specs.declared.ground.Ground.TheVariants as ground
use Rattle.call_inspect.specs.declared.kind.Kind.{Kind}
use Rattle.call_inspect.specs.declared.kind.Kind.TheVariants as kind

-- a reader takes a file, or refuses it
abbrev pub taken : {Y F : Type 0} → Result Y F → Outcome
taken (Ok said) = Clean
taken (Err fault) = Refused

-- ---- against a line

-- what is found in a file that a line is needed for: where no line is the only one its head alone is
-- looked at, which is told; where the line is refused that is told already, and no more is
abbrev pub Against : (Line → Option (List Script) → Outcome → Type 0) → Ground → Outcome → Type 0
Against IsFound ground.Nothing o = o ≡ Suspicious
Against IsFound ground.Refused o = o ≡ Clean
Against IsFound (ground.Line own) o = IsFound own.line (scripts_in own.scripts) o

abbrev pub IsScriptsFound : List ℕ → Line → Option (List Script) → Outcome → Type 0
IsScriptsFound bytes line scripts o = IsShownLinted line bytes o

abbrev pub IsTimingsFound : List ℕ → Line → Option (List Script) → Outcome → Type 0
IsTimingsFound bytes line scripts o = o ≡ taken (timings_of line bytes)

abbrev pub IsMapFound : List ℕ → Line → Option (List Script) → Outcome → Type 0
IsMapFound bytes line scripts o = o ≡ taken (map_of line bytes)

-- ---- against a line and its scripts

-- of a file that scripts are needed for
abbrev pub WithScripts : (List Script → Outcome → Type 0) → Option (List Script) → Outcome → Type 0
WithScripts IsFound None o = o ≡ Suspicious
WithScripts IsFound (Some scripts) o = IsFound scripts o

abbrev pub IsRecordFound : List ℕ → Line → Option (List Script) → Outcome → Type 0
IsRecordFound bytes line scripts o =
    WithScripts (λ all o. o ≡ taken (records_said line all bytes)) (few scripts) o

-- a text of a grammar, or the first line that leaves it
abbrev pub IsTextFound : {A : Type 0} → (A → Type 0) → (ℕ → Type 0) → Outcome → Type 0
IsTextFound {A = A} Is Leaves o =
    ((n : ℕ) × Leaves n × (o ≡ Refused)) ⊎ ((said : A) × Is said × (o ≡ Clean))

abbrev pub IsCertificateFound : List ℕ → Line → Option (List Script) → Outcome → Type 0
IsCertificateFound bytes line scripts o =
    WithScripts (λ all o. IsTextFound (λ claims. certificate.IsCertificate line all claims bytes)
    (certificate.LeavesGrammar line all bytes) o) (few scripts) o

abbrev pub AreSplitsFound : List ℕ → Line → Option (List Script) → Outcome → Type 0
AreSplitsFound bytes line scripts o =
    WithScripts (λ all o. IsTextFound (λ parts. splits.IsSplitText line all parts bytes)
    (splits.LeavesGrammar line all bytes) o) (few scripts) o

abbrev pub AreTreesFound : List ℕ → Line → Option (List Script) → Outcome → Type 0
AreTreesFound bytes line scripts o =
    WithScripts (λ all o. IsTextFound (λ parts. trees.IsSettleText line all parts bytes)
    (trees.LeavesGrammar line all bytes) o) (few scripts) o

-- ---- records of relays

-- a configuration whose dates are in the other order is one that a map can name
abbrev pub config_outcome : Result ConfigValues ConfigFault → Outcome
config_outcome (Ok said) = Clean
config_outcome (Err (config_fault.OtherOrder line order)) = Suspicious
config_outcome (Err other) = Refused

-- of a record in one file its sections and its configuration
abbrev pub one_file_outcome : Result Parts SectionFault → Outcome
one_file_outcome (Ok parts) = config_outcome (config_of None parts.config)
one_file_outcome (Err fault) = Refused

-- ---- all

-- what is found in bytes of a kind
abbrev pub IsKindFound : Kind → Ground → List ℕ → Outcome → Type 0
IsKindFound kind.Study g bytes o = IsStudyLinted bytes o
IsKindFound kind.Line g bytes o = IsLineLinted bytes o
IsKindFound kind.Scripts g bytes o = Against (IsScriptsFound bytes) g o
IsKindFound kind.Timings g bytes o = Against (IsTimingsFound bytes) g o
IsKindFound kind.Record g bytes o = Against (IsRecordFound bytes) g o
IsKindFound kind.Map g bytes o = Against (IsMapFound bytes) g o
IsKindFound kind.Certificate g bytes o = Against (IsCertificateFound bytes) g o
IsKindFound kind.Splits g bytes o = Against (AreSplitsFound bytes) g o
IsKindFound kind.Trees g bytes o = Against (AreTreesFound bytes) g o
IsKindFound kind.Config g bytes o = o ≡ config_outcome (config_of None bytes)
IsKindFound kind.OneFile g bytes o = o ≡ one_file_outcome (parts_of bytes)

-- a file of no kind is refused, and so is one that has more bytes than its kind may have
abbrev pub IsFoundBy : Option Kind → Ground → List ℕ → Outcome → Type 0
IsFoundBy None g bytes o = o ≡ Refused
IsFoundBy (Some k) g bytes o =
    cond (nat_lt (limit_of k) (length bytes)) (o ≡ Refused) (IsKindFound k g bytes o)

-- so is one that has more than any may have
abbrev pub IsFoundIn : Ground → List ℕ → Option (Vec ℕ Global) → Outcome → Type 0
IsFoundIn g name None o = o ≡ Refused
IsFoundIn g name (Some bytes) o = IsFoundBy (kind_of name bytes.items) g bytes.items o

abbrev pub IsFound : Ground → GivenFile → Outcome → Type 0
IsFound g f o = IsFoundIn g f.name.now f.bytes o
