-- Laws of the files of a command: what was fetched of them, what a fault of one is, and the timings
-- that were read.
use Rattle.std.proofs.Common.{◌≡◌, ℕ, ◌≤◌, List, [], ◌∷◌, Option, None, Some, IsSome, IfSome, Err}
use Rattle.std.proofs.Common.{Result, Ok, length, unwrap_or, refl, inl, inr}
use Rattle.std.proofs.lemmas.Bool.{le-ltb}
use Rattle.std.specs.List.{All}
use Rattle.file_line.specs.Lines.{LineValues}
use Rattle.file_document.specs.declared.fault.DocumentFault.{DocumentFault}
use Rattle.base_text.specs.store.Store.{SameCounts}
use Rattle.model_line.specs.declared.line.Line.{Line}
use Rattle.model_line.specs.declared.script.Script.{Script}
use Rattle.model_timing.specs.{Inside.IsTimingInside, NamedValues.NamedValues}
use Rattle.file_tables.specs.declared.timing.fault.TimingFault.{TimingFault}
use Rattle.file_tables.specs.script.Values.{ScriptValues}
use Rattle.file_tables.specs.declared.script.fault.ScriptFault.{ScriptFault}
use Rattle.call_files.specs.Files.{contents, in_front, limit_of, AllTold, NamedFile, NoneRose}
use Rattle.call_files.specs.{Files.StoreCause, Said.of_timings, declared.refusal.Refusal.Refusal}
use Rattle.call_files.specs.declared.stop.File.{File}
use Rattle.call_files.specs.Said.{of_line, of_scripts}

opened : (o : Option (List ℕ)) (v : List ℕ) → IsSome o → IfSome o (λ b. b ≡ v) → unwrap_or o [] ≡ v
opened None v some is = cc
opened (Some b) v some is = is

pub short_of : (o : Option (List ℕ)) (v : List ℕ) (limit : ℕ)
    → length v ≤ limit → IfSome o (λ b. b ≡ v) → IfSome o (λ b. length b ≤ limit)
short_of None v limit le is = tt
short_of (Some b) v limit le is = rw is le

-- the bytes that were fetched are the first contents
pub told_contents : (files : List ℕ → Option (List ℕ)) (a : NamedFile) (rest : List NamedFile)
    (v : List ℕ)
    → length v ≤ limit_of a.file → IfSome (files a.name) (λ b. b ≡ v) → AllTold files (a ∷ rest)
    → contents files (a ∷ rest) ≡ in_front v (contents files rest)
told_contents files a rest v le is told =
    let e = opened (files a.name) v told.0 is in
    let t = le-ltb (limit_of a.file) (length v) le in
    rw (e, t) refl

-- a cause from an earlier count
pub cause_from : (files : List ℕ → Option (List ℕ)) (c1 c2 c3 : List ℕ → ℕ) (asked : List NamedFile)
    (file : File)
    → SameCounts c1 c2 → StoreCause files c2 c3 asked file → StoreCause files c1 c3 asked file
cause_from files c1 c2 c3 [] file same cause = cause
cause_from files c1 c2 c3 (a ∷ rest) file same cause = elim cause [
  | inl here ↦ inl (here.0, rw (same a.name) at here.1)
  | inr later ↦ inr (later.0, cause_from files c1 c2 c3 rest file same later.1)
]

-- no name's count rose, so there is no cause
pub no_cause : (files : List ℕ → Option (List ℕ)) (c1 c2 : List ℕ → ℕ) (asked : List NamedFile)
    (file : File)
    → NoneRose c1 c2 asked → StoreCause files c1 c2 asked file → ⊥
no_cause files c1 c2 [] file none cause = cause
no_cause files c1 c2 (a ∷ rest) file none cause = elim cause [
  | inl here ↦ none.0 here.1
  | inr later ↦ no_cause files c1 c2 rest file none.1 later.1
]

-- timings that were read
pub timings_read : (l : Line) (said : Result (List NamedValues) TimingFault)
    (timings : List NamedValues) (refused : Refusal → Type 0)
    (holds : List NamedValues → Type 0)
    → said ≡ Ok timings → All (λ timing. IsTimingInside l timing.timing) timings
    → holds timings → of_timings l said refused holds
timings_read l said timings refused holds is inside h = rw is (inside, h)

-- what holds of the first refusal, or of what is read, holds of each that is wider
pub line_wider : (said : Result LineValues DocumentFault) (R S : Refusal → Type 0) (H P : Line → Type 0)
    → ((why : Refusal) → R why → S why) → ((l : Line) → H l → P l)
    → of_line said R H → of_line said S P
line_wider (Ok values) R S H P refused holds h = (h.0, h.1, holds h.0 h.2)
line_wider (Err e) R S H P refused holds h = refused _ h

pub scripts_wider : (l : Line) (said : Result (List ScriptValues) ScriptFault)
    (R S : Refusal → Type 0) (H P : List Script → Type 0)
    → ((why : Refusal) → R why → S why) → ((scripts : List Script) → H scripts → P scripts)
    → of_scripts l said R H → of_scripts l said S P
scripts_wider l (Ok values) R S H P refused holds h = (h.0, h.1, h.2, holds h.0 h.3)
scripts_wider l (Err e) R S H P refused holds h = refused _ h
