-- The least margin of all internal faults.
use Rattle.std.specs.Prelude.{◌≡◌, ◌≤◌, ◌<◌, ◌-◌, ◌++◌, ℕ, List, Option, None, Some, codes}
use Rattle.std.specs.Prelude.{MatchOption, slice_get, nat_le, if◌then◌else◌}
use Rattle.model_line.specs.{declared.line.Line.Line, declared.script.Script.Script}
use Rattle.model_line.specs.declared.script.Kind.{Kind}
use Rattle.model_line.specs.declared.script.Kind.TheVariants.{Internal, External}
use Rattle.model_line.specs.NamesByNumber.{script_name, terminal_name}
use Rattle.draw_page.specs.declared.page.LeastMargin.{LeastMargin}
use Rattle.call_facts.specs.Lists.{At}
use Rattle.call_facts.specs.declared.least.Spare.{Spare}
use Rattle.call_facts.specs.declared.firsts.Firsts.{Firsts}

-- `SCRIPT at TERMINAL`
abbrev pub at_words : Line → List Script → ℕ → ℕ → List ℕ
at_words line scripts s k = script_name scripts s ++ (codes " at " ++ terminal_name line k)

-- how much is to spare of an internal fault whose trip comes in time
abbrev pub to_spare : Kind → ℕ → Option ℕ → Option ℕ
to_spare Internal deadline None = None
to_spare Internal deadline (Some first) =
    if nat_le first deadline then Some (deadline - first) else None
to_spare External deadline first = None

abbrev pub spare_by : Option Script → Option ℕ → Option ℕ
spare_by (Some s) first = to_spare s.kind s.deadline first
spare_by None first = None

-- of these first ticks
abbrev pub spare_of : List Script → Firsts → Option ℕ
spare_of scripts f = spare_by (slice_get scripts f.script) f.must

-- of the first n, so much is to spare at this place, and nowhere less
pub record IsPlaceOfLeast (scripts : List Script) (firsts : List Firsts) (n place ticks : ℕ)
    : Type 0 where
  pub among : place < n
  pub spare : At firsts place (λ f. spare_of scripts f ≡ Some ticks)
  pub none_less : (i : ℕ) (f : Firsts) (v : ℕ) → i < n → slice_get firsts i ≡ Some f
      → spare_of scripts f ≡ Some v → ticks ≤ v

-- what is known of the first n: none is in time, or the least is to spare there
abbrev pub IsLeastSoFar : List Script → List Firsts → ℕ → Option Spare → Type 0
IsLeastSoFar scripts firsts n least =
    MatchOption least
    ((i : ℕ) (f : Firsts) → i < n → slice_get firsts i ≡ Some f → spare_of scripts f ≡ None)
    (λ s. IsPlaceOfLeast scripts firsts n s.place s.ticks)

-- so much is to spare at these, and nowhere less
pub record IsLeast (line : Line) (scripts : List Script) (firsts : List Firsts) (ticks : ℕ)
    (at : List ℕ) : Type 0 where
  pub place : ℕ
  pub of : Firsts
  pub stands : slice_get firsts place ≡ Some of
  pub spare : spare_of scripts of ≡ Some ticks
  pub named : at ≡ at_words line scripts of.script of.terminal
  pub none_less : (i : ℕ) (f : Firsts) (v : ℕ) → slice_get firsts i ≡ Some f
      → spare_of scripts f ≡ Some v → ticks ≤ v

abbrev pub IsLeastOf : Line → List Script → List Firsts → Option LeastMargin → Type 0
IsLeastOf line scripts firsts least =
    MatchOption least
    ((i : ℕ) (f : Firsts) → slice_get firsts i ≡ Some f → spare_of scripts f ≡ None)
    (λ m. IsLeast line scripts firsts m.ticks m.at.items)
