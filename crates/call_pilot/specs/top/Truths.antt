-- What is so of every choice where a command has answered a text: of fractions, where a rule or a margin
-- says it, and of whole ticks, where a split tree does.
use Rattle.std.specs.Prelude.{◌≡◌, ◌<◌, ◌*◌, ◌/◌, ◌++◌, ℕ, List, Option, Some, IsFalse, IsTrue}
use Rattle.std.specs.Prelude.{MatchOption, codes, length, slice_get}
use Rattle.model_history.specs.Each.{each_below}
use Rattle.model_line.specs.{declared.line.Line.Line, declared.script.Script.Script}
use Rattle.model_line.specs.Parameters.{terminal_count}
use Rattle.model_fine.specs.Fine.{EachFineChoiceMeets, EveryFineChoiceMeets, FineMeets}
use Rattle.model_fine.specs.Fine.{ForEachFineHistory}
use Rattle.model_logic.specs.Choice.{declared_box}
use Rattle.model_logic.specs.Rule.{Broken, Held, Rule}
use Rattle.model_names.specs.NumbersByName.{param_named}
use Rattle.judge_report.specs.ReportText.{fields_text, report_header, rule_word}
use Rattle.judge_report.specs.declared.upper_end.UpperEnd.{UpperEnd}
use Rattle.judge_report.specs.{Margin.IsUpperEnd, MarginText.margin_line, Raised.raised}
use Rattle.cert_claims.specs.check.Scripts.{EachBelow}
use Rattle.cert_split.specs.{text.Grammar.SplitResult, text.Text.split_text}
use Rattle.cert_split.specs.check.Results.{AreTold}
use Rattle.cert_own.specs.Obligations.{AllMet, HoldsSomewhere, IsFailedBySome}
use Rattle.cert_own.specs.Obligations.{IsUnknown}
use Rattle.call_files.specs.declared.stop.Status.{Status}
use Rattle.call_files.specs.declared.stop.Status.TheVariants as status

-- what the status of `certify` says. 0: every obligation is met, whatever the choice. 1: some choice
-- fails one. 2: one is unknown.
abbrev pub IsToldBy : Status → Line → List Script → Type 0
IsToldBy status.Good line scripts = AllMet line scripts
IsToldBy status.SomeNo line scripts = HoldsSomewhere line scripts IsFailedBySome
IsToldBy status.SomeUndecided line scripts = HoldsSomewhere line scripts IsUnknown
IsToldBy s line scripts = Unit {0}

-- no history of any choice of fractions inside the declared intervals meets the obligation
abbrev pub IsFailedByAll : Line → Script → ℕ → Type 0
IsFailedByAll line script k =
    ForEachFineHistory line script (declared_box line) (λ n h. ¬ (FineMeets n line script k h))

-- t is before this tick, or there is no such tick
abbrev pub IsBefore : ℕ → Option ℕ → Type 0
IsBefore t first = MatchOption first (Unit {0}) (λ m. t < m)

-- the row is that of a script and a terminal, with these three fields of it and what they say
pub record RowIsTrue (line : Line) (script : Script) (k : ℕ) (row : List ℕ) : Type 0 where
  pub first_may : Option ℕ
  pub first_must : Option ℕ
  pub rule : Rule
  pub row_is : row ≡ fields_text line script k first_may first_must ++ rule_word rule ++ codes "\n"
  -- no choice of fractions inside trips the terminal before the first tick at which it may
  pub may : ForEachFineHistory line script (declared_box line) (λ n h.
      (t : ℕ) → t < line.horizon * n → IsBefore (t / n) first_may → IsFalse (h.trip k t))
  -- every one trips it throughout the tick at which it must
  pub must : ForEachFineHistory line script (declared_box line) (λ n h.
      (t : ℕ) → t < line.horizon * n → first_must ≡ Some (t / n) → IsTrue (h.trip k t))
  -- `held`: every one meets the obligation; `broken`: every one fails it
  pub held : rule ≡ Held → EveryFineChoiceMeets line script k
  pub broken : rule ≡ Broken → IsFailedByAll line script k

-- the text is the header, and then for each script in order a true row for each terminal in order
pub record ReportIsTrue (line : Line) (scripts : List Script) (text : List ℕ) : Type 0 where
  pub row : ℕ → ℕ → List ℕ
  pub text_is : text
      ≡ report_header ++ each_below (length scripts) (λ i. each_below (terminal_count line) (row i))
  pub rows : (i k : ℕ) (script : Script) → slice_get scripts i ≡ Some script
      → k < terminal_count line → RowIsTrue line script k (row i k)

-- the text is the line of this margin: its number is the greatest, up to 4000, to which every rule is
-- held, and the obligation that it names is the first that is lost one above, or at the declared least
-- where there is no such number; and every choice of fractions with that number as the parameter's upper
-- end meets every obligation
pub record MarginIsTrue (line : Line) (scripts : List Script) (name text : List ℕ) : Type 0 where
  pub param : ℕ
  pub param_is : param_named line name ≡ Some param
  pub end : UpperEnd
  pub text_is : text ≡ margin_line line scripts param end
  pub end_is : IsUpperEnd line scripts param end
  pub met : (v i k : ℕ) (script : Script) → end.greatest ≡ Some v
      → slice_get scripts i ≡ Some script → k < terminal_count line
      → EachFineChoiceMeets line script k (raised line param v)

-- the text is that of these split trees, and what they say is so: every choice of whole ticks meets the
-- obligation of a tree whose leaves are all `yes`; the numbers of a `no` are inside and fail it
pub record SplitIsTrue (line : Line) (scripts : List Script) (text : List ℕ) : Type 0 where
  pub parts : List (List SplitResult)
  pub text_is : text ≡ split_text line scripts parts
  pub told : EachBelow (AreTold line) scripts parts (length scripts)
