-- What is so of one line and scripts that two files say is so of all that they say.
use Rattle.std.proofs.Common.{◌≡◌, ◌<◌, ◌*◌, ◌/◌, ℕ, List, ◌++◌, Some, Ok, Result, map}
use Rattle.std.proofs.Common.{length, sym, ◌∙◌, ap, subst}
use Rattle.std.proofs.lemmas.List.{length-map}
use Rattle.std.specs.Prelude.{IsFalse, IsTrue, codes}
use Rattle.std.specs.{List.position_from, Str.bytes_eq}
use Rattle.model_history.specs.Each.{each_below}
use Rattle.model_line.specs.{declared.line.Line.Line, declared.line.Param.Param}
use Rattle.model_line.specs.{declared.script.Script.Script, Parameters.terminal_count}
use Rattle.model_line.specs.{SetBounds.SameButParams, Laws.CountsRestOnNoInterval}
use Rattle.model_logic.specs.IntervalLaws.{HistoriesRestOnNoInterval, TreesRestOnNoInterval}
use Rattle.model_fine.specs.Fine.{EachFineChoiceMeets}
use Rattle.file_line.specs.{LineFiles.line_of, Lines.line_values}
use Rattle.file_tables.specs.{script.Scripts.scripts_of, script.Values.AreOfOneFile, script.Values.ScriptValues}
use Rattle.file_tables.specs.script.Values.{values_of}
use Rattle.cert_claims.specs.text.Grammar.{Verdict}
use Rattle.judge_report.specs.ReportText.{report_header, rule_word}
use Rattle.judge_report.specs.Raised.{raised}
use Rattle.cert_own.specs.Obligations.{AllMet, HoldsAsAccepted, HoldsAsCertified}
use Rattle.cert_own.specs.Obligations.{HoldsSomewhere}
use Rattle.cert_own.specs.Obligations.{IsFailedBySome, IsUnknown}
use Rattle.cert_own.specs.Printed.{HoldsOf}
use Rattle.call_pilot.specs.{top.SaidByFiles.InFiles, top.Truths.IsToldBy}
use Rattle.call_pilot.specs.top.Truths.{IsBefore, MarginIsTrue, ReportIsTrue, RowIsTrue, SplitIsTrue}
use Rattle.call_files.specs.declared.stop.Status.{Status}
use Rattle.call_files.specs.declared.stop.Status.TheVariants as status
use Rattle.call_pilot.specs.top.SameFactLaws.{are_told_on, failed_on, raised_same, same_params}
use Rattle.call_pilot.specs.top.SameFactLaws.{unknown_by}
use Rattle.call_pilot.specs.top.SameFineLaws.{accepted_on, certified_on, each_inside_on, each_meets_on}
use Rattle.call_pilot.specs.top.SameFineLaws.{failed_by_all, met_by_fractions}
use Rattle.call_pilot.specs.top.SameScriptLaws.{scripts_same}
use Rattle.call_pilot.specs.{top.SameHeldLaws.upper_end_on, top.SameTextLaws.fields_same}
use Rattle.call_pilot.specs.top.SameTextLaws.{margin_same, split_same, terminal_same}
use Rattle.call_pilot.specs.top.TwinLaws.{twin}
use Rattle.call_pilot.specs.top.SameValueLaws.{same_but_params}

-- two lines and lists of scripts of the same values
module _ (counts : CountsRestOnNoInterval) (histories : HistoriesRestOnNoInterval)
    (logic : TreesRestOnNoInterval) (a b : Line) (lines : line_values b ≡ line_values a)
    (xs ys : List Script)
    (scripts : map values_of ys ≡ map values_of xs) where
  others : SameButParams a b
  others = same_but_params a b lines

  there_in : (k : ℕ) → k < terminal_count b → k < terminal_count a
  there_in k there = subst (λ (n : ℕ). k < n) (counts.terminals a b others) there

  pub holds_of_on : (F : Line → Script → ℕ → Type 0)
      → ((s r : Script) → values_of r ≡ values_of s → (k : ℕ) → F a s k → F b r k)
      → (name terminal : List ℕ) → HoldsOf a xs name terminal F → HoldsOf b ys name terminal F
  holds_of_on F on name terminal is =
      let other = twin xs ys (sym scripts) is.place is.script is.script_is in
      record {
        place = is.place;
        script = other.script;
        script_is = other.at;
        name_is = ap (λ (v : ScriptValues). v.name) (sym other.values) ∙ is.name_is;
        k = is.k;
        exists = subst (λ (n : ℕ). is.k < n) (sym (counts.terminals a b others)) is.exists;
        terminal_is = terminal_same a b others (same_params a b lines) is.k ∙ is.terminal_is;
        holds = on is.script other.script (sym other.values) is.k is.holds;
      }

  somewhere_on : (F : Line → Script → ℕ → Type 0)
      → ((s r : Script) → values_of r ≡ values_of s → (k : ℕ) → F a s k → F b r k)
      → HoldsSomewhere a xs F → HoldsSomewhere b ys F
  somewhere_on F on is =
      let other = twin xs ys (sym scripts) is.place is.script is.script_is in
      record {
        place = is.place;
        script = other.script;
        script_is = other.at;
        k = is.k;
        exists = subst (λ (n : ℕ). is.k < n) (sym (counts.terminals a b others)) is.exists;
        holds = on is.script other.script (sym other.values) is.k is.holds;
      }

  all_met_on : AllMet a xs → AllMet b ys
  all_met_on met = λ i k script at there.
      let other = twin ys xs scripts i script at in
      met_by_fractions counts histories logic a b lines other.script script other.values k
      (met i k other.script other.at (there_in k there))

  pub told_by_on : (s : Status) → IsToldBy s a xs → IsToldBy s b ys
  told_by_on status.Good told = all_met_on told
  told_by_on status.SomeNo told =
      somewhere_on IsFailedBySome
      (λ s r values k. failed_on counts histories a b lines s r values k) told
  told_by_on status.SomeUndecided told =
      somewhere_on IsUnknown
      (λ s r values k. unknown_by counts histories a b lines s r values k) told
  told_by_on status.Rejected told = tt
  told_by_on status.Usage told = tt
  told_by_on status.BadInput told = tt
  told_by_on status.StoreFault told = tt
  told_by_on status.SinkFault told = tt
  told_by_on status.Memory told = tt

  row_on : (s r : Script) → values_of r ≡ values_of s → (k : ℕ) (row : List ℕ)
      → RowIsTrue a s k row → RowIsTrue b r k row
  row_on s r values k row is = record {
    first_may = is.first_may;
    first_must = is.first_must;
    rule = is.rule;
    row_is = is.row_is
        ∙ ap (λ (t : List ℕ). t ++ rule_word is.rule ++ codes "\n")
        (sym (fields_same a b others (same_params a b lines) s r values k is.first_may
        is.first_must));
    may = each_inside_on counts histories logic a b lines s r values
        (λ n h. (t : ℕ) → t < b.horizon * n → IsBefore (t / n) is.first_may → IsFalse (h.trip k t))
        (λ n choice h some inside history t early.
        is.may n choice h some inside history t
        (subst (λ (m : ℕ). t < m * n) others.horizon early));
    must = each_inside_on counts histories logic a b lines s r values
        (λ n h. (t : ℕ) → t < b.horizon * n → is.first_must ≡ Some (t / n) → IsTrue (h.trip k t))
        (λ n choice h some inside history t early.
        is.must n choice h some inside history t
        (subst (λ (m : ℕ). t < m * n) others.horizon early));
    held = λ rule. met_by_fractions counts histories logic a b lines s r values k (is.held rule);
    broken = λ rule. failed_by_all counts histories logic a b lines s r values k (is.broken rule);
  }

  lengths_same : length ys ≡ length xs
  lengths_same =
      sym (length-map ys values_of) ∙ ap length scripts ∙ length-map xs values_of

  pub report_on : (text : List ℕ) → ReportIsTrue a xs text → ReportIsTrue b ys text
  report_on text is = record {
    row = is.row;
    text_is = is.text_is
        ∙ ap (λ (n : ℕ). report_header ++ each_below n (λ i. each_below (terminal_count a) (is.row i)))
        (sym lengths_same)
        ∙ ap (λ (n : ℕ). report_header ++ each_below (length ys) (λ i. each_below n (is.row i)))
        (sym (counts.terminals a b others));
    rows = λ i k script at there.
        let other = twin ys xs scripts i script at in
        row_on other.script script other.values k (is.row i k)
        (is.rows i k other.script other.at (there_in k there));
  }

  pub margin_on : (name text : List ℕ) → MarginIsTrue a xs name text → MarginIsTrue b ys name text
  margin_on name text is = record {
    param = is.param;
    param_is = ap (λ (ps : List Param). position_from (λ (p : Param). bytes_eq p.name name) 0 ps)
        (same_params a b lines)
        ∙ is.param_is;
    end = is.end;
    text_is = is.text_is
        ∙ sym (margin_same a b others (same_params a b lines) xs ys scripts is.param is.end);
    end_is = upper_end_on counts histories a b lines xs ys scripts is.param is.end is.end_is;
    met = λ v i k script greatest at there.
        let other = twin ys xs scripts i script at in
        subst (EachFineChoiceMeets b script k) (sym (raised_same counts histories a b lines is.param v))
        (each_meets_on counts histories logic a b lines other.script script other.values k
        (raised a is.param v) (is.met v i k other.script greatest other.at (there_in k there)));
  }

  pub split_on : (text : List ℕ) → SplitIsTrue a xs text → SplitIsTrue b ys text
  split_on text is = record {
    parts = is.parts;
    text_is = is.text_is
        ∙ sym (split_same a b others (same_params a b lines) xs ys is.parts scripts);
    told = λ i script results lt at there.
        let other = twin ys xs scripts i script at in
        are_told_on counts histories a b lines other.script script other.values results
        (is.told i other.script results (subst (λ (n : ℕ). i < n) lengths_same lt) other.at there);
  }

  pub certified_in : (verdict : Verdict) (name terminal : List ℕ)
      → HoldsOf a xs name terminal (HoldsAsCertified verdict)
      → HoldsOf b ys name terminal (HoldsAsCertified verdict)
  certified_in verdict =
      holds_of_on (HoldsAsCertified verdict)
      (λ s r values k. certified_on counts histories logic a b lines s r values verdict k)

  pub accepted_in : (verdict : Verdict) (name terminal : List ℕ)
      → HoldsOf a xs name terminal (HoldsAsAccepted verdict)
      → HoldsOf b ys name terminal (HoldsAsAccepted verdict)
  accepted_in verdict =
      holds_of_on (HoldsAsAccepted verdict)
      (λ s r values k. accepted_on counts histories logic a b lines s r values verdict k)

-- ---- all that the files say

-- the fact rests on the values alone
abbrev pub Moves : (Line → List Script → Type 0) → Type 0
Moves Fact =
    (a b : Line) → line_values b ≡ line_values a → (xs ys : List Script)
    → map values_of ys ≡ map values_of xs → Fact a xs → Fact b ys

same_ok : {X F : Type 0} (r : Result X F) (x y : X) → r ≡ Ok x → r ≡ Ok y → x ≡ y
same_ok {X} {F} r x y is other = cc

pub in_files : ((line : Line) (bytes : List ℕ) (scripts : List ScriptValues)
    → scripts_of line bytes ≡ Ok scripts → AreOfOneFile scripts)
    → (line_bytes scripts_bytes : List ℕ) (Fact : Line → List Script → Type 0) → Moves Fact
    → (of : Line) (all : List Script) → line_of line_bytes ≡ Ok (line_values of)
    → scripts_of of scripts_bytes ≡ Ok (map values_of all) → Fact of all
    → InFiles line_bytes scripts_bytes Fact
in_files once line_bytes scripts_bytes Fact moves of all line_is scripts_are holds = record {
  line = of;
  scripts = all;
  are_said = record { line_is = line_is; scripts_are = scripts_are };
  once = once of scripts_bytes (map values_of all) scripts_are;
  holds = λ line scripts said.
      let lines : line_values line ≡ line_values of =
      same_ok (line_of line_bytes) (line_values line) (line_values of) said.line_is line_is in
      moves of line lines all scripts
      (same_ok (scripts_of line scripts_bytes) (map values_of scripts) (map values_of all)
      said.scripts_are
      (scripts_same of line (same_but_params of line lines) scripts_bytes ∙ scripts_are))
      holds;
}

-- what follows from it, of one line and scripts, is so of all
pub in_files_then : (line_bytes scripts_bytes : List ℕ) (F G : Line → List Script → Type 0)
    → ((of : Line) (all : List Script) → F of all → G of all) → InFiles line_bytes scripts_bytes F
    → InFiles line_bytes scripts_bytes G
in_files_then line_bytes scripts_bytes F G follows is = record {
  line = is.line;
  scripts = is.scripts;
  are_said = is.are_said;
  once = is.once;
  holds = λ of all said. follows of all (is.holds of all said);
}
