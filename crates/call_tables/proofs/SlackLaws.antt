-- The records of slacks, one end more; and the obligations that are not held today.
use Rattle.std.proofs.Common.{◌≡◌, ◌+◌, ◌++◌, ◌∙◌, ℕ, List, ap, sym, add-one, append_assoc}
use Rattle.std.specs.Prelude.{slice_get}
use Rattle.model_line.specs.{declared.line.Line.Line, declared.script.Script.Script}
use Rattle.judge_report.specs.declared.upper_end.Lost.{Lost}
use Rattle.judge_margins.specs.declared.margins.end.End.{End}
use Rattle.judge_margins.specs.margins.Today.{ArePicked, is_not_held}
use Rattle.judge_slacks.specs.{Lacks.AreOff, declared.lack.Lack.Lack}
use Rattle.call_tables.specs.Slacks.{slack_row, slack_rows}

pub rows_more : (line : Line) (scripts : List Script) (ends : List End) (lacks : List Lack)
    (head text new : List ℕ) (n : ℕ) → text ≡ head ++ slack_rows line scripts ends lacks n
    → new ≡ text ++ slack_row line scripts n (slice_get ends n) (slice_get lacks n)
    → new ≡ head ++ slack_rows line scripts ends lacks (n + 1)
rows_more line scripts ends lacks head text new n is more =
    let row = slack_row line scripts n (slice_get ends n) (slice_get lacks n) in
    more ∙ ap (λ (l : List ℕ). l ++ row) is
    ∙ append_assoc head (slack_rows line scripts ends lacks n) row
    ∙ ap (λ (m : ℕ). head ++ slack_rows line scripts ends lacks m) (sym (add-one n))

pub others_off : (line : Line) (scripts : List Script) (s k : ℕ) (others : List Lost)
    → ArePicked line scripts (is_not_held line) s k others → AreOff line scripts others
others_off line scripts s k others are i o at =
    let picked = are.each i o at in record {
      script = picked.script;
      at = picked.at;
      terminal = picked.terminal;
      off = picked.is;
    }
