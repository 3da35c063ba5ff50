-- The losses of a line with another greatest number for one parameter.
use Rattle.std.proofs.Common.{◌≡◌, ◌<◌, ◌≤◌, ◌+◌, ℕ, List, Some, Option, None, sym, subst}
use Rattle.std.proofs.Common.{arith, ⊎_elim, length}
use Rattle.std.proofs.lemmas.Bool.{cases_lt}
use Rattle.std.proofs.lemmas.Option.{slice_get_within}
use Rattle.std.specs.Prelude.{slice_get}
use Rattle.model_line.specs.Parameters.{terminal_count, param_count, declared_ends}
use Rattle.model_line.specs.{declared.line.Line.Line, declared.script.Script.Script}
use Rattle.model_line.specs.WithBounds.{IsWithBounds}
use Rattle.model_line.specs.SameLineLaws.{exchanged}
use Rattle.model_logic.specs.Choice.{Box, declared_box}
use Rattle.model_logic.specs.{Boxes.IsSameBox, HeldOver.IsHeldOver}
use Rattle.model_logic.specs.BoxLaws.{turned}
use Rattle.judge_report.specs.Lost.{IsScriptHeld, AreHeld, AllHeld, IsLoss}
use Rattle.judge_report.specs.{Known.Known, declared.upper_end.Lost.Lost, Raised.raised}

module _ (known : Known) (line other : Line) (param v : ℕ) (here : param < param_count line)
    (is : IsWithBounds line param (declared_ends line param).least v other) where
  same : IsSameBox line (declared_box other) (raised line param v)
  same = known.changed.all line other param (declared_ends line param).least v here is

  moved : (script : Script) (k : ℕ) → IsHeldOver other script k (declared_box other)
      → IsHeldOver line script k (raised line param v)
  moved script k held =
      known.held.same line script k (declared_box other) (raised line param v)
      (turned line (declared_box other) (raised line param v) same)
      (known.held.lines other line script k (declared_box other)
      (exchanged line other is.rest) held)

  back : (script : Script) (k : ℕ) → IsHeldOver line script k (raised line param v)
      → IsHeldOver other script k (declared_box other)
  back script k held =
      known.held.lines line other script k (declared_box other) is.rest
      (known.held.same line script k (raised line param v) (declared_box other) same held)

  there : (k : ℕ) → k < terminal_count line → k < terminal_count other
  there k kn = subst (λ (n : ℕ). k < n) (sym (known.counts.terminals line other is.rest)) kn

  script_moved : (script : Script)
      → IsScriptHeld other script (declared_box other) (terminal_count other)
      → IsScriptHeld line script (raised line param v) (terminal_count line)
  script_moved script all = record { held = λ k kn. moved script k (all.held k (there k kn)) }

  pub loss_moved : (scripts : List Script) (lost : Option Lost)
      → IsLoss other scripts (declared_box other) lost
      → IsLoss line scripts (raised line param v) lost
  loss_moved scripts None all = record {
    held = λ s script at. script_moved script (all.held s script at);
  }
  loss_moved scripts (Some lost) first = record {
    script = first.script;
    at = first.at;
    terminal = record {
      exists = subst (λ (n : ℕ). lost.terminal < n) (known.counts.terminals line other is.rest)
          first.terminal.exists;
      lost = λ held. first.terminal.lost (back first.script lost.terminal held);
      before = record {
        held = λ k lt. moved first.script k (first.terminal.before.held k lt);
      };
    };
    before = record {
      held = λ s script lt at. script_moved script (first.before.held s script lt at);
    };
  }

-- ---- one more

pub one_terminal_more : (line : Line) (script : Script) (box : Box) (n : ℕ)
    → IsScriptHeld line script box n → IsHeldOver line script n box
    → IsScriptHeld line script box (n + 1)
one_terminal_more line script box n all here = record {
  held = λ k lt.
      ⊎_elim (λ earlier. all.held k earlier)
      (λ last. let e : n ≡ k = omega arith in
      subst (λ (j : ℕ). IsHeldOver line script j box) e here)
      (cases_lt k n);
}

pub one_script_more : (line : Line) (scripts : List Script) (box : Box) (n : ℕ) (script : Script)
    → slice_get scripts n ≡ Some script → AreHeld line scripts box n
    → IsScriptHeld line script box (terminal_count line) → AreHeld line scripts box (n + 1)
one_script_more line scripts box n script here all held = record {
  held = λ s other lt at.
      ⊎_elim (λ earlier. all.held s other earlier at)
      (λ last. let e : s ≡ n = omega arith in
      let same : script ≡ other = cc in
      subst (λ (x : Script). IsScriptHeld line x box (terminal_count line)) same held)
      (cases_lt s n);
}

pub all_scripts : (line : Line) (scripts : List Script) (box : Box) (n : ℕ) → length scripts ≤ n
    → AreHeld line scripts box n → AllHeld line scripts box
all_scripts line scripts box n le all = record {
  held = λ s script at.
      let inside : s < length scripts = slice_get_within scripts s script at in
      all.held s script (omega arith) at;
}

-- ---- elements by index
