use Rattle.std.proofs.Common.{◌≡◌, ◌≤◌, ◌<◌, ℕ, List, Option, Some, None, subst, arith, ⊎_elim}
use Rattle.std.proofs.lemmas.Bool.{cases_lt}
use Rattle.std.proofs.lemmas.Result.{IfOk-weaker}
use Rattle.std.specs.Prelude.{MatchOption, slice_get}
use Rattle.std.specs.List.{All}
use Rattle.model_line.specs.Parameters.{terminal_count, declared_ends}
use Rattle.model_line.specs.{declared.line.Line.Line, declared.script.Script.Script, Fits.Fits}
use Rattle.model_logic.specs.Choice.{Choice, IsWithin}
use Rattle.model_logic.specs.Histories.{History, IsLineHistory, Meets}
use Rattle.judge_report.specs.Margin.{IsHeldTo, IsLostAt, IsMargin, HasNoMargin, IsBracket}
use Rattle.judge_report.specs.Margin.{IsUpperEnd, IsLostAbove, IsLostAtLeast}
use Rattle.judge_report.specs.{Known.Known, declared.upper_end.Lost.Lost}
use Rattle.judge_report.specs.{declared.upper_end.UpperEnd.UpperEnd, Raised.raised, Lost.IsLoss}
use Rattle.judge_report.proofs.MarginLaws.{held_met, none_held, lost_not_held}
use Rattle.judge_report.proofs.searching.margin.Goals as goal

module _ (known : Known) (line : Line) (scripts : List Script) (param : ℕ)
    (fit : All (Fits line) scripts) where
  -- held at a number and lost at 4000
  opened : (v : ℕ) (lost : Lost) → (declared_ends line param).least ≤ v → v ≤ 4000
      → IsHeldTo line scripts param v → IsLostAt line scripts param 4000 lost
      → IsBracket line scripts param v 4000 lost
  opened v lost least le held at = record {
    least = least;
    apart = ⊎_elim (λ lt. lt)
        (λ above.
        let e : v ≡ 4000 = omega arith in
        absurd (lost_not_held known line scripts param fit 4000 lost at
        (subst (λ (n : ℕ). IsHeldTo line scripts param n) e held)))
        (cases_lt v 4000);
    limit = omega arith;
    held = held;
    lost_at = at;
  }

  -- the margin of an upper end, if it has one
  margin_of : (greatest : Option ℕ) (lost : Option Lost) (v : ℕ)
      → MatchOption greatest
      (HasNoMargin line scripts param × IsLostAtLeast line scripts param lost)
      (λ n. IsMargin line scripts param n × IsLostAbove line scripts param n lost)
      → greatest ≡ Some v → IsHeldTo line scripts param v
  margin_of None lost v is e = absurd (cc)
  margin_of (Some n) lost v is e =
      let same : n ≡ v = cc in
      subst (λ (m : ℕ). IsHeldTo line scripts param m) same is.0.held

  end_met : (end : UpperEnd) → IsUpperEnd line scripts param end
      → (v s k : ℕ) (script : Script) → end.greatest ≡ Some v
      → slice_get scripts s ≡ Some script → k < terminal_count line
      → (choice : Choice) (h : History) → IsWithin line choice (raised line param v)
      → IsLineHistory line script choice h → Meets line script k h
  end_met end is v s k script e at kn choice h within is_h =
      held_met known line scripts param fit v s k script (margin_of end.greatest end.lost v is e) at kn
      choice h within is_h

pub returns-in-Some-clause-margin : goal.returns-in-Some-clause-margin
returns-in-Some-clause-margin c =
    let line = c.args.compiled.now.line.now in
    let scripts = c.args.scripts.now in
    let param = c.args.param in
    let at : IsLostAt line scripts param (declared_ends line param).least c.in-Some.lost =
    subst (λ (n : ℕ). IsLostAt line scripts param n c.in-Some.lost) c.least-least.ensures.number
    (subst (λ (o : Option Lost). IsLoss line scripts (raised line param c.least-least.result) o)
    c.in-Some.is c.in_ok-lost.ensures) in
    (none_held c.laws_below.ensures line scripts param c.requires.fit c.in-Some.lost at, at)

pub between-requires-clause-bracket : goal.between-requires-clause-bracket
between-requires-clause-bracket c =
    let line = c.args.compiled.now.line.now in
    let scripts = c.args.scripts.now in
    let param = c.args.param in
    let least = c.least-least.result in
    opened c.laws_below.ensures line scripts param c.requires.fit least c.in-Some-2.lost
    (omega (arith, c.least-least.ensures.number)) c.least-least.ensures.small
    (subst (λ (o : Option Lost). IsLoss line scripts (raised line param least) o)
    c.in_default.is c.in_ok-lost.ensures)
    (subst (λ (o : Option Lost). IsLoss line scripts (raised line param 4000) o)
    c.in-Some-2.is c.in_ok-lost_at.ensures)

pub returns-in-Some-2-clause-met : goal.returns-in-Some-2-clause-met
returns-in-Some-2-clause-met c =
    let line = c.args.compiled.now.line.now in
    let scripts = c.args.scripts.now in
    let param = c.args.param in
    IfOk-weaker c.between.result (λ (end : UpperEnd). IsUpperEnd line scripts param end)
    (λ (end : UpperEnd). (v s k : ℕ) (script : Script) → end.greatest ≡ Some v
    → slice_get scripts s ≡ Some script → k < terminal_count line
    → (choice : Choice) (h : History) → IsWithin line choice (raised line param v)
    → IsLineHistory line script choice h → Meets line script k h)
    (λ end is. end_met c.laws_below.ensures line scripts param c.requires.fit end is)
    c.between.ensures
