-- For which choices an obligation fails, by the rule over the interval history.
use Rattle.std.proofs.Common.{◌≡◌, ◌≢◌, ◌<◌, ℕ, sym, ap, subst, arith}
use Rattle.std.specs.Prelude.{IsTrue, IsFalse}
use Rattle.model_history.specs.Rails.{Rails}
use Rattle.model_line.specs.{declared.line.Line.Line, declared.script.Script.Script}
use Rattle.model_line.specs.declared.script.Kind.TheVariants.{Internal, External}
use Rattle.model_line.specs.{declared.script.Kind.Kind, Parameters.terminal_count}
use Rattle.model_logic.specs.Choice.{declared_box}
use Rattle.model_logic.specs.Histories.{PairHistory, IsSamePairHistory, IsSoundHistory}
use Rattle.model_logic.specs.{Laws.LineLaws, RuleLaws.held_same}
use Rattle.model_logic.specs.Rule.{Broken, IsBroken, rule_by, rule_of}
use Rattle.model_settle.specs.Schemes.{TheBestChoiceMeets}
use Rattle.model_fine.specs.Laws.{TheRuleSpeaksForEveryFineChoice}
use Rattle.run_step.specs.Runs.{IsTheHistory}
use Rattle.judge_settle.specs.settle.Answers.{FailsForEvery, FailsForSome}

-- pairs that are the same at the ticks of the run break the same obligations
broken_same : (kind : Kind) (deadline horizon : ℕ) (u v : ℕ → Rails) → deadline < horizon
    → ((t : ℕ) → t < horizon → u t ≡ v t) → IsBroken kind deadline horizon u
    → IsBroken kind deadline horizon v
broken_same Internal deadline horizon u v early same broken =
    λ t le. subst (λ (x : Rails). IsFalse x.may) (same t (omega arith)) (broken t le)
broken_same External deadline horizon u v early same broken = (
  broken.0,
  broken.1,
  subst (λ (x : Rails). IsTrue x.must) (same broken.0 broken.1) broken.2,
)

-- the rule of a line, by its horizon
pub rule_on : (line : Line) (script : Script) (trip : ℕ → Rails) (horizon : ℕ)
    → horizon ≡ line.horizon
    → rule_of line script trip ≡ rule_by script.kind script.deadline horizon trip
rule_on line script trip horizon same =
    ap (λ (h : ℕ). rule_by script.kind script.deadline h trip) (sym same)

broken_over_each : LineLaws → (line : Line) (script : Script) (k : ℕ) (v w : PairHistory)
    → script.deadline < line.horizon → k < terminal_count line → IsSamePairHistory line v w
    → rule_of line script (v.trip k) ≡ Broken → rule_of line script (w.trip k) ≡ Broken
broken_over_each laws line script k v w early there same broken =
    let own = (laws.rule.broken line script (v.trip k)).0 broken in
    (laws.rule.broken line script (w.trip k)).1 (
      broken_same script.kind script.deadline line.horizon (v.trip k) (w.trip k) early
          (λ t lt. same.trips k t there lt) own.0,
      λ held. own.1 (held_same script.kind script.deadline line.horizon (w.trip k) (v.trip k) early
          (λ t lt. sym (same.trips k t there lt)) held),
    )

module _ (laws : LineLaws) (line : Line) (script : Script) (k : ℕ) (w : PairHistory)
    (early : script.deadline < line.horizon) (there : k < terminal_count line)
    (the : IsTheHistory line script (declared_box line) w) where
  sound : IsSoundHistory line w
  sound =
      laws.sound line script (declared_box line) _ w (laws.inside.declared line)
      (laws.inside.inside line) the.is

  pub for_every : TheRuleSpeaksForEveryFineChoice → rule_of line script (w.trip k) ≡ Broken
      → FailsForEvery line script k
  for_every fine broken = record {
    broken = λ v is_v.
        broken_over_each laws line script k w v early there (the.only v is_v) broken;
    fail = λ n choice h some within is_h.
        fine.broken n line script (declared_box line) w k some early (laws.inside.declared line) the.is
        there broken choice h within is_h;
  }

  pub for_some : TheBestChoiceMeets → rule_of line script (w.trip k) ≢ Broken
      → FailsForSome line script k
  for_some best unbroken = record {
    unbroken = λ over. unbroken (over w the.is);
    met = λ railed.
        best line script w k early railed the.is there
        (λ broken. unbroken ((laws.sound_rule line script w k early sound there).1 broken));
  }
