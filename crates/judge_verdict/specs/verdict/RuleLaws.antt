-- The rule by two rails is the rule of the model.
use Rattle.std.specs.Prelude.{◌≡◌, ℕ, Bool}
use Rattle.std.proofs.Common.{◌∙◌, ap}
use Rattle.model_history.specs.{Elements.some_below, Rails.Rails}
use Rattle.model_line.specs.declared.script.Kind.TheVariants.{Internal, External}
use Rattle.model_line.specs.declared.script.Kind.{Kind}
use Rattle.model_logic.specs.Rule.{rule_by}
use Rattle.judge_verdict.specs.verdict.Rules.{counted_ticks, rule_from}

-- by the two rails it is the rule of the model
pub rule_by_rails : (kind : Kind) (deadline horizon : ℕ) (trip : ℕ → Rails) (must may : Bool)
    → must ≡ some_below (λ t. (trip t).must) (counted_ticks kind deadline horizon)
    → may ≡ some_below (λ t. (trip t).may) (counted_ticks kind deadline horizon)
    → rule_from kind must may ≡ rule_by kind deadline horizon trip
unfolding rule_by
rule_by_rails Internal deadline horizon trip must may is_must is_may =
    ap (λ (b : Bool). rule_from Internal b may) is_must
    ∙ ap (rule_from Internal
    (some_below (λ t. (trip t).must) (counted_ticks Internal deadline horizon))) is_may
rule_by_rails External deadline horizon trip must may is_must is_may =
    ap (λ (b : Bool). rule_from External b may) is_must
    ∙ ap (rule_from External
    (some_below (λ t. (trip t).must) (counted_ticks External deadline horizon))) is_may
