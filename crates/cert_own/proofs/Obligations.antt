-- The rule is held over trips that are the same.
use Rattle.std.proofs.Common.{◌≡◌, ℕ, ◌<◌}
use Rattle.model_history.specs.Rails.{Rails}
use Rattle.model_line.specs.declared.script.Script.{Script}
use Rattle.model_line.specs.declared.line.Line.{Line}
use Rattle.model_logic.specs.Rule.{Held, rule_of}
use Rattle.model_logic.specs.RuleLaws.{held_same}
use Rattle.cert_own.specs.Known.{Known}

pub rule_same : Known → (line : Line) (script : Script) (a b : ℕ → Rails)
    → script.deadline < line.horizon → ((t : ℕ) → t < line.horizon → a t ≡ b t)
    → rule_of line script a ≡ Held → rule_of line script b ≡ Held
rule_same known line script a b early same held =
    (known.lines.rule.held line script b).1
    (held_same script.kind script.deadline line.horizon a b early same
    ((known.lines.rule.held line script a).0 held))
