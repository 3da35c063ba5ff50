-- Parts within one another.
use Rattle.std.specs.Prelude.{ℕ, List}
use Rattle.model_history.specs.Rails.{Ends}
use Rattle.judge_borders.specs.declared.fault.{Fault.Fault, PartRule.PartRule}
use Rattle.judge_borders.specs.{Halves.AreWithin, Parts.AreRules, Parts.RuleSays}

-- what is known of a part is known of each part within it
pub record WhatIsKnownOfAPartIsKnownWithin : Type 0 where
  pub rules : (fault : Fault) (part new : List Ends) (rules : List PartRule) → AreWithin part new
      → AreRules fault part rules → AreRules fault new rules
  pub rule : (fault : Fault) (part new : List Ends) (k : ℕ) (rule : PartRule) → AreWithin part new
      → RuleSays fault part k rule → RuleSays fault new k rule
