-- What is said of all lengths of a part is said of those of each part within it.
use Rattle.std.proofs.Common.{ℕ, List, length, sym, subst, arith}
use Rattle.std.proofs.Math.Nat.{mul-le-mul_right}
use Rattle.std.specs.Prelude.{get_or}
use Rattle.model_history.specs.Rails.{Ends, single}
use Rattle.model_logic.specs.Histories.{History}
use Rattle.model_borders.specs.Borders.{AreLengthsIn, shown_at}
use Rattle.model_fine.specs.Loose.{IsShownHistory}
use Rattle.judge_borders.specs.declared.fault.Fault.{Fault}
use Rattle.judge_borders.specs.declared.fault.PartRule.{PartRule}
use Rattle.judge_borders.specs.declared.fault.PartRule.TheVariants.{Held, Broken, Open}
use Rattle.judge_borders.specs.Parts.{AreRules, ForEachHistory, MeetsAt, RuleSays, line_of}
use Rattle.judge_borders.specs.Halves.{AreWithin}

-- lengths of the new part are lengths of the part
pub lengths_within : (n : ℕ) (part new : List Ends) (x : ℕ → ℕ) → AreWithin part new
    → AreLengthsIn n new x → AreLengthsIn n part x
lengths_within n part new x is are = record {
  least = λ i lt.
      let scaled = mul-le-mul_right {m = (get_or part i (single 0)).least}
      {n = (get_or new i (single 0)).least} n (is.from i lt) in
      let own = are.least i (omega (arith, lt, is.many)) in
      omega (arith, scaled, own);
  greatest = λ i lt.
      let scaled = mul-le-mul_right {m = (get_or new i (single 0)).greatest}
      {n = (get_or part i (single 0)).greatest} n (is.to i lt) in
      let own = are.greatest i (omega (arith, lt, is.many)) in
      omega (arith, scaled, own);
}

-- so of every history
within_each : (fault : Fault) (part new : List Ends) (Fact : ℕ → (ℕ → ℕ) → ℕ → History → Type 0)
    → AreWithin part new → ForEachHistory fault part (λ n x h. Fact n x (length part) h)
    → ForEachHistory fault new (λ n x h. Fact n x (length new) h)
within_each fault part new Fact is each n x choice h some are inside is_h =
    subst (λ (m : ℕ). Fact n x m h) (sym is.many)
    (each n x choice h some (lengths_within n part new x is are) inside
    (subst (λ (m : ℕ). IsShownHistory n (line_of fault) (shown_at n fault.script.now m x) choice h)
    is.many is_h))

pub rule_within : (fault : Fault) (part new : List Ends) (k : ℕ) (rule : PartRule) → AreWithin part new
    → RuleSays fault part k rule → RuleSays fault new k rule
rule_within fault part new k Held is says =
    within_each fault part new (λ n x m h. MeetsAt n x fault m (h.trip k)) is says
rule_within fault part new k Broken is says =
    within_each fault part new (λ n x m h. ¬ (MeetsAt n x fault m (h.trip k))) is says
rule_within fault part new k Open is says = says

pub rules_within : (fault : Fault) (part new : List Ends) (rules : List PartRule) → AreWithin part new
    → AreRules fault part rules → AreRules fault new rules
rules_within fault part new rules is are = record {
  count = are.count;
  each = λ k rule at. rule_within fault part new k rule is (are.each k rule at);
}
