-- What is told of a part is so.
use Rattle.std.proofs.Common.{◌≡◌, ◌<◌, ℕ, Bool, true, false, List, Option, Some, None, refl, sym, subst, ◌∙◌}
use Rattle.std.specs.Prelude.{slice_get}
use Rattle.model_history.specs.Rails.{Ends}
use Rattle.model_line.specs.Parameters.{terminal_count}
use Rattle.model_history.specs.ListLaws.{exists_at}
use Rattle.std.proofs.lemmas.Option.{slice_get_within}
use Rattle.judge_verdict.specs.verdict.OneEach.{OneEach}
use Rattle.judge_borders.specs.declared.fault.PartRule.{PartRule}
use Rattle.judge_borders.specs.declared.fault.PartRule.TheVariants as rule
use Rattle.judge_borders.specs.{Halves.AreWithin, Parts.AreRules, Parts.IsPart, Parts.RuleSays, Parts.line_of}
use Rattle.judge_times.specs.declared.fault.Uncertain.{Uncertain}
use Rattle.judge_times.specs.declared.part.{Part.Part, Told.Told}
use Rattle.judge_times.specs.Answers.{AreFailing, FailsAt, IsAnswer, Says}
use Rattle.judge_times.specs.Told.{IsToldOf, told_by}

says_so : (of : Uncertain) (part : List Ends) (k : ℕ) (r : PartRule) (fails : Option Bool)
    → RuleSays of.fault part k r → (fails ≡ Some true → FailsAt of part k)
    → Says of part k (told_by r fails)
says_so of part k rule.Held fails says failing = says
says_so of part k rule.Broken fails says failing = says
says_so of part k rule.Open (Some true) says failing = failing refl
says_so of part k rule.Open (Some false) says failing = tt
says_so of part k rule.Open None says failing = tt

pub told_so : (of : Uncertain) (part : List Ends) (rules : List PartRule) (fails : List Bool)
    (told : List Told) → AreRules of.fault part rules → AreFailing of part fails
    → IsToldOf rules fails told → OneEach (Says of part) (terminal_count (line_of of.fault)) told
told_so of part rules fails told are failing is = record {
  count = is.count ∙ are.count;
  each = λ k one at.
      let inside = slice_get_within told k one at in
      let ruled : (r : PartRule) × (slice_get rules k ≡ Some r) =
      exists_at rules k (subst (λ (n : ℕ). k < n) is.count inside) in
      subst (Says of part k) (sym (is.each k one at ruled.0 ruled.1))
      (says_so of part k ruled.0 (slice_get fails k) (are.each k ruled.0 ruled.1) (failing k));
}

pub is_answer : (of : Uncertain) (whole part : List Ends) (rules : List PartRule) (fails : List Bool)
    (own : Part) → own.lengths.items ≡ part → IsPart part → AreWithin whole part
    → AreRules of.fault part rules
    → AreFailing of part fails → IsToldOf rules fails own.told.items → IsAnswer of whole own
is_answer of whole part rules fails own same ordered within are failing is =
    let P : List Ends → Type 0 =
    λ l. (_ : IsPart l) × (_ : AreWithin whole l) × OneEach (Says of l) (terminal_count (line_of of.fault)) own.told.items in
    let both = subst P (sym same) (ordered, within, told_so of part rules fails own.told.items are failing is) in
    record { is = both.0; within = both.1; told = both.2 }
