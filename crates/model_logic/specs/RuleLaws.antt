-- What an obligation, and the rule of one, rest on.
use Rattle.std.proofs.Common.{◌≡◌, ◌≢◌, ◌⊎◌, ◌<◌, ◌≤◌, ℕ, Bool, inl, inr, refl, sym, ◌∙◌, subst, arith}
use Rattle.std.specs.Prelude.{IsTrue, IsFalse}
use Rattle.model_history.specs.Rails.{Rails}
use Rattle.model_line.specs.declared.script.Kind.TheVariants.{Internal, External}
use Rattle.model_line.specs.{declared.script.Kind.Kind, Parameters.terminal_count}
use Rattle.model_line.specs.{declared.line.Line.Line, declared.script.Script.Script}
use Rattle.model_logic.specs.Histories.{History, IsSameHistory, Meets, MeetsBy}
use Rattle.model_logic.specs.Rule.{Rule, Held, Broken, Unknown, IsHeld}

-- trips that are the same at the ticks of the run meet the same obligations
pub meets_same : (kind : Kind) (deadline horizon : ℕ) (f g : ℕ → Bool) → deadline < horizon
    → ((t : ℕ) → t < horizon → f t ≡ g t) → MeetsBy kind deadline horizon f
    → MeetsBy kind deadline horizon g
meets_same Internal deadline horizon f g early same met =
    let le : met.0 ≤ deadline = met.1 in
    (met.0, met.1, sym (same met.0 (omega arith)) ∙ met.2)
meets_same External deadline horizon f g early same met = λ t lt. sym (same t lt) ∙ met t lt

-- and so do histories that are the same
pub same_meets : (line : Line) (script : Script) (k : ℕ) (g h : History)
    → script.deadline < line.horizon → k < terminal_count line → IsSameHistory line g h
    → Meets line script k g → Meets line script k h
same_meets line script k g h early there same met =
    meets_same script.kind script.deadline line.horizon (g.trip k) (h.trip k) early
    (λ t lt. same.trips k t there lt) met

-- pairs that are the same at the ticks of the run hold the same obligations
pub held_same : (kind : Kind) (deadline horizon : ℕ) (u v : ℕ → Rails) → deadline < horizon
    → ((t : ℕ) → t < horizon → u t ≡ v t) → IsHeld kind deadline horizon u
    → IsHeld kind deadline horizon v
held_same Internal deadline horizon u v early same held =
    let le : held.0 ≤ deadline = held.1 in
    (held.0, held.1, subst (λ (x : Rails). IsTrue x.must) (same held.0 (omega arith)) held.2)
held_same External deadline horizon u v early same held =
    λ t lt. subst (λ (x : Rails). IsFalse x.may) (same t lt) (held t lt)

-- a rule is held or not, and unknown where it is neither of the others
pub rule_told : (rule : Rule) → (rule ≡ Held) ⊎ (¬ (rule ≡ Held))
rule_told Held = inl refl
rule_told Broken = inr (λ e. cc)
rule_told Unknown = inr (λ e. cc)

pub only_unknown : (r : Rule) → r ≢ Held → r ≢ Broken → r ≡ Unknown
only_unknown Held not_held not_broken = absurd (not_held refl)
only_unknown Broken not_held not_broken = absurd (not_broken refl)
only_unknown Unknown not_held not_broken = refl
