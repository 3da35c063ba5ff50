-- Plays whose gates have the same levels have the same reasons.
use Rattle.std.proofs.Common.{◌≡◌, ℕ, ◌<◌, ◌≤◌, ◌+◌, ◌++◌, Bool, List, [], ◌∷◌, Option, None, Some, length}
use Rattle.std.proofs.Common.{refl, sym, ◌∙◌, ap, subst, arith, cond}
use Rattle.std.specs.Prelude.{slice_get}
use Rattle.net_gates.specs.declared.gate.Gate.{Gate}
use Rattle.net_gates.specs.declared.gate.Gate.TheVariants.{Const, Seen, Loss, Raw, Not, And, Or}
use Rattle.net_gates.specs.declared.gate.Gate.TheVariants.{Timer, Seal}
use Rattle.net_gates.specs.Gates.{AreGates}
use Rattle.judge_why.specs.declared.fact.{Spot.Spot, Fact.Fact}
use Rattle.model_logic.specs.SameTree.{same_value}
use Rattle.judge_why.specs.Plays.{PlayOf}
use Rattle.judge_why.specs.Facts.{IsFact, IsStretch}
use Rattle.judge_why.specs.Causes.{first_by, second_by, first_cause, second_cause, of_gate, if_alike}
use Rattle.judge_why.specs.Causes.{spot_at}
use Rattle.judge_why.specs.Reasons.{Reason, Nothing, Again, Cut, Because, IsReason, IsWhy, preorder}
use Rattle.judge_why.specs.Reasons.{depth_below}

-- the play with other levels, and other gates told
abbrev pub with_levels : PlayOf → (ℕ → ℕ → Bool) → (ℕ → Bool) → PlayOf
with_levels play level told = record {
  net = play.net;
  horizon = play.horizon;
  level = level;
  from = play.from;
  delay = play.delay;
  told = told;
}

-- they are the same at each gate of the net and each tick of the run, and the same gates are told
pub record AreAlike (play : PlayOf) (level : ℕ → ℕ → Bool) (told : ℕ → Bool) : Type 0 where
  pub laws : AreGates play.net.gates
  pub levels : (g t : ℕ) → g < length play.net.gates → t < play.horizon → play.level g t ≡ level g t
  pub tell : (g : ℕ) → play.told g ≡ told g

stretch_alike : (u v : ℕ → Bool) (horizon : ℕ) (level : Bool) (from to tick : ℕ)
    → ((t : ℕ) → t < horizon → u t ≡ v t) → from ≤ tick → tick < to
    → IsStretch u horizon level from to → IsStretch v horizon level from to
stretch_alike u v horizon level from to tick same past lasts so = record {
  within = so.within;
  stays = λ r later early. sym (same r (omega (arith, so.within))) ∙ so.stays r later early;
  begins = λ r is. sym (same r (omega (arith, so.within))) ∙ so.begins r is;
  ends = λ early. sym (same to early) ∙ so.ends early;
}

module _ (play : PlayOf) (level : ℕ → ℕ → Bool) (told : ℕ → Bool) (alike : AreAlike play level told) where
  fact_alike : (spot : Spot) (depth : ℕ) (fact : Fact) → IsFact play spot depth fact
      → IsFact (with_levels play level told) spot depth fact
  fact_alike spot depth fact so = record {
    gate = so.gate;
    tick = so.tick;
    there = so.there;
    deep = so.deep;
    past = so.past;
    lasts = so.lasts;
    stretch = stretch_alike (play.level fact.gate) (level fact.gate) play.horizon fact.level fact.from
        fact.to fact.tick (λ t early. alike.levels fact.gate t so.there early) so.past so.lasts so.stretch;
  }

  operand_alike : (fact : Fact) (x : ℕ) → x < length play.net.gates → fact.tick < play.horizon
      → if_alike play fact x ≡ if_alike (with_levels play level told) fact x
  operand_alike fact x there early =
      ap (λ (v : Bool). cond (same_value v fact.level) (spot_at x fact.tick) None)
      (alike.levels x fact.tick there early)

  first_of_gate : (fact : Fact) (o : Option Gate) → slice_get play.net.gates fact.gate ≡ o
      → fact.gate < length play.net.gates → fact.tick < play.horizon
      → of_gate (first_by play fact) o ≡ of_gate (first_by (with_levels play level told) fact) o
  first_of_gate fact None at there early = refl
  first_of_gate fact (Some (Const v)) at there early = refl
  first_of_gate fact (Some (Seen p)) at there early = refl
  first_of_gate fact (Some (Loss c)) at there early = refl
  first_of_gate fact (Some (Raw c)) at there early = refl
  first_of_gate fact (Some (Not x)) at there early = refl
  first_of_gate fact (Some (And x y)) at there early =
      let below : x.0 < fact.gate = (alike.laws.earlier fact.gate (And x y) at).0 in
      operand_alike fact x.0 (omega arith) early
  first_of_gate fact (Some (Or x y)) at there early =
      let below : x.0 < fact.gate = (alike.laws.earlier fact.gate (Or x y) at).0 in
      operand_alike fact x.0 (omega arith) early
  first_of_gate fact (Some (Timer x p d)) at there early = refl
  first_of_gate fact (Some (Seal x y)) at there early = refl

  second_of_gate : (fact : Fact) (o : Option Gate) → slice_get play.net.gates fact.gate ≡ o
      → fact.gate < length play.net.gates → fact.tick < play.horizon
      → of_gate (second_by play fact) o ≡ of_gate (second_by (with_levels play level told) fact) o
  second_of_gate fact None at there early = refl
  second_of_gate fact (Some (Const v)) at there early = refl
  second_of_gate fact (Some (Seen p)) at there early = refl
  second_of_gate fact (Some (Loss c)) at there early = refl
  second_of_gate fact (Some (Raw c)) at there early = refl
  second_of_gate fact (Some (Not x)) at there early = refl
  second_of_gate fact (Some (And x y)) at there early =
      let below : y.0 < fact.gate = (alike.laws.earlier fact.gate (And x y) at).1 in
      operand_alike fact y.0 (omega arith) early
  second_of_gate fact (Some (Or x y)) at there early =
      let below : y.0 < fact.gate = (alike.laws.earlier fact.gate (Or x y) at).1 in
      operand_alike fact y.0 (omega arith) early
  second_of_gate fact (Some (Timer x p d)) at there early = refl
  second_of_gate fact (Some (Seal x y)) at there early = refl

  below_alike : (fact : Fact) → depth_below play fact ≡ depth_below (with_levels play level told) fact
  below_alike fact = ap (λ (b : Bool). cond b (fact.depth + 1) fact.depth) (alike.tell fact.gate)

  early_tick : (spot : Spot) (depth : ℕ) (fact : Fact) → IsFact play spot depth fact
      → fact.tick < play.horizon
  early_tick spot depth fact so = omega (arith, so.lasts, so.stretch.within)

  pub reason_alike : (before : List Fact) (depth : ℕ) (spot : Option Spot) (reason : Reason)
      → IsReason play before depth spot reason
      → IsReason (with_levels play level told) before depth spot reason
  reason_alike before depth None Nothing so = tt
  reason_alike before depth None Again so = absurd so
  reason_alike before depth None Cut so = absurd so
  reason_alike before depth None (Because fact one other) so = absurd so
  reason_alike before depth (Some spot) Nothing so = absurd so
  reason_alike before depth (Some spot) Again so = so
  reason_alike before depth (Some spot) Cut so = so
  reason_alike before depth (Some spot) (Because fact one other) so =
      let so_fact : IsFact play spot depth fact = so.1.0 in
      let early : fact.tick < play.horizon = early_tick spot depth fact so_fact in
      let alike_play : PlayOf = with_levels play level told in
      let stood : List Fact = before ++ fact ∷ [] in
      let first : IsReason alike_play stood (depth_below alike_play fact) (first_cause alike_play fact) one =
      subst (λ (n : ℕ). IsReason alike_play stood n (first_cause alike_play fact) one) (below_alike fact)
      (subst (λ (o : Option Spot). IsReason alike_play stood (depth_below play fact) o one)
      (first_of_gate fact (slice_get play.net.gates fact.gate) refl so_fact.there early)
      (reason_alike stood (depth_below play fact) (first_cause play fact) one so.1.1.0)) in
      let second : IsReason alike_play (stood ++ preorder one) (depth_below alike_play fact)
      (second_cause alike_play fact) other =
      subst (λ (n : ℕ). IsReason alike_play (stood ++ preorder one) n (second_cause alike_play fact) other)
      (below_alike fact)
      (subst (λ (o : Option Spot). IsReason alike_play (stood ++ preorder one) (depth_below play fact) o other)
      (second_of_gate fact (slice_get play.net.gates fact.gate) refl so_fact.there early)
      (reason_alike (stood ++ preorder one) (depth_below play fact) (second_cause play fact) other so.1.1.1)) in
      (so.0, (fact_alike spot depth fact so_fact, (first, second)))

  pub why_alike : (spot : Spot) (facts : List Fact) → IsWhy play spot facts
      → IsWhy (with_levels play level told) spot facts
  why_alike spot facts why = record {
    reason = why.reason;
    is = reason_alike [] 0 (Some spot) why.reason why.is;
    are = why.are;
    few = why.few;
  }
