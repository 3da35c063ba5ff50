-- A reason is made of a fact and of the reasons of what it rests on.
use Rattle.std.proofs.Common.{◌≡◌, ℕ, ◌≤◌, ◌++◌, List, [], ◌∷◌, Option, None, Some, length}
use Rattle.std.proofs.Common.{sym, ◌∙◌, ap, subst, arith, append_assoc, length-append}
use Rattle.std.proofs.lemmas.List.{append-nil}
use Rattle.std.specs.Prelude.{IsTrue, IsFalse, Result, Ok, Err, OnOk}
use Rattle.judge_why.specs.declared.fact.{Spot.Spot, Fact.Fact}
use Rattle.judge_why.specs.{Plays.PlayOf, Facts.IsFact, Causes.first_cause, Causes.second_cause}
use Rattle.judge_why.specs.Reasons.{Nothing, Again, Cut, Because, AddsReason, IsReason}
use Rattle.judge_why.specs.Reasons.{depth_below, most, preorder, tells}

-- nothing is added where there is nothing, where it is told before, and where no more are told
pub adds_nothing : (play : PlayOf) (depth : ℕ) (facts : List Fact) → length facts ≤ most
    → AddsReason play depth None facts facts
adds_nothing play depth facts few = record {
  reason = Nothing;
  is = tt;
  added = sym (append-nil facts);
  few = few;
}

pub adds_again : (play : PlayOf) (depth : ℕ) (spot : Spot) (facts : List Fact)
    → IsTrue (tells facts spot) → length facts ≤ most
    → AddsReason play depth (Some spot) facts facts
adds_again play depth spot facts told few = record {
  reason = Again;
  is = told;
  added = sym (append-nil facts);
  few = few;
}

pub adds_cut : (play : PlayOf) (depth : ℕ) (spot : Spot) (facts : List Fact) → most ≤ length facts
    → length facts ≤ most → AddsReason play depth (Some spot) facts facts
adds_cut play depth spot facts full few = record {
  reason = Cut;
  is = full;
  added = sym (append-nil facts);
  few = few;
}

-- what was there before is no longer than what there is
pub adds_more : (play : PlayOf) (depth : ℕ) (spot : Option Spot) (old new : List Fact)
    → AddsReason play depth spot old new → length old ≤ length new
adds_more play depth spot old new adds =
    omega (arith, ap length adds.added, length-append old (preorder adds.reason))

added_all : (old pushed between new : List Fact) (fact : Fact) (one other : List Fact)
    → pushed ≡ old ++ fact ∷ [] → between ≡ pushed ++ one → new ≡ between ++ other
    → new ≡ old ++ (fact ∷ (one ++ other))
added_all old pushed between new fact one other first second third =
    rw (third, second, first) (simp append_assoc)

-- a fact, and what the two that it rests on add
pub adds_fact : (play : PlayOf) (depth : ℕ) (spot : Spot) (fact : Fact)
    (old pushed between new : List Fact) → IsFalse (tells old spot) → IsFact play spot depth fact
    → pushed ≡ old ++ fact ∷ []
    → AddsReason play (depth_below play fact) (first_cause play fact) pushed between
    → AddsReason play (depth_below play fact) (second_cause play fact) between new
    → AddsReason play depth (Some spot) old new
adds_fact play depth spot fact old pushed between new fresh so first one other =
    let below : ℕ = depth_below play fact in
    let at_one : IsReason play (old ++ fact ∷ []) below (first_cause play fact) one.reason =
    subst (λ (l : List Fact). IsReason play l below (first_cause play fact) one.reason) first one.is in
    let stood : between ≡ (old ++ fact ∷ []) ++ preorder one.reason =
    one.added ∙ ap (λ (l : List Fact). l ++ preorder one.reason) first in
    let at_other : IsReason play ((old ++ fact ∷ []) ++ preorder one.reason) below
    (second_cause play fact) other.reason =
    subst (λ (l : List Fact). IsReason play l below (second_cause play fact) other.reason) stood
    other.is in
    record {
      reason = Because fact one.reason other.reason;
      is = (fresh, (so, (at_one, at_other)));
      added = added_all old pushed between new fact (preorder one.reason) (preorder other.reason)
          first one.added other.added;
      few = other.few;
    }

-- the same where what it rests on was looked for, and the last of it may have failed
pub explained : {T E : Type 0} (play : PlayOf) (depth below : ℕ) (spot : Spot) (fact : Fact)
    (o1 o2 : Option Spot) (old pushed between new : List Fact) (r : Result T E)
    → IsFalse (tells old spot) → IsFact play spot depth fact → pushed ≡ old ++ fact ∷ []
    → below ≡ depth_below play fact → o1 ≡ first_cause play fact → o2 ≡ second_cause play fact
    → AddsReason play below o1 pushed between → OnOk r (AddsReason play below o2 between new)
    → OnOk r (AddsReason play depth (Some spot) old new)
explained play depth below spot fact o1 o2 old pushed between new (Ok x) fresh so added is_below is_first is_second
    one other =
    let first : AddsReason play (depth_below play fact) (first_cause play fact) pushed between =
    subst (λ (n : ℕ). AddsReason play n (first_cause play fact) pushed between) is_below
    (subst (λ (o : Option Spot). AddsReason play below o pushed between) is_first one) in
    let second : AddsReason play (depth_below play fact) (second_cause play fact) between new =
    subst (λ (n : ℕ). AddsReason play n (second_cause play fact) between new) is_below
    (subst (λ (o : Option Spot). AddsReason play below o between new) is_second other) in
    adds_fact play depth spot fact old pushed between new fresh so added first second
explained play depth below spot fact o1 o2 old pushed between new (Err e) fresh so added is_below is_first is_second
    one other = other
