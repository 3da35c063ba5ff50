-- Parts that differ in one length and share an end of it.
use Rattle.std.proofs.Common.{◌≡◌, ◌<◌, ◌≤◌, ◌*◌, ℕ, List, length, inl, inr, sym, subst, ap, arith}
use Rattle.std.proofs.Common.{⊎_elim, ◌∙◌}
use Rattle.std.proofs.lemmas.Bool.{cases_lt, cases_eq}
use Rattle.std.specs.Prelude.{get_or}
use Rattle.model_history.specs.Rails.{Ends, single}
use Rattle.model_borders.specs.Borders.{AreLengthsIn}
use Rattle.std.proofs.lemmas.Option.{get_or_from_slice_get}
use Rattle.model_history.specs.ListLaws.{at_index}
use Rattle.judge_borders.specs.declared.middles.TwoParts.{TwoParts}
use Rattle.judge_borders.specs.Halves.{AreTwoOf, AreWithin, HaveOneLeast, ShareAnEnd, WithLength}
use Rattle.judge_borders.specs.Parts.{IsPart}

-- lengths of a part whose own lies in its new interval are lengths of the part with that
in_new : (n : ℕ) (part new : List Ends) (i : ℕ) (own : Ends) (x : ℕ → ℕ) → WithLength part new i own
    → AreLengthsIn n part x → own.least * n ≤ x i → x i ≤ own.greatest * n → AreLengthsIn n new x
in_new n part new i own x is are low high = record {
  least = λ j lt. ⊎_elim
      (λ same. subst (λ (k : ℕ). (get_or new k (single 0)).least * n ≤ x k) (sym same)
      (subst (λ (e : Ends). e.least * n ≤ x i) (sym is.here) low))
      (λ other. subst (λ (e : Ends). e.least * n ≤ x j) (sym (is.others j other))
      (are.least j (omega (arith, lt, is.many))))
      (cases_eq j i);
  greatest = λ j lt. ⊎_elim
      (λ same. subst (λ (k : ℕ). x k ≤ (get_or new k (single 0)).greatest * n) (sym same)
      (subst (λ (e : Ends). x i ≤ e.greatest * n) (sym is.here) high))
      (λ other. subst (λ (e : Ends). x j ≤ e.greatest * n) (sym (is.others j other))
      (are.greatest j (omega (arith, lt, is.many))))
      (cases_eq j i);
}

share_end : (part lower upper : List Ends) (i : ℕ) (a b : Ends) → i < length part
    → WithLength part lower i a → WithLength part upper i b
    → a.least ≡ (get_or part i (single 0)).least → b.least ≡ a.greatest
    → b.greatest ≡ (get_or part i (single 0)).greatest → ShareAnEnd part lower upper
share_end part lower upper i a b inside low high from at to n x are =
    ⊎_elim
    (λ below. inl (in_new n part lower i a x low are
    (subst (λ (y : ℕ). y * n ≤ x i) (sym from) (are.least i inside)) (omega (arith, below))))
    (λ above. inr (in_new n part upper i b x high are
    (subst (λ (y : ℕ). y * n ≤ x i) (sym at) above)
    (subst (λ (y : ℕ). x i ≤ y * n) (sym to) (are.greatest i inside))))
    (cases_lt (x i) (a.greatest * n))

-- a part with another interval in order is a part
pub part_with : (part new : List Ends) (i : ℕ) (own : Ends) → IsPart part → WithLength part new i own
    → own.least ≤ own.greatest → IsPart new
part_with part new i own is with_own ordered = record {
  few = omega (arith, is.few, with_own.many);
  ordered = λ j lt. ⊎_elim
      (λ same. subst (λ (k : ℕ). (get_or new k (single 0)).least ≤ (get_or new k (single 0)).greatest)
      (sym same)
      (subst (λ (e : Ends). e.least ≤ e.greatest) (sym with_own.here) ordered))
      (λ other. subst (λ (e : Ends). e.least ≤ e.greatest) (sym (with_own.others j other))
      (is.ordered j (omega (arith, lt, with_own.many))))
      (cases_eq j i);
}

-- a part with a narrower interval lies within it
within_with : (part new : List Ends) (i : ℕ) (own : Ends) → WithLength part new i own
    → (get_or part i (single 0)).least ≤ own.least → own.greatest ≤ (get_or part i (single 0)).greatest
    → AreWithin part new
within_with part new i own is low high = record {
  many = is.many;
  from = λ j lt. ⊎_elim
      (λ same. subst (λ (k : ℕ). (get_or part k (single 0)).least ≤ (get_or new k (single 0)).least) (sym same)
      (subst (λ (e : Ends). (get_or part i (single 0)).least ≤ e.least) (sym is.here) low))
      (λ other. subst (λ (e : Ends). (get_or part j (single 0)).least ≤ e.least) (sym (is.others j other))
      (omega arith))
      (cases_eq j i);
  to = λ j lt. ⊎_elim
      (λ same. subst (λ (k : ℕ). (get_or new k (single 0)).greatest ≤ (get_or part k (single 0)).greatest)
      (sym same)
      (subst (λ (e : Ends). e.greatest ≤ (get_or part i (single 0)).greatest) (sym is.here) high))
      (λ other. subst (λ (e : Ends). e.greatest ≤ (get_or part j (single 0)).greatest)
      (sym (is.others j other)) (omega arith))
      (cases_eq j i);
}

-- one with an interval that has the same least has the same least lengths
least_with : (part new : List Ends) (i : ℕ) (own : Ends) → WithLength part new i own
    → own.least ≡ (get_or part i (single 0)).least → HaveOneLeast part new
least_with part new i own is same_least = record {
  many = is.many;
  least = λ j. ⊎_elim
      (λ same. subst (λ (k : ℕ). (get_or new k (single 0)).least ≡ (get_or part k (single 0)).least) (sym same)
      (ap (λ (e : Ends). e.least) is.here ∙ same_least))
      (λ other. ap (λ (e : Ends). e.least) (is.others j other))
      (cases_eq j i);
}

pub own_is : (part : List Ends) (i : ℕ) (own : Ends) → i < length part → own ≡ get_or part i own
    → own ≡ get_or part i (single 0)
own_is part i own inside is =
    sym (get_or_from_slice_get part i own (single 0) (at_index part i own inside is))

pub two_of : (part : List Ends) (two : TwoParts) (i : ℕ) (own a b : Ends) → IsPart part → i < length part
    → own ≡ get_or part i (single 0) → WithLength part two.lower.items i a
    → WithLength part two.upper.items i b → a.least ≡ own.least → a.least ≤ a.greatest
    → a.greatest ≤ own.greatest → b.least ≡ a.greatest → b.greatest ≡ own.greatest → AreTwoOf part two
two_of part two i own a b is inside own_at low high from order within at to =
    let from_own : a.least ≡ (get_or part i (single 0)).least = from ∙ ap (λ (e : Ends). e.least) own_at in
    let to_own : b.greatest ≡ (get_or part i (single 0)).greatest =
    to ∙ ap (λ (e : Ends). e.greatest) own_at in
    let within_own : a.greatest ≤ (get_or part i (single 0)).greatest =
    subst (λ (e : Ends). a.greatest ≤ e.greatest) own_at within in
    record {
      lower = part_with part two.lower.items i a is low order;
      upper = part_with part two.upper.items i b is high (omega (arith, at, to, within));
      lower_within = within_with part two.lower.items i a low (omega (arith, from_own)) within_own;
      upper_within = within_with part two.upper.items i b high (omega (arith, from_own, order, at))
          (omega (arith, to_own));
      least = least_with part two.lower.items i a low from_own;
      cover = share_end part two.lower.items two.upper.items i a b inside low high from_own at to_own;
    }
