-- The first tick at which a signal is on.
use Rattle.std.proofs.Common.{◌≡◌, ◌<◌, ◌≤◌, ℕ, Bool, true, false, List, length, Option, Some, None}
use Rattle.std.proofs.Common.{sym, ◌∙◌, ap, arith, cond, ⊎_elim}
use Rattle.std.proofs.lemmas.Bool.{cases_lt, lt-ltb, le-ltb}
use Rattle.std.proofs.lemmas.List.Quantifiers.{position-Some}
use Rattle.std.proofs.lemmas.List.Sums.{position_or_len_is, fails_before_first}
use Rattle.std.specs.Prelude.{nat_lt, IsTrue, IsFalse, IfSome}
use Rattle.std.specs.List.{position_or_len}
use Rattle.model_history.specs.Recorded.{first_ticks}
use Rattle.model_history.specs.FirstTickLaws.{length-first_ticks, get_or-first_ticks}
use Rattle.run_waves.specs.waves.FirstTick.{first_on, IsFirstOn}

module _ (u : ℕ → Bool) (n : ℕ) where
  abbrev values : List Bool
  values = first_ticks u n

  abbrev found : ℕ → Option ℕ
  found place = cond (nat_lt place (length values)) (Some place) None

  long : length values ≡ n
  long = length-first_ticks u n

  -- on at t, and off at each tick before
  pub first_here : (t : ℕ) → t < n → u t ≡ true → ((r : ℕ) → r < t → u r ≡ false)
      → Some t ≡ first_on u n
  first_here t lt on before =
      let inside : t < length values = omega (arith, long) in
      let place : position_or_len (λ on. on) values ≡ t =
      position_or_len_is (λ on. on) values t false (omega arith)
      (λ k less. get_or-first_ticks u n k false (omega arith) ∙ before k less)
      (λ _. get_or-first_ticks u n t false lt ∙ on) in
      sym (ap found place
      ∙ ap (λ (b : Bool). cond b (Some t) None) (lt-ltb t (length values) inside))

  -- off at each tick
  pub first_nowhere : ((r : ℕ) → r < n → u r ≡ false) → None ≡ first_on u n
  first_nowhere off =
      let place : position_or_len (λ on. on) values ≡ length values =
      position_or_len_is (λ on. on) values (length values) false (omega arith)
      (λ k less.
      let early : k < n = omega (arith, long) in
      get_or-first_ticks u n k false early ∙ off k early)
      (λ less. absurd (omega arith)) in
      sym (ap found place
      ∙ ap (λ (b : Bool). cond b (Some (length values)) None)
      (le-ltb (length values) (length values) (omega arith)))

  -- what is found from tick 0 on
  pub first_is : (found : Option ℕ) → IsFirstOn u 0 n found → found ≡ first_on u n
  first_is None off = first_nowhere (λ r lt. off r (omega arith) lt)
  first_is (Some t) first = first_here t first.within first.on
      (λ r lt. first.before r (omega arith) lt)

  pub first_within : (found : Option ℕ) → IsFirstOn u 0 n found → IfSome found (λ t. t < n)
  first_within None off = tt
  first_within (Some t) first = first.within

  -- the first tick is below n, on, and each before is off
  pub here_first : (t : ℕ) → first_on u n ≡ Some t
      → (t < n) × IsTrue (u t) × ((r : ℕ) → r < t → IsFalse (u r))
  here_first t is =
      let found_at = position-Some (λ on. on) values t false is in
      let early : t < n = omega (arith, long, found_at.0) in (
        early,
        sym (get_or-first_ticks u n t false early) ∙ found_at.1,
        λ r less. sym (get_or-first_ticks u n r false (omega arith)) ∙ found_at.2 r less,
      )

  -- where there is none, each tick is off
  pub nowhere_first : first_on u n ≡ None → (t : ℕ) → t < n → IsFalse (u t)
  nowhere_first is t early =
      let place : ℕ = position_or_len (λ on. on) values in
      let past : length values ≤ place =
      ⊎_elim
      (λ inside.
      let some : found place ≡ Some place =
      ap (λ (b : Bool). cond b (Some place) None) (lt-ltb place (length values) inside) in
      absurd (cc))
      (λ past. past)
      (cases_lt place (length values)) in
      sym (get_or-first_ticks u n t false early)
      ∙ fails_before_first (λ on. on) values t false (omega (arith, long, past))
