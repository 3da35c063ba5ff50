-- What is received of a key that stays the same.
use Rattle.std.proofs.Common.{◌≡◌, ℕ, ◌-◌, ◌≤◌, Bool, sym, ◌∙◌, ap, arith}
use Rattle.std.proofs.lemmas.Bool.Decides.{same_from_decides}
use Rattle.model_history.specs.Rails.{Rails, Ends, must_of, may_of, rails_delayed}
use Rattle.model_history.specs.{Comes.Comes}
use Rattle.model_history.specs.Laws.{DelaysAreTheirFacts}
use Rattle.run_signal.specs.Tracks.{IsSteadySince}

module _ (facts : DelaysAreTheirFacts) (u : ℕ → Rails) (e : Ends) (t : ℕ) (later : 1 ≤ e.least)
    (steady : IsSteadySince u e t) where
  -- the value that comes after a delay within the ends
  comes : (c : ℕ) → e.least ≤ c → c ≤ e.greatest → u (t - c) ≡ u (t - 1)
  comes c low high =
      let past : e.greatest ≤ t = steady.past in
      steady.same (t - c) (omega arith) (omega arith)

  must : (rails_delayed u e t).must ≡ (u (t - 1)).must
  must = same_from_decides (rails_delayed u e t).must (u (t - 1)).must (facts.must u (λ _. e) t) (
    λ on c low high.
        let past : e.greatest ≤ t = steady.past in
        record { past = omega arith; on = ap must_of (comes c low high) ∙ on },
    λ all.
        let ordered : e.least ≤ e.greatest = steady.ordered in
        let first : Comes (λ r. (u r).must) e.least t = all e.least (omega arith) ordered in
        sym (ap must_of (comes e.least (omega arith) ordered)) ∙ first.on,
  )

  may : (rails_delayed u e t).may ≡ (u (t - 1)).may
  may = same_from_decides (rails_delayed u e t).may (u (t - 1)).may (facts.may u (λ _. e) t) (
    λ on.
        let ordered : e.least ≤ e.greatest = steady.ordered in
        let past : e.greatest ≤ t = steady.past in
        record {
          c = e.least;
          least = omega arith;
          greatest = ordered;
          comes = record {
            past = omega arith;
            on = ap may_of (comes e.least (omega arith) ordered) ∙ on;
          };
        },
    λ some. sym (ap may_of (comes some.c some.least some.greatest)) ∙ some.comes.on,
  )

  pub steady_delayed : u (t - 1) ≡ rails_delayed u e t
  steady_delayed =
      ap (λ (b : Bool). record { must = b; may = (u (t - 1)).may }) (sym must)
      ∙ ap (λ (b : Bool). record { must = (rails_delayed u e t).must; may = b }) (sym may)
