use Rattle.std.proofs.Common.{◌≤◌, ℕ, sym, ◌∙◌, arith, ⊎_elim}
use Rattle.std.proofs.lemmas.Bool.{cases_lt, leb-true, le-leb}
use Rattle.model_history.specs.TruthLaws.{not_both}
use Rattle.cert_claims.proofs.check.held.comes_by.Goals as goal

pub returns-in-Some : goal.returns-in-Some
returns-in-Some c = λ u n early is.
    let t : ℕ = c.in-Some.t in
    let first = (c.the_first_tick_is_the_least.ensures.some u n t).0 (sym is ∙ c.in-Some.is) in (
      λ yes. (t, leb-true t c.args.deadline yes, first.1),
      λ held.
          let le : held.0 ≤ c.args.deadline = held.1 in
          ⊎_elim (λ before. absurd (not_both (u held.0) (first.2 held.0 before) held.2))
          (λ after. le-leb t c.args.deadline (omega arith)) (cases_lt held.0 t),
    )

pub returns-in-None : goal.returns-in-None
returns-in-None c = λ u n early is.
    let off = (c.the_first_tick_is_the_least.ensures.none u n).0 (sym is ∙ c.in-None.is) in (
      λ no. absurd (cc),
      λ held.
          let le : held.0 ≤ c.args.deadline = held.1 in
          absurd (not_both (u held.0) (off held.0 (omega arith)) held.2),
    )
