use Rattle.std.proofs.Common.{◌≡◌, Bool, true, false, not, ◌&&◌, IsTrue, IsFalse, refl, sym, ◌∙◌, ap}
use Rattle.std.proofs.Common.{inl, inr, ⊎_elim, ◌⊎◌}
use Rattle.std.specs.Prelude.{◌↔◌}
use Rattle.model_history.specs.Rails.{Rails, must_of, rails_and}
use Rattle.run_signal.specs.Bits.{bit_on, bit_rails}
use Rattle.run_signal.proofs.lanes.Lanes64.without.Goals as goal

off_where : (a b after : Bool) → after ≡ (a && not b) → IsFalse after ↔ (IsFalse a ⊎ IsTrue b)
off_where false b after is = (λ _. inl refl, λ _. is)
off_where true true after is = (λ _. inr refl, λ _. is)
off_where true false after is = (
  λ off. let e : true ≡ false = sym is ∙ off in absurd (cc),
  λ either.
      let none : ⊥ = ⊎_elim (λ h. let e : true ≡ false = h in cc)
      (λ h. let e : false ≡ true = h in cc) either in
      absurd none,
)

pub returns : goal.returns
returns c = λ k inside.
    off_where (bit_on c.args.self k) (bit_on c.args.other k) (bit_on c.and.result k)
    (ap must_of (c.and.ensures k inside
    ∙ ap (λ (r : Rails). rails_and (bit_rails c.args.self k) r) (c.not.ensures k inside)))
