-- Delays of channels, one after another.
use Rattle.std.proofs.Common.{◌≡◌, ℕ, List, [], ◌∷◌, ◌++◌, length, Some, sym, ◌∙◌, subst, ⊎_elim}
use Rattle.std.specs.Prelude.{slice_get}
use Rattle.model_history.specs.ListLaws.{at_push}
use Rattle.run_ticks.specs.declared.cases.delays.Delay.{Delay}

module _ {S : Type 0} where
  -- what is said of each delay, and of one that follows
  pub delays_more : (said : ℕ → Delay S → Type 0) (delays new : List (Delay S)) (n : ℕ) (d : Delay S)
      → new ≡ delays ++ d ∷ [] → length delays ≡ n
      → ((c : ℕ) (e : Delay S) → slice_get delays c ≡ Some e → said c e) → said n d
      → (c : ℕ) (e : Delay S) → slice_get new c ≡ Some e → said c e
  delays_more said delays new n d is count before here c e at =
      ⊎_elim (λ early. before c e early)
      (λ last. subst (λ (x : Delay S). said c x) (sym last.1)
      (subst (λ (j : ℕ). said j d) (sym (last.0 ∙ count)) here))
      (at_push delays d e c (subst (λ (l : List (Delay S)). slice_get l c ≡ Some e) is at))
