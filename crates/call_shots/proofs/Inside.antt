-- What is covered by rails is on inside their first ticks.
use Rattle.std.proofs.Common.{◌≡◌, ◌≤◌, ◌<◌, ◌*◌, ◌/◌, ℕ, Bool, true, false, Option, None, Some, refl}
use Rattle.std.proofs.Common.{⊎_elim, ◌∙◌, sym, arith}
use Rattle.std.proofs.lemmas.Bool.{cases_lt}
use Rattle.std.proofs.lemmas.Nat.{div_below}
use Rattle.std.specs.Prelude.{◌↔◌, IsFalse, IsSomeAnd, IsTrue}
use Rattle.model_history.specs.Rails.{Covers, Rails}
use Rattle.model_line.specs.declared.line.Line.{Line}
use Rattle.run_waves.specs.waves.FirstTick.{first_on}
use Rattle.call_shots.specs.{Truths.IsInside, Windows.first_may, Windows.first_must}

on_and_off : (b : Bool) → IsTrue b → IsFalse b → ⊥
on_and_off true on off = absurd (cc)
on_and_off false on off = absurd (cc)

module _ (some : (u : ℕ → Bool) (n t : ℕ)
    → (first_on u n ≡ Some t) ↔ ((t < n) × IsTrue (u t) × ((r : ℕ) → r < t → IsFalse (u r))))
    (none : (u : ℕ → Bool) (n : ℕ) → (first_on u n ≡ None) ↔ ((t : ℕ) → t < n → IsFalse (u t))) where
  no_sooner : (u : ℕ → Bool) (n t : ℕ) (first : Option ℕ) → first_on u n ≡ first → t < n
      → IsTrue (u t) → IsSomeAnd first (λ m. m ≤ t)
  no_sooner u n t None is early on = absurd (on_and_off (u t) on ((none u n).0 is t early))
  no_sooner u n t (Some m) is early on =
      ⊎_elim
      (λ (before : t < m). absurd (on_and_off (u t) on (((some u n m).0 is).2 t before)))
      (λ (later : m ≤ t). later)
      (cases_lt t m)

  pub inside : (line : Line) (n : ℕ) (rails : ℕ → Rails) (u : ℕ → Bool) (may must : Option ℕ)
      → 1 ≤ n → may ≡ first_may line rails → must ≡ first_must line rails
      → ((t : ℕ) → t < line.horizon * n → Covers (rails (t / n)) (u t))
      → IsInside line may must n u
  inside line n rails u may must one may_is must_is covers = record {
    may = λ t early on.
        no_sooner (λ r. (rails r).may) line.horizon (t / n) may (sym may_is)
        (div_below t n line.horizon one early) ((covers t early).may on);
    must = λ t early first.
        (covers t early).must
        ((some (λ r. (rails r).must) line.horizon (t / n)).0 (sym must_is ∙ first)).1;
  }
