-- Stretches of a tick alone, of a gap, and of nothing that is told.
use Rattle.std.proofs.Common.{◌≡◌, ◌≤◌, ◌+◌, ℕ, List, sym, subst, arith, ⊎_elim}
use Rattle.std.proofs.lemmas.Bool.{cases_lt}
use Rattle.std.specs.Prelude.{Vec}
use Rattle.std.specs.declared.alloc.Global.{Global}
use Rattle.model_history.specs.Rails.{Ends}
use Rattle.judge_times.specs.declared.fault.Uncertain.{Uncertain}
use Rattle.judge_times.specs.declared.stretch.{Along.Along, Stretch.Stretch}
use Rattle.judge_times.specs.declared.stretch.Along.TheVariants.{Held, Fails}
use Rattle.judge_times.specs.Stretches.{FailsThere, IsHeldAlong, IsStretch, SaysAlong}

module _ (of : Uncertain) (whole : List Ends) (k : ℕ) where
  pub fails_alone : (t : ℕ) (place : Vec ℕ Global) → FailsThere of whole k t place.items
      → IsStretch of whole k (record { from = t; to = t; told = Fails; place = place })
  fails_alone t place there = record {
    ordered = omega arith;
    says = (
      (λ r low high. let same : t ≡ r = omega (arith, low, high) in
          (place.items, subst (λ (q : ℕ). FailsThere of whole k q place.items) same there)),
      record {
        low = omega (arith, there.first);
        high = omega (arith, there.first);
        fails = subst (λ (q : ℕ). FailsThere of whole k q place.items) (sym there.first) there;
      },
    );
  }

  -- of a gap both of whose ticks fail
  pub fails_over : (first next : Stretch) (t to : ℕ) → first.from ≡ t → first.to ≡ t → next.from ≡ to
      → next.to ≡ to → to ≡ t + 1 → first.told ≡ Fails → next.told ≡ Fails → IsStretch of whole k first
      → IsStretch of whole k next
      → IsStretch of whole k (record { from = t; to = to; told = Fails; place = first.place })
  fails_over first next t to at_from at_to next_from next_to step one two says then =
      let here : SaysAlong of whole k t t first.place.items Fails =
      subst (λ (told : Along). SaysAlong of whole k t t first.place.items told) one
      (subst (λ (q : ℕ). SaysAlong of whole k t q first.place.items first.told) at_to
      (subst (λ (q : ℕ). SaysAlong of whole k q first.to first.place.items first.told) at_from says.says)) in
      let there : SaysAlong of whole k to to next.place.items Fails =
      subst (λ (told : Along). SaysAlong of whole k to to next.place.items told) two
      (subst (λ (q : ℕ). SaysAlong of whole k to q next.place.items next.told) next_to
      (subst (λ (q : ℕ). SaysAlong of whole k q next.to next.place.items next.told) next_from then.says)) in
      record {
        ordered = omega (arith, step);
        says = (
          (λ r low high.
              ⊎_elim (λ early. here.0 r low (omega (arith, early, step)))
              (λ late. there.0 r late high) (cases_lt r to)),
          record {
            low = here.1.low;
            high = let most = here.1.high in omega (arith, most, step);
            fails = here.1.fails;
          },
        );
      }

  pub held_over : (one : Stretch) (from to : ℕ) → one.from ≡ from → one.to ≡ to → one.told ≡ Held
      → from ≤ to → IsHeldAlong of whole k from to → IsStretch of whole k one
  held_over one from to at_from at_to told ordered held = record {
    ordered = omega (arith, at_from, at_to, ordered);
    says = subst (λ (told : Along). SaysAlong of whole k one.from one.to one.place.items told) (sym told)
        (subst (λ (q : ℕ). IsHeldAlong of whole k one.from q) (sym at_to)
        (subst (λ (q : ℕ). IsHeldAlong of whole k q to) (sym at_from) held));
  }
