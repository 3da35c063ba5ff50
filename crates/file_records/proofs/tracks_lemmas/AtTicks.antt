-- The levels of the samples that hold at the ticks.
use Rattle.std.proofs.Common.{◌≡◌, ◌<◌, ◌-◌, ℕ, zero, suc, Bool, List, [], ◌∷◌, Some}
use Rattle.std.proofs.Common.{map, length, slice_index, refl, ap, sym, subst, arith, ◌∙◌}
use Rattle.std.proofs.lemmas.List.{length-map}
use Rattle.std.specs.List.{slice_get}
use Rattle.file_comtrade.specs.declared.data_reader.Sample.{Sample}
use Rattle.file_comtrade.specs.declared.ticks.Ticks.{Ticks}
use Rattle.file_comtrade.specs.{Data.SampleValues, Levels.level_in, Levels.levels_at}
use Rattle.file_comtrade.specs.Record.{AreAt, HasLevel, times_of}
use Rattle.file_comtrade.specs.SampleViews.{sample_values}
use Rattle.file_comtrade.specs.Ticks.{AreAtTicks, IsHolding, IsCovered, instant_of}

-- the times of samples, and of what they are
pub times_are : (samples : List Sample)
    → times_of (map sample_values samples) ≡ map (λ (s : Sample). s.time) samples
times_are [] = refl
times_are (s ∷ samples) = ap (λ (ts : List ℕ). s.time ∷ ts) (times_are samples)

-- what stands at a place of a mapped list
record Mapped (f : ℕ → Bool) (at : List ℕ) (t : ℕ) (level : Bool) : Type 0 where
  inside : t < length at
  is : level ≡ f (slice_index at t)

mapped : (f : ℕ → Bool) (at : List ℕ) (t : ℕ) (level : Bool) → slice_get (map f at) t ≡ Some level
    → Mapped f at t level
mapped f [] t level e = absurd (cc)
mapped f (x ∷ at) zero level e =
    let same : f x ≡ level = cc in record { inside = omega arith; is = sym same }
mapped f (x ∷ at) (suc t) level e =
    let rest = mapped f at t level e in
    let inside = rest.inside in
    record { inside = omega (arith, inside); is = rest.is }

levels_hold : (samples : List SampleValues) (times : List ℕ) (origin : ℕ) (ticks : Ticks)
    (at : List ℕ) → times ≡ times_of samples → AreAtTicks origin times ticks at
    → (t : ℕ) (level : Bool) → slice_get (levels_at samples 0 at) t ≡ Some level
    → HasLevel samples (instant_of ticks t - origin) level
levels_hold samples times origin ticks at same are t level e =
    let found = mapped (λ (i : ℕ). level_in 0 (slice_get samples i)) at t level e in
    let inside = found.inside in
    let many = are.many in
    let holds = are.each t (omega (arith, inside, many)) in
    let P : List ℕ → Type 0 = λ ts. IsHolding ts (instant_of ticks t - origin) (slice_index at t) in
    record { sample = slice_index at t; holds = subst P same holds; is = found.is }

-- the levels of the samples that were found
pub are_at : (samples : List SampleValues) (times : List ℕ) (origin : ℕ) (ticks : Ticks) (at : List ℕ)
    (levels : List Bool) → times ≡ times_of samples → AreAtTicks origin times ticks at
    → levels ≡ levels_at samples 0 at → AreAt origin samples ticks levels
are_at samples times origin ticks at levels same are is =
    let P : List ℕ → Type 0 = λ ts. IsCovered origin ts ticks in
    let many = are.many in
    let long = length-map at (λ (i : ℕ). level_in 0 (slice_get samples i)) in
    record {
      covered = subst P same are.covered;
      many = ap length is ∙ long ∙ many;
      each = λ t level e.
          levels_hold samples times origin ticks at same are t level
          (ap (λ (ls : List Bool). slice_get ls t) (sym is) ∙ e);
    }
