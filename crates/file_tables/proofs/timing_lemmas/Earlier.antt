-- The names of the timings that are finished.
use Rattle.std.proofs.Common.{◌≡◌, ◌||◌, ℕ, ◌+◌, ◌<◌, ◌≤◌, true, false, List, [], ◌∷◌, ◌++◌, length}
use Rattle.std.proofs.Common.{map, Ok, Err, refl, ap, arith}
use Rattle.std.proofs.lemmas.List.{length-map}
use Rattle.std.proofs.lemmas.Bool.{lt-ltb, le-ltb}
use Rattle.std.specs.Prelude.{nat_lt}
use Rattle.std.specs.List.{list_any}
use Rattle.model_line.specs.declared.line.Line.{Line}
use Rattle.file_tables.specs.declared.timing.fault.TimingFault.TheVariants as fault
use Rattle.std.specs.Str.{bytes_eq}
use Rattle.model_timing.specs.declared.named_timing.NamedTiming.{NamedTiming}
use Rattle.model_timing.specs.NamedValues.{NamedValues, values_of}
use Rattle.file_tables.specs.timing.SoFar.{OpenTiming, closed, opened}
use Rattle.file_tables.specs.timing.Checks.{Opening, is_earlier, after_latest}

pub earlier_is : (ts : List NamedTiming) (name : List ℕ)
    → is_earlier (map values_of ts) name ≡ list_any (λ t. bytes_eq t.name name) ts
earlier_is [] name = refl
earlier_is (t ∷ ts) name = ap (λ b. bytes_eq t.name name || b) (earlier_is ts name)

-- a row of another name than the latest timing's
module _ (line : Line) (ts : List NamedTiming) (n : ℕ) (name : List ℕ) (t : OpenTiming)
    (other : bytes_eq t.name name ≡ false) where
  pub out_of_order : list_any (λ x. bytes_eq x.name name) ts ≡ true
      → after_latest line (map values_of ts) n name t ≡ Err (fault.Order n)
  out_of_order found = rw (other, earlier_is ts name, found) refl

  pub too_many : list_any (λ x. bytes_eq x.name name) ts ≡ false → 15 ≤ length ts
      → after_latest line (map values_of ts) n name t ≡ Err fault.TooMany
  too_many none full =
      let count = length-map ts values_of in
      let room : nat_lt (length (map values_of ts) + 1) 16 ≡ false =
      le-ltb (length (map values_of ts) + 1) 16 (omega arith) in
      rw (other, earlier_is ts name, none, room) refl

  pub opens : list_any (λ x. bytes_eq x.name name) ts ≡ false → length ts < 15
      → after_latest line (map values_of ts) n name t
      ≡ Ok (record { done = map values_of ts ++ closed t ∷ []; timing = opened line name })
  opens none few =
      let count = length-map ts values_of in
      let room : nat_lt (length (map values_of ts) + 1) 16 ≡ true =
      lt-ltb (length (map values_of ts) + 1) 16 (omega arith) in
      rw (other, earlier_is ts name, none, room) refl

pub opening_same : {done other : List NamedValues} {t u : OpenTiming} → done ≡ other → u ≡ t
    → (let x : Opening = record { done = other; timing = u } in
    x ≡ record { done = done; timing = t })
opening_same p q = cc
