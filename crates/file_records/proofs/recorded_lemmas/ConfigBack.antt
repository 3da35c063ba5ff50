-- The lines of a configuration say what is meant.
use Rattle.std.proofs.Common.{◌≡◌, ◌≤◌, ◌<◌, ◌+◌, ◌*◌, ◌^◌, ◌++◌, ◌∙◌, ℕ, zero, suc, true, List, []}
use Rattle.std.proofs.Common.{◌∷◌, length, get_or, take, Some, None, Ok, refl, ap, sym, arith}
use Rattle.std.proofs.lemmas.Bool.{eq-eqb, lt-ltb}
use Rattle.std.proofs.lemmas.List.{take_more}
use Rattle.std.specs.Prelude.{codes, decimal, nat_lt, ◌==◌}
use Rattle.base_memory.specs.Gives.{◌>>=◌}
use Rattle.file_comtrade.specs.Calendar.{checked_day, clock_of, day_number, day_of, moment_of, seconds_of}
use Rattle.file_comtrade.specs.Config.{ConfigValues, End, Said, SamplingValues, body_of, config_in}
use Rattle.file_comtrade.specs.Config.{digital_after, end_at, factor_later, line_at, rate_after}
use Rattle.file_comtrade.specs.Config.{sampling_at, tail_at}
use Rattle.file_comtrade.specs.ConfigLines.{counted, counts_in, moment_in, rate_in, unit_in}
use Rattle.file_comtrade.specs.Number.{decimals_of, exponent_cut, natural_of, plain_of, scaled_digits}
use Rattle.file_comtrade.specs.Number.{scaled_of, scaled_parts, whole_of}
use Rattle.file_comtrade.specs.Steps.{steps}
use Rattle.file_comtrade.specs.declared.config.DateOrder.TheVariants.{DayFirst}
use Rattle.file_comtrade.specs.declared.config.Form.TheVariants.{Ascii}
use Rattle.file_comtrade.specs.declared.config.Manner.{Manner}
use Rattle.file_comtrade.specs.declared.config.Revision.TheVariants.{Of1999}
use Rattle.file_comtrade.specs.declared.config.StampUnit.TheVariants.{Microsecond}
use Rattle.file_records.proofs.recorded_lemmas.Numbers.{counted_back, natural_back}

-- ---- the channels

abbrev pub channel_fields : List ℕ → List ℕ → List (List ℕ)
channel_fields n id = n ∷ id ∷ [] ∷ [] ∷ codes "0" ∷ []

one_channel : (lines : List (List ℕ)) (at : ℕ) (ids : List (List ℕ)) (k : ℕ) (n id : List ℕ)
    → line_at lines (at + k) ≡ Ok (channel_fields n id)
    → digital_after lines at ids k ≡ Ok (ids ++ id ∷ [])
unfolding digital_after
one_channel lines at ids k n id there = rw there refl

pub channels_back : (lines : List (List ℕ)) (at : ℕ) (numbers : ℕ → List ℕ) (ids : List (List ℕ))
    → ((k : ℕ) → k < length ids → line_at lines (at + k) ≡ Ok (channel_fields (numbers k) (get_or ids k [])))
    → (k : ℕ) → k ≤ length ids → steps (digital_after lines at) [] k ≡ Ok (take k ids)
channels_back lines at numbers ids there zero upto = refl
channels_back lines at numbers ids there (suc k) upto =
    let more : take (k + 1) ids ≡ take k ids ++ get_or ids k [] ∷ [] = take_more ids k [] (omega arith) in
    let next : k + 1 ≡ suc k = omega arith in
    ap (λ (r : Said (List (List ℕ))). r >>= λ s. digital_after lines at s k)
    (channels_back lines at numbers ids there k (omega arith))
    ∙ one_channel lines at (take k ids) k (numbers k) (get_or ids k []) (there k (omega arith))
    ∙ ap (λ (l : List (List ℕ)). Ok l) (sym more)
    ∙ ap (λ (j : ℕ). Ok (take j ids)) next

-- ---- behind the channels

abbrev pub date_fields : List (List ℕ)
date_fields = codes "01/01/2000" ∷ codes "00:00:00.000000" ∷ []

pub moment_back : moment_in DayFirst date_fields ≡ Some (day_number 2000 1 1 * 86400000000000)
unfolding moment_in moment_of day_of checked_day day_number clock_of seconds_of plain_of decimals_of scaled_parts scaled_digits whole_of
moment_back = refl

-- no rate, and this last sample
abbrev pub no_rates : ℕ → SamplingValues
no_rates last = record { rates = record { microhertz = 0; last = last } ∷ []; samples = last }

no_rate : (last : ℕ) → last < 2 ^ 32
    → rate_in (codes "0" ∷ decimal last ∷ []) ≡ Some (record { microhertz = 0; last = last })
unfolding rate_in scaled_of exponent_cut plain_of scaled_parts scaled_digits
no_rate last small = rw (natural_back last small) refl

one_rate : (lines : List (List ℕ)) (at last : ℕ) → 0 < last → last < 2 ^ 32
    → line_at lines (at + 0) ≡ Ok (codes "0" ∷ decimal last ∷ [])
    → rate_after lines at 0 [] 0 ≡ Ok (record { microhertz = 0; last = last } ∷ [])
unfolding rate_after
one_rate lines at last some small there =
    let behind : nat_lt 0 last ≡ true = lt-ltb 0 last some in
    rw (there, no_rate last small, behind) refl

sampling_back : (lines : List (List ℕ)) (at last : ℕ) → 0 < last → last < 2 ^ 32
    → line_at lines (at + 0) ≡ Ok (codes "0" ∷ decimal last ∷ [])
    → sampling_at lines at 0 ≡ Ok (no_rates last)
unfolding sampling_at
sampling_back lines at last some small there = rw (one_rate lines at last some small there) refl

abbrev pub plain_end : End
plain_end = record {
  first = day_number 2000 1 1 * 86400000000000;
  form = Ascii;
  unit = Microsecond;
  factor = 1000000000;
}

abbrev pub manner : Manner
manner = record { revision = Of1999; order = DayFirst }

factor_one : (lines : List (List ℕ)) (at : ℕ) → line_at lines at ≡ Ok (codes "1" ∷ [])
    → factor_later lines at ≡ Ok 1000000000
unfolding factor_later scaled_of exponent_cut plain_of scaled_parts scaled_digits
factor_one lines at there = rw there refl

end_back : (lines : List (List ℕ)) (at : ℕ) → line_at lines at ≡ Ok date_fields
    → line_at lines (at + 1) ≡ Ok date_fields → line_at lines (at + 2) ≡ Ok (codes "ASCII" ∷ [])
    → line_at lines (at + 3) ≡ Ok (codes "1" ∷ []) → end_at manner lines at ≡ Ok plain_end
unfolding end_at unit_in
end_back lines at date trigger form factor =
    rw (date, moment_back, trigger, form, factor_one lines (at + 3) factor) refl

pub record IsTail (lines : List (List ℕ)) (at last : ℕ) : Type 0 where
  pub frequency : line_at lines at ≡ Ok (codes "50" ∷ [])
  pub rates : line_at lines (at + 1) ≡ Ok (codes "0" ∷ [])
  pub rate : line_at lines (at + 2 + 0) ≡ Ok (codes "0" ∷ decimal last ∷ [])
  pub first : line_at lines (at + 2 + 1) ≡ Ok date_fields
  pub trigger : line_at lines (at + 2 + 1 + 1) ≡ Ok date_fields
  pub form : line_at lines (at + 2 + 1 + 2) ≡ Ok (codes "ASCII" ∷ [])
  pub factor : line_at lines (at + 2 + 1 + 3) ≡ Ok (codes "1" ∷ [])

none : natural_of (codes "0") ≡ Some 0
unfolding whole_of
none = refl

pub tail_back : (lines : List (List ℕ)) (at last : ℕ) → 0 < last → last < 2 ^ 32
    → IsTail lines at last
    → tail_at manner lines at ≡ Ok (record { sampling = no_rates last; ending = plain_end })
unfolding tail_at
tail_back lines at last some small is =
    rw (
      is.frequency,
      is.rates,
      none,
      sampling_back lines (at + 2) last some small is.rate,
      end_back lines (at + 2 + 1) is.first is.trigger is.form is.factor,
    ) refl

-- ---- the whole

abbrev pub values_meant : List (List ℕ) → ℕ → ConfigValues
values_meant ids last = record {
  analog = 0;
  digital = ids;
  sampling = no_rates last;
  first = day_number 2000 1 1 * 86400000000000;
  form = Ascii;
  unit = Microsecond;
  factor = 1000000000;
}

body_back : (lines : List (List ℕ)) (count last : ℕ) (ids : List (List ℕ))
    → steps (digital_after lines 2) [] count ≡ Ok ids
    → tail_at manner lines (2 + count) ≡ Ok (record { sampling = no_rates last; ending = plain_end })
    → body_of manner (record { analog = 0; digital = count }) lines ≡ Ok (values_meant ids last)
unfolding body_of
body_back lines count last ids channels tail = rw (channels, tail) refl

no_analog : counted 65 (codes "0A") ≡ Some 0
unfolding counted whole_of
no_analog = refl

counts_back : (n : ℕ) → n < 2 ^ 32
    → counts_in (decimal n ∷ codes "0A" ∷ (decimal n ++ codes "D") ∷ [])
    ≡ Some (record { analog = 0; digital = n })
unfolding counts_in
counts_back n small =
    let own : counted 65 (codes "0A") ≡ Some 0 = no_analog in
    let same : (n == 0 + n) ≡ true = eq-eqb n (0 + n) (omega arith) in
    rw (natural_back n small, own, counted_back n small, same) refl

pub config_back : (lines : List (List ℕ)) (script : List ℕ) (count last : ℕ) (ids : List (List ℕ))
    → count < 2 ^ 32 → line_at lines 0 ≡ Ok (codes "pilot" ∷ script ∷ codes "1999" ∷ [])
    → line_at lines 1 ≡ Ok (decimal count ∷ codes "0A" ∷ (decimal count ++ codes "D") ∷ [])
    → steps (digital_after lines 2) [] count ≡ Ok ids
    → tail_at manner lines (2 + count) ≡ Ok (record { sampling = no_rates last; ending = plain_end })
    → config_in None lines ≡ Ok (values_meant ids last)
unfolding config_in
config_back lines script count last ids small head second channels tail =
    rw (head, second, counts_back count small) (body_back lines count last ids channels tail)
