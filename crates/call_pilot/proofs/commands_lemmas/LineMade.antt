-- The terminals, channels and intervals of the bench are those of a line.
use Rattle.std.proofs.Common.{◌≡◌, ◌≢◌, ℕ, zero, suc, ◌<◌, ◌≤◌, Bool, List, Some, get_or, refl, ap}
use Rattle.std.proofs.Common.{arith}
use Rattle.std.proofs.lemmas.Bool.{and_parts, leb-true}
use Rattle.std.specs.Prelude.{IsTrue, is_some, ◌&&◌, nat_le}
use Rattle.model_line.specs.Channels.{AreChannels, channel_number, from_of, to_of}
use Rattle.model_line.specs.Intervals.{AreIntervals, LeastDelaysFromOne, delay_number_of}
use Rattle.model_line.specs.Making.{AreBounds, AreTerminals, greatest_ends, least_ends}
use Rattle.model_line.specs.Terminals.{NamesDiffer}
use Rattle.model_line.specs.{declared.line.Scheme.TheVariants.Pott, Settings.line_settings}
use Rattle.call_pilot.specs.commands.BenchLine.{bench_bounds, bench_channels, bench_terminals}
use Rattle.call_pilot.proofs.commands_lemmas.Below.{below_three, below_six, each_passes}

-- ---- terminals

names_differ : NamesDiffer bench_terminals 3
names_differ zero zero lt few = absurd (omega (arith, lt))
names_differ zero (suc zero) lt few = λ same.
    let first : 65 ≡ 66 = ap (λ (xs : List ℕ). get_or xs 0 0) same in omega (arith, first)
names_differ zero (suc (suc zero)) lt few = λ same.
    let first : 65 ≡ 67 = ap (λ (xs : List ℕ). get_or xs 0 0) same in omega (arith, first)
names_differ zero (suc (suc (suc k))) lt few = absurd (omega (arith, few))
names_differ (suc zero) zero lt few = absurd (omega (arith, lt))
names_differ (suc zero) (suc zero) lt few = absurd (omega (arith, lt))
names_differ (suc zero) (suc (suc zero)) lt few = λ same.
    let first : 66 ≡ 67 = ap (λ (xs : List ℕ). get_or xs 0 0) same in omega (arith, first)
names_differ (suc zero) (suc (suc (suc k))) lt few = absurd (omega (arith, few))
names_differ (suc (suc j)) k lt few = absurd (omega (arith, lt, few))

pub terminals_fit : AreTerminals Pott bench_terminals
terminals_fit = record {
  two_or_three = (omega arith, omega arith);
  plain_names = refl;
  flags_by_scheme = refl;
  names_once = names_differ;
}

-- ---- channels

pub pairs_once : AreChannels 3 bench_channels
pairs_once = record {
  count = refl;
  from = below_six (λ c. from_of bench_channels c < 3) (omega arith) (omega arith) (omega arith)
      (omega arith) (omega arith) (omega arith);
  to = below_six (λ c. to_of bench_channels c < 3) (omega arith) (omega arith) (omega arith)
      (omega arith) (omega arith) (omega arith);
  apart = below_six (λ c. from_of bench_channels c ≢ to_of bench_channels c)
      (λ e. omega (arith, e)) (λ e. omega (arith, e)) (λ e. omega (arith, e))
      (λ e. omega (arith, e)) (λ e. omega (arith, e)) (λ e. omega (arith, e));
  once = below_six
      (λ c. channel_number bench_channels (from_of bench_channels c) (to_of bench_channels c)
      ≡ Some c)
      refl refl refl refl refl refl;
  found = λ j k jn kn.
      below_three
      (λ j. (k : ℕ) → k < 3 → j ≢ k → IsTrue (is_some (channel_number bench_channels j k)))
      (below_three (λ k. 0 ≢ k → IsTrue (is_some (channel_number bench_channels 0 k)))
      (λ e. absurd (e refl)) (λ e. refl) (λ e. refl))
      (below_three (λ k. 1 ≢ k → IsTrue (is_some (channel_number bench_channels 1 k)))
      (λ e. refl) (λ e. absurd (e refl)) (λ e. refl))
      (below_three (λ k. 2 ≢ k → IsTrue (is_some (channel_number bench_channels 2 k)))
      (λ e. refl) (λ e. refl) (λ e. absurd (e refl)))
      j jn k kn;
}

-- ---- intervals

abbrev in_order : ℕ → Bool
in_order i = nat_le (get_or (least_ends bench_bounds) i 0) (get_or (greatest_ends bench_bounds) i 0)
    && nat_le (get_or (greatest_ends bench_bounds) i 0) 4000

ends_in_range : AreIntervals (least_ends bench_bounds) (greatest_ends bench_bounds)
ends_in_range i lt =
    let both = and_parts
    (nat_le (get_or (least_ends bench_bounds) i 0) (get_or (greatest_ends bench_bounds) i 0))
    (nat_le (get_or (greatest_ends bench_bounds) i 0) 4000)
    (each_passes in_order 30 refl i lt) in
    (leb-true _ _ both.0, leb-true _ _ both.1)

delays_from_one : LeastDelaysFromOne Pott bench_terminals bench_channels (least_ends bench_bounds)
unfolding line_settings
delays_from_one =
    below_six
    (λ c. 1 ≤ get_or (least_ends bench_bounds)
    (delay_number_of Pott bench_terminals bench_channels c) 0)
    (omega arith) (omega arith) (omega arith) (omega arith) (omega arith) (omega arith)

pub bounds_fit : AreBounds Pott bench_terminals bench_channels bench_bounds
unfolding line_settings
bounds_fit = record {
  one_each = refl;
  ends_in_range = ends_in_range;
  delays_from_one = delays_from_one;
}
