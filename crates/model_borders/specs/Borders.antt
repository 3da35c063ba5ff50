-- Where the borders of a script stand that are sums of lengths which are not known.
use Rattle.std.specs.Prelude.{◌≤◌, ◌<◌, ◌+◌, ◌-◌, ◌*◌, ◌&&◌, ℕ, zero, suc, Bool, true, false, List, Option}
use Rattle.std.specs.Prelude.{Some, None, length, get_or, slice_get, nat_le, nat_lt}
use Rattle.std.specs.List.{list_any}
use Rattle.model_history.specs.Rails.{Ends, single}
use Rattle.model_line.specs.Seen.{is_of_place, is_of_loss}
use Rattle.model_line.specs.declared.script.{SeenSpan.SeenSpan}
use Rattle.model_fine.specs.Loose.{Shown}
use Rattle.model_borders.specs.declared.script.{Border.Border, LooseSpan.LooseSpan}
use Rattle.model_borders.specs.declared.script.LooseScript.{LooseScript}

-- the sum of the numbers below n
abbrev pub sum_below : (ℕ → ℕ) → ℕ → ℕ
sum_below f zero = 0
sum_below f (suc n) = sum_below f n + f n

-- the ticks of a border that are known, and how many times a length stands in its sum
abbrev pub fixed_of : Option Border → ℕ
fixed_of None = 0
fixed_of (Some border) = border.fixed

abbrev pub times_of : Option Border → ℕ → ℕ
times_of None i = 0
times_of (Some border) i = get_or border.times.items i 0

abbrev pub fixed_in : List Border → ℕ → ℕ
fixed_in borders b = fixed_of (slice_get borders b)

abbrev pub times_in : List Border → ℕ → ℕ → ℕ
times_in borders b i = times_of (slice_get borders b) i

-- the fine tick at which a border stands, where each tick is cut into n and there are so many lengths, x i
-- fine ticks the i-th
unfoldable pub stands : ℕ → List Border → ℕ → (ℕ → ℕ) → ℕ → ℕ
stands n borders lengths x b =
    fixed_in borders b * n + sum_below (λ i. times_in borders b i * x i) lengths

-- each length lies in its interval
pub record AreLengthsIn (n : ℕ) (part : List Ends) (x : ℕ → ℕ) : Type 0 where
  pub least : (i : ℕ) → i < length part → (get_or part i (single 0)).least * n ≤ x i
  pub greatest : (i : ℕ) → i < length part → x i ≤ (get_or part i (single 0)).greatest * n

-- what is shown at these lengths, fine tick by fine tick: a span holds those from its first border on before
-- its last
abbrev pub holds_at : ℕ → LooseScript → ℕ → (ℕ → ℕ) → ℕ → LooseSpan → Bool
holds_at n script lengths x t span =
    nat_le (stands n script.borders.items lengths x span.from) t
    && nat_lt t (stands n script.borders.items lengths x span.to)

unfoldable pub shown_at : ℕ → LooseScript → ℕ → (ℕ → ℕ) → Shown
shown_at n script lengths x = record {
  seen = λ p t.
      list_any (λ span. is_of_place p span.what && holds_at n script lengths x t span) script.spans.items;
  lost = λ c t.
      list_any (λ span. is_of_loss c span.what && holds_at n script lengths x t span) script.spans.items;
}

-- ---- whole ticks, where one border stands still

abbrev pub ends_at : Bool → Ends → ℕ
ends_at true ends = ends.greatest
ends_at false ends = ends.least

-- what the sum of border b has that the sum of border a has not, at the least lengths or at the greatest
unfoldable pub reach : List Border → List Ends → Bool → ℕ → ℕ → ℕ
reach borders part late a b =
    fixed_in borders b
    + sum_below (λ i. (times_in borders b i - times_in borders a i) * ends_at late (get_or part i (single 0)))
    (length part)

-- the earliest and the latest tick of border b, where border a stands still at that place
unfoldable pub earliest : List Border → List Ends → ℕ → ℕ → ℕ → ℕ
earliest borders part a place b =
    (place + reach borders part false a b) - reach borders part true b a

unfoldable pub latest : List Border → List Ends → ℕ → ℕ → ℕ → ℕ
latest borders part a place b =
    (place + reach borders part true a b) - reach borders part false b a

-- the sum of a border, at the least lengths or at the greatest: its earliest tick, and its latest
unfoldable pub alone : List Border → List Ends → Bool → ℕ → ℕ
alone borders part late b =
    fixed_in borders b
    + sum_below (λ i. times_in borders b i * ends_at late (get_or part i (single 0))) (length part)

abbrev pub earliest_alone : List Border → List Ends → ℕ → ℕ
earliest_alone borders part b = alone borders part false b

abbrev pub latest_alone : List Border → List Ends → ℕ → ℕ
latest_alone borders part b = alone borders part true b

-- a span from the latest begin to the earliest end, and from the earliest begin to the latest end; it holds no
-- tick where these are not in order
abbrev pub certain_span : LooseScript → List Ends → ℕ → ℕ → LooseSpan → SeenSpan
certain_span script part a place span = record {
  what = span.what;
  from = latest script.borders.items part a place span.from;
  to = earliest script.borders.items part a place span.to;
}

abbrev pub perhaps_span : LooseScript → List Ends → ℕ → ℕ → LooseSpan → SeenSpan
perhaps_span script part a place span = record {
  what = span.what;
  from = earliest script.borders.items part a place span.from;
  to = latest script.borders.items part a place span.to;
}

abbrev pub part_span : Bool → LooseScript → List Ends → ℕ → ℕ → LooseSpan → SeenSpan
part_span true script part a place span = certain_span script part a place span
part_span false script part a place span = perhaps_span script part a place span
