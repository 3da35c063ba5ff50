-- The spans at the least lengths of a part show what is shown there.
use Rattle.std.proofs.Common.{◌≡◌, ◌<◌, ◌+◌, ◌*◌, ◌&&◌, ◌||◌, ◌++◌, ℕ, Bool, true, false, List, [], ◌∷◌}
use Rattle.std.proofs.Common.{length, refl, sym, ap, arith, ◌∙◌}
use Rattle.std.proofs.lemmas.List.{append-nil, take_more}
use Rattle.std.proofs.lemmas.Grind.{flat_map-append}
use Rattle.std.specs.Prelude.{get_or, nat_le, nat_lt, take, if◌then◌else◌}
use Rattle.std.specs.List.{list_any}
use Rattle.model_history.specs.Rails.{Ends, single}
use Rattle.model_line.specs.Seen.{is_of_place, is_of_loss}
use Rattle.model_line.specs.declared.script.{SeenSpan.SeenSpan, What.What}
use Rattle.model_borders.specs.Borders.{alone, earliest_alone, fixed_in, holds_at, shown_at, stands}
use Rattle.model_borders.specs.Borders.{sum_below, times_in}
use Rattle.model_borders.specs.declared.script.{Border.Border, LooseScript.LooseScript, LooseSpan.LooseSpan}
use Rattle.model_borders.specs.Least.{ShowTheLeast, least_lengths, least_span, least_spans, with_tick}

pub stands_least : (borders : List Border) (part : List Ends) (b : ℕ)
    → earliest_alone borders part b ≡ stands 1 borders (length part) (least_lengths part) b
unfolding stands alone least_lengths
stands_least borders part b =
    ap (λ (f : ℕ). f + sum_below (λ i. times_in borders b i * (get_or part i (single 0)).least) (length part))
    (let e : fixed_in borders b ≡ fixed_in borders b * 1 = omega arith in e)

-- a span that holds no tick shows nothing
empty : (from to t : ℕ) (a : Bool) → nat_lt from to ≡ false → (a && (nat_le from t && nat_lt t to)) ≡ false
empty from to t a none = grind arith

any_more : (q : SeenSpan → Bool) (span : SeenSpan) (more : List SeenSpan) (b : Bool)
    → (b ≡ false → q span ≡ false)
    → list_any q ((if b then span ∷ [] else []) ++ more) ≡ (q span || list_any q more)
any_more q span more true off = refl
any_more q span more false off = sym (ap (λ (v : Bool). v || list_any q more) (off refl))

module _ (is_of : What → Bool) (script : LooseScript) (part : List Ends) (t : ℕ) where
  abbrev here : SeenSpan → Bool
  here s = is_of s.what && (nat_le s.from t && nat_lt t s.to)

  abbrev there : LooseSpan → Bool
  there span = is_of span.what && holds_at 1 script (length part) (least_lengths part) t span

  one : (span : LooseSpan) → here (least_span script.borders.items part span) ≡ there span
  one span =
      ap (λ (f : ℕ). is_of span.what && (nat_le f t
      && nat_lt t (earliest_alone script.borders.items part span.to)))
      (stands_least script.borders.items part span.from)
      ∙ ap (λ (e : ℕ). is_of span.what
      && (nat_le (stands 1 script.borders.items (length part) (least_lengths part) span.from) t && nat_lt t e))
      (stands_least script.borders.items part span.to)

  pub shown : (spans : List LooseSpan)
      → list_any here (least_spans script.borders.items part spans) ≡ list_any there spans
  shown [] = refl
  shown (span ∷ more) =
      any_more here (least_span script.borders.items part span) (least_spans script.borders.items part more)
      (nat_lt (earliest_alone script.borders.items part span.from)
      (earliest_alone script.borders.items part span.to))
      (empty (earliest_alone script.borders.items part span.from)
      (earliest_alone script.borders.items part span.to) t (is_of span.what))
      ∙ ap (λ (v : Bool). v || list_any here (least_spans script.borders.items part more)) (one span)
      ∙ ap (λ (v : Bool). there span || v) (shown more)

pub show_least : (script : LooseScript) (part : List Ends)
    → ShowTheLeast script part (least_spans script.borders.items part script.spans.items)
unfolding shown_at
show_least script part = record {
  seen = λ p t. shown (is_of_place p) script part t script.spans.items;
  lost = λ c t. shown (is_of_loss c) script part t script.spans.items;
}

-- the spans of the first i, and of one more
pub one_more : (borders : List Border) (part : List Ends) (xs : List LooseSpan) (old new : List SeenSpan)
    (i : ℕ) (a : LooseSpan) (span : SeenSpan) → i < length xs → a ≡ get_or xs i a
    → old ≡ least_spans borders part (take i xs) → span ≡ least_span borders part a
    → new ≡ old ++ with_tick span → new ≡ least_spans borders part (take (i + 1) xs)
one_more borders part xs old new i a span inside is so now made =
    made ∙ ap (λ (l : List SeenSpan). l ++ with_tick span) so
    ∙ ap (λ (s : SeenSpan). least_spans borders part (take i xs) ++ with_tick s)
    (now ∙ ap (least_span borders part) is)
    ∙ sym (ap (least_spans borders part) (take_more xs i a inside)
    ∙ flat_map-append (λ (s : LooseSpan). with_tick (least_span borders part s)) (take i xs)
    (get_or xs i a ∷ [])
    ∙ ap (λ (l : List SeenSpan). least_spans borders part (take i xs) ++ l)
    (append-nil (with_tick (least_span borders part (get_or xs i a)))))
