-- What a script shows over a stretch of ticks without a change.
use Rattle.std.proofs.Common.{◌≡◌, ◌&&◌, ◌||◌, ℕ, ◌+◌, ◌≤◌, ◌<◌, Bool, List, [], ◌∷◌, ◌++◌, length}
use Rattle.std.proofs.Common.{take, get_or, true, false, refl, sym, ◌∙◌, ap, arith}
use Rattle.std.proofs.lemmas.Bool.Decides.{nat_tests}
use Rattle.std.proofs.lemmas.List.{take_more}
use Rattle.std.proofs.lemmas.List.Elements.{All-head, All-tail, All-push, All-weaker, All-same}
use Rattle.std.specs.Prelude.{IsTrue, nat_le, nat_lt}
use Rattle.std.specs.List.{All}
use Rattle.model_line.specs.declared.script.What.TheVariants.{Element, Loss}
use Rattle.model_line.specs.{declared.script.SeenSpan.SeenSpan, declared.script.What.What}
use Rattle.run_waves.specs.derived.Stretches.{HoldsAlike, ShowsAlike, is_of, holds}

-- ---- one span

pub alike_before : (t end : ℕ) (span : SeenSpan) → t < span.from → end ≤ span.from
    → HoldsAlike t end span
alike_before t end span early le k low high =
    let before : k < span.from = omega arith in
    grind (arith, nat_tests)

pub alike_within : (t end : ℕ) (span : SeenSpan) → span.from ≤ t → t < span.to → end ≤ span.to
    → HoldsAlike t end span
alike_within t end span begun going le k low high =
    let from : span.from ≤ k = omega arith in
    let to : k < span.to = omega arith in
    grind (arith, nat_tests)

pub alike_after : (t end : ℕ) (span : SeenSpan) → span.to ≤ t → HoldsAlike t end span
alike_after t end span over k low high =
    let past : span.to ≤ k = omega arith in
    grind (arith, nat_tests)

-- ---- all spans

pub one_span_more : (what : What) (spans : List SeenSpan) (i t end next : ℕ) (d : SeenSpan)
    → i < length spans → next ≤ end → All (ShowsAlike what t end) (take i spans)
    → ShowsAlike what t next (get_or spans i d)
    → All (ShowsAlike what t next) (take (i + 1) spans)
one_span_more what spans i t end next d inside le before now =
    All-same (ShowsAlike what t next) (take (i + 1) spans) (take i spans ++ get_or spans i d ∷ [])
    (take_more spans i d inside)
    (All-push (ShowsAlike what t next) (take i spans) (get_or spans i d)
    (All-weaker (ShowsAlike what t end) (ShowsAlike what t next)
    (λ s alike of k low high. alike of k low (omega (arith, high, le))) (take i spans) before) now)

-- what holds of a span of this holds of both
of_this : (of b c : Bool) → (IsTrue of → b ≡ c) → (of && b) ≡ (of && c)
of_this true b c same = same refl
of_this false b c same = refl

-- what a span has at a tick
span_holds : What → ℕ → SeenSpan → Bool
span_holds what t span = is_of what span.what && (nat_le span.from t && nat_lt t span.to)

holds_more : (span : SeenSpan) (spans : List SeenSpan) (what : What) (t : ℕ)
    → holds (span ∷ spans) what t ≡ (span_holds what t span || holds spans what t)
unfolding span_holds
holds_more span spans (Element place) t = refl
holds_more span spans (Loss channel) t = refl

pub holds_alike : (spans : List SeenSpan) (what : What) (t end k : ℕ)
    → All (ShowsAlike what t end) spans → t ≤ k → k < end
    → holds spans what k ≡ holds spans what t
unfolding span_holds
holds_alike [] (Element place) t end k alike low high = refl
holds_alike [] (Loss channel) t end k alike low high = refl
holds_alike (span ∷ spans) what t end k alike low high =
    holds_more span spans what k
    ∙ ap (λ (b : Bool). b || holds spans what k)
    (of_this (is_of what span.what) _ _
    (λ of. All-head (ShowsAlike what t end) span spans alike of k low high))
    ∙ ap (λ (b : Bool). span_holds what t span || b)
    (holds_alike spans what t end k (All-tail (ShowsAlike what t end) span spans alike) low high)
    ∙ sym (holds_more span spans what t)
