-- What a script shows and what steps give, between their ticks.
use Rattle.std.proofs.Common.{◌≡◌, ℕ, suc, ◌+◌, ◌<◌, ◌≤◌, List, [], ◌∷◌, Bool, ◌&&◌, ◌||◌, Some}
use Rattle.std.proofs.Common.{refl, ◌∙◌, ap, arith, ⊎_elim}
use Rattle.std.proofs.lemmas.Bool.{cases_lt, eqb-true}
use Rattle.std.proofs.lemmas.Bool.Decides.{Decides-like, Decides-ltb, same_from_decides}
use Rattle.std.specs.Prelude.{slice_get, nat_le, nat_lt, if◌then◌else◌, ◌==◌, true, false}
use Rattle.std.specs.List.{list_any}
use Rattle.model_history.specs.TruthLaws.{Decides-le}
use Rattle.model_line.specs.Seen.{is_of_place, is_of_loss, shows, loses}
use Rattle.model_line.specs.declared.script.SeenSpan.{SeenSpan}
use Rattle.model_timing.specs.{declared.step.Step.Step, Timing.number_at}
use Rattle.run_step.specs.Quiet.{Keeps, ScriptKeeps, SpanKeeps, NoStepIn}

-- whether an event has come stays the same until it comes
le_keeps : (event t n : ℕ) → (t < event → t + n ≤ event) → Keeps (λ r. nat_le event r) t n
le_keeps event t n before r low high =
    same_from_decides (nat_le event r) (nat_le event t) (Decides-le event r)
    (Decides-like _ (λ le. omega arith)
    (λ le. ⊎_elim (λ lt. let far = before lt in absurd (omega (arith, far, le, high))) (λ h. h)
    (cases_lt t event))
    (Decides-le event t))

lt_keeps : (event t n : ℕ) → (t < event → t + n ≤ event) → Keeps (λ r. nat_lt r event) t n
lt_keeps event t n before r low high =
    same_from_decides (nat_lt r event) (nat_lt t event) (Decides-ltb r event)
    (Decides-like _ (λ lt. let far = before lt in omega (arith, far, lt, high))
    (λ lt. omega arith)
    (Decides-ltb t event))

pub span_keeps : (span : SeenSpan) (t n : ℕ) → (t < span.from → t + n ≤ span.from)
    → (t < span.to → t + n ≤ span.to) → SpanKeeps t n span
span_keeps span t n from to = record {
  seen = λ p r low high.
      ap (λ (b : Bool). is_of_place p span.what && (b && nat_lt r span.to))
      (le_keeps span.from t n from r low high)
      ∙ ap (λ (b : Bool). is_of_place p span.what && (nat_le span.from t && b))
      (lt_keeps span.to t n to r low high);
  lost = λ c r low high.
      ap (λ (b : Bool). is_of_loss c span.what && (b && nat_lt r span.to))
      (le_keeps span.from t n from r low high)
      ∙ ap (λ (b : Bool). is_of_loss c span.what && (nat_le span.from t && b))
      (lt_keeps span.to t n to r low high);
}

pub span_fewer : (span : SeenSpan) (t m n : ℕ) → m ≤ n → SpanKeeps t n span → SpanKeeps t m span
span_fewer span t m n le keeps = record {
  seen = λ p r low high. keeps.seen p r low (omega arith);
  lost = λ c r low high. keeps.lost c r low (omega arith);
}

any_keeps : (test : ℕ → SeenSpan → Bool) (spans : List SeenSpan) (r t : ℕ)
    → ((j : ℕ) (s : SeenSpan) → slice_get spans j ≡ Some s → test r s ≡ test t s)
    → list_any (test r) spans ≡ list_any (test t) spans
any_keeps test [] r t each = refl
any_keeps test (s ∷ spans) r t each =
    ap (λ (b : Bool). b || list_any (test r) spans) (each 0 s refl)
    ∙ ap (λ (b : Bool). test t s || b)
    (any_keeps test spans r t (λ j x at. each (suc j) x at))

pub script_keeps : (spans : List SeenSpan) (t n : ℕ)
    → ((j : ℕ) (s : SeenSpan) → slice_get spans j ≡ Some s → SpanKeeps t n s)
    → ScriptKeeps spans t n
script_keeps spans t n each = record {
  seen = λ p r low high.
      any_keeps (λ k s. shows p k s) spans r t (λ j s at. (each j s at).seen p r low high);
  lost = λ c r low high.
      any_keeps (λ k s. loses c k s) spans r t (λ j s at. (each j s at).lost c r low high);
}

-- what steps give of a parameter stays the same until one of it comes
pub number_keeps : {P : Type 0} (steps : List (Step P)) (param t n : ℕ) (own : P)
    → NoStepIn steps param t n → Keeps (λ r. number_at steps param r own) t n
number_keeps [] param t n own none r low high = refl
number_keeps {P} (s ∷ rest) param t n own none r low high =
    ap (λ (v : P). number_at rest param r v) (now (s.param == param) (λ is. eqb-true s.param param is))
    ∙ number_keeps rest param t n (if (s.param == param) && nat_le s.from t then s.value else own)
    (λ i step at. none (suc i) step at) r low high where
      now : (b : Bool) → (b ≡ true → s.param ≡ param)
          → (if b && nat_le s.from r then s.value else own)
          ≡ (if b && nat_le s.from t then s.value else own)
      now true is =
          ap (λ (b : Bool). if b then s.value else own)
          (le_keeps s.from t n (none 0 s refl (is refl)) r low high)
      now false is = refl

pub script_fewer : (spans : List SeenSpan) (t m n : ℕ) → m ≤ n → ScriptKeeps spans t n
    → ScriptKeeps spans t m
script_fewer spans t m n le keeps = record {
  seen = λ p r low high. keeps.seen p r low (omega arith);
  lost = λ c r low high. keeps.lost c r low (omega arith);
}
