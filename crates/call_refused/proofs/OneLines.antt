-- What is written of a place and of words is one line that tells them.
use Rattle.std.proofs.Common.{◌≡◌, ◌≤◌, ◌<◌, ◌+◌, ◌++◌, ℕ, Bool, true, false, List, [], ◌∷◌, length}
use Rattle.std.proofs.Common.{map, refl, ap, arith, append_assoc, length-append, if◌then◌else◌, not}
use Rattle.std.proofs.lemmas.List.{length-map, map-append}
use Rattle.std.specs.List.{list_all}
use Rattle.call_refused.specs.told.Told.{IsToldAt, IsToldOn, is_control, within_line, place_text}

one_within : (b : ℕ) → not (is_control (within_line b)) ≡ true
one_within b =
    let shown : Bool → ℕ = λ test. if test then 63 else b in
    let P : Bool → Type 0 = λ test. is_control b ≡ test → not (is_control (shown test)) ≡ true in
    (elim (is_control b) as P [ true ↦ λ e. refl | false ↦ λ e. ap not e ]) refl

all_within : (ws : List ℕ) → list_all (λ b. not (is_control b)) (map within_line ws) ≡ true
all_within [] = refl
all_within (b ∷ ws) = rw (one_within b, all_within ws)

pub told_line : (name bytes : List ℕ) (at : ℕ) (rule more none place first second text : List ℕ)
    → 0 < length rule
    → none ≡ [] → place ≡ none ++ place_text name bytes at
    → first ≡ place ++ map within_line rule → second ≡ first ++ map within_line more
    → text ≡ second ++ 10 ∷ []
    → IsToldOn name bytes at text
told_line name bytes at rule more none place first second text some e0 e1 e2 e3 e4 =
    let start = place_text name bytes at in
    let words = map within_line (rule ++ more) in
    let long : length words ≡ length (rule ++ more) = length-map (rule ++ more) within_line in
    let both : length (rule ++ more) ≡ length rule + length more = length-append rule more in
    record {
      words = words;
      some = omega (arith, long, both, some);
      unbroken = all_within (rule ++ more);
      is = rw (e4, e3, e2, e1, e0, map-append within_line rule more)
          (ap (λ (l : List ℕ). l ++ 10 ∷ []) (append_assoc start (map within_line rule) (map within_line more)));
    }

pub told_at : (name bytes : List ℕ) (at : ℕ) (text : List ℕ) → at ≤ length bytes
    → IsToldOn name bytes at text → IsToldAt name bytes text
told_at name bytes at text within on = record {
  at = at;
  words = on.words;
  within = within;
  some = on.some;
  unbroken = on.unbroken;
  is = on.is;
}
