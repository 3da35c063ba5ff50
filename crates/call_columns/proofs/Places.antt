-- The first place of a field stays the first.
use Rattle.std.proofs.Common.{◌≡◌, ◌<◌, ◌+◌, ◌-◌, ◌∙◌, ℕ, zero, suc, List, Option, Some, None, length}
use Rattle.std.proofs.Common.{true, refl, sym, ap, arith}
use native.Mathlib.Numerals.{unary_clauses}
use Rattle.std.specs.Str.{bytes_eq}
use Rattle.call_columns.specs.Answers.{place_below, place_named, place_or}
use Rattle.call_columns.specs.Fields.{Fields, field_of}

stays : (name : List ℕ) (header : Fields) (n more place : ℕ)
    → place_below name header n ≡ Some place → place_below name header (n + more) ≡ Some place
stays name header n zero place is = simp unary_clauses is
stays name header n (suc more) place is =
    simp unary_clauses (ap
    (λ found. place_or found (bytes_eq (field_of header (n + more)) name) (n + more))
    (stays name header n more place is))

pub first_place : (name : List ℕ) (header : Fields) (place : ℕ) → place < length header
    → place_below name header place ≡ None → bytes_eq (field_of header place) name ≡ true
    → place_named name header ≡ Some place
first_place name header place within none here =
    let first : place_below name header (suc place) ≡ Some place = rw (none, here) refl in
    let all : suc place + (length header - suc place) ≡ length header = omega (arith, within) in
    sym (ap (place_below name header) all)
    ∙ stays name header (suc place) (length header - suc place) place first
