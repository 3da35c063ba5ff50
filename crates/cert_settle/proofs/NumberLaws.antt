-- Texts without an `@`, those that end before a space, and those of two numbers.
use Rattle.std.proofs.Common.{◌≡◌, ◌+◌, ◌<◌, ◌^◌, ◌-◌, ℕ, Bool, true, cond, not, List, [], ◌∷◌, ◌++◌}
use Rattle.std.proofs.Common.{subst, arith, length, ap, sym, ◌∙◌, refl, ne_eqb, take, drop}
use Rattle.std.proofs.lemmas.List.{take_at, drop_at, take_all, length-drop}
use Rattle.std.specs.Prelude.{◌==◌, codes, decimal}
use Rattle.std.specs.List.{position_or_len}
use Rattle.model_names.specs.ParamNamesApart.{has_no}
use Rattle.base_text.specs.lines.LineLaws.{both_true}
use Rattle.cert_split.specs.text.StretchLaws.{Unmarked}
use Rattle.cert_split.specs.text.NumberLaws.{IsSpace, no_space}
use Rattle.cert_settle.specs.Grammar.{two_numbers}

abbrev pub IsAt : ℕ → Type 0
IsAt byte = byte ≡ 64

-- no byte is an `@`
pub no_at : (bytes : List ℕ) → has_no 64 bytes ≡ true → Unmarked IsAt bytes
no_at [] all = tt
no_at (b ∷ bytes) all =
    let both = both_true (not (b == 64)) (has_no 64 bytes) all in (
      λ is. (let no : not (64 == 64) ≡ true = subst (λ (n : ℕ). not (n == 64) ≡ true) is both.0 in
          cc),
      no_at bytes both.1,
    )

-- the first space stands where one follows bytes that are none
pub first_space : (bytes rest : List ℕ) → Unmarked IsSpace bytes
    → position_or_len (λ byte. byte == 32) (bytes ++ 32 ∷ rest) ≡ length bytes
first_space [] rest plain = refl
first_space (b ∷ bytes) rest plain =
    ap (λ (other : Bool). cond other (1 + position_or_len (λ byte. byte == 32) (bytes ++ 32 ∷ rest)) 0)
    (ap not (ne_eqb b 32 plain.0))
    ∙ (let more = first_space bytes rest plain.1 in omega arith)

-- what stands from a place on is all that stands behind it
pub tail_whole : (n : ℕ) (xs : List ℕ) → take (length xs - n) (drop n xs) ≡ drop n xs
tail_whole n xs = take_all (length xs - n) (drop n xs) (omega (arith, length-drop n xs))

-- two numbers, and where the first ends
module _ (text : List ℕ) (n m : ℕ) (is : text ≡ two_numbers n m) (end : ℕ)
    (place : end ≡ position_or_len (λ byte. byte == 32) text) (small : n < 2 ^ 32) where
  ends : length (decimal n) ≡ end
  ends =
      sym (place ∙ ap (position_or_len (λ byte. byte == 32)) is
      ∙ first_space (decimal n) (decimal m) (no_space n small))

  pub first_is : take end text ≡ decimal n
  first_is = ap (take end) is ∙ take_at (decimal n) (32 ∷ decimal m) end ends

  pub rest_is : drop end text ≡ 32 ∷ decimal m
  rest_is = ap (drop end) is ∙ drop_at (decimal n) (32 ∷ decimal m) end ends

  pub last_is : (last : List ℕ) → drop end text ≡ codes " " ++ last → last ≡ decimal m
  last_is last is_last = ap (drop 1) (sym is_last ∙ rest_is)
