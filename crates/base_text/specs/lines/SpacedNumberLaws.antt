-- How long numbers are, each with a space before it.
use Rattle.std.proofs.Common.{◌≤◌, ◌<◌, ◌*◌, ◌^◌, ℕ, List, [], ◌∷◌, length, arith, decimal, length-append}
use Rattle.std.proofs.lemmas.Fmt.{length-decimal-le}
use Rattle.std.proofs.lemmas.List.Elements.{All-head, All-tail}
use Rattle.std.specs.List.{All}
use Rattle.base_text.specs.lines.SpacedNumbers.{numbers_text}

pub numbers_short : (numbers : List ℕ) → All (λ n. n < 2 ^ 32) numbers
    → length (numbers_text numbers) ≤ 11 * length numbers
numbers_short [] small = omega arith
numbers_short (n ∷ numbers) small =
    let P : ℕ → Type 0 = λ k. k < 2 ^ 32 in
    let here : n < 2 ^ 32 = All-head P n numbers small in
    let digits : length (decimal n) ≤ 10 =
    length-decimal-le 10 n (omega arith) (omega arith) (omega arith) in
    omega (
      arith,
      digits,
      numbers_short numbers (All-tail P n numbers small),
      length-append (decimal n) (numbers_text numbers),
    )
