-- The folder of a name, found from its end.
use Rattle.std.proofs.Common.{◌≡◌, ◌==◌, ◌-◌, ◌<◌, ◌≤◌, ℕ, true, false, not, List, length, take}
use Rattle.std.proofs.Common.{get_or, ap, arith}
use Rattle.std.specs.List.{suffix_len}
use Rattle.std.proofs.lemmas.List.Sums.{suffix_len_is}
use Rattle.call_records.specs.Beside.{folder_of}

-- nothing from n on is a slash, and the byte before n is one, or there is none
pub folder_at : (name : List ℕ) (n : ℕ) → n ≤ length name
    → ((k : ℕ) → n ≤ k → k < length name → not (get_or name k 0 == 47) ≡ true)
    → (0 < n → not (get_or name (n - 1) 0 == 47) ≡ false)
    → take n name ≡ folder_of name
folder_at name n inside passed stops =
    let behind = suffix_len_is (λ byte. not (byte == 47)) name n 0 inside passed stops in
    let n_is : n ≡ length name - suffix_len (λ byte. not (byte == 47)) name = omega (arith, behind) in
    ap (λ m. take m name) n_is
