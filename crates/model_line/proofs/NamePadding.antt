-- A copy of bytes over zeros.
use Rattle.std.proofs.Common.{◌≡◌, ℕ, ◌-◌, ◌≤◌, List, ◌++◌, length, drop, replicate, sym, ap}
use Rattle.std.proofs.Common.{arith, length-append, length-drop}
use Rattle.std.proofs.lemmas.List.{drop-replicate, length-replicate}
use Rattle.std.proofs.Math.Seq.{take-append_seam}
use Rattle.model_line.specs.ShortTexts.{IsPadded}

-- bytes over the first of as many zeros as there may be bytes
pub padded-copy :
    (most : ℕ) (bs new : List ℕ) → new ≡ bs → length bs ≤ most →
    IsPadded most (length bs) (new ++ drop (length bs) (replicate most 0))
padded-copy most bs new e fits =
    let zeros : List ℕ = drop (length bs) (replicate most 0) in
    let z : zeros ≡ replicate (most - length bs) 0 = drop-replicate (length bs) most 0 in
    let n : length zeros ≡ length (replicate {A = ℕ} most 0) - length bs =
    length-drop (length bs) (replicate most 0) in
    let all : length (replicate {A = ℕ} most 0) ≡ most = length-replicate most 0 in
    record {
      within = fits;
      whole = omega (arith, n, all, ap length e, length-append new zeros);
      zeros = rw (e, take-append_seam) (ap (λ t. bs ++ t) (sym z));
    }
