use Rattle.std.proofs.Common.{false, get_or, ◌/◌, ◌%◌, ◌^◌, cond, eqb, ap, ◌∙◌}
use Rattle.std.proofs.Common.{arith, w16}
use lib.Lanes.{zip2, mask_l}
use Rattle.std.proofs.lemmas.Simd.{tops_compared, length-zip2, mask_l-mod, bit_mask_l, get_or-zip2}
use Rattle.run_signal.proofs.VectorLaws.{bit_back}
use Rattle.run_signal.proofs.lanes.bits_equal.Goals as goal

pub returns : goal.returns
returns c = λ i lt.
    let a = c.args.a in
    let b = c.args.b in
    let long = length-zip2 eqb a b (omega arith) in
    let bit = ap (λ n. n / 2 ^ i % 2) (ap (λ ms. mask_l ms % 2 ^ 64) (tops_compared w16 eqb a b)
    ∙ mask_l-mod (zip2 eqb a b) 64 (omega arith))
    ∙ bit_mask_l (zip2 eqb a b) i
    ∙ ap (λ t. cond t 1 0) (get_or-zip2 eqb a b i 0 0 false (omega arith) (omega arith)) in
    ap (λ n. eqb n 1) bit ∙ bit_back (eqb (get_or a i 0) (get_or b i 0))
