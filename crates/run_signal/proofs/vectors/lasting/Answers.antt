use Rattle.std.proofs.Common.{◌≡◌, ◌+◌, ◌∙◌, ap, get_or, ltb, arith}
use lib.Lanes.{chunk}
use Rattle.std.proofs.lemmas.List.{get_or-replicate}
use Rattle.std.proofs.lemmas.Simd.{get_or-chunk}
use Rattle.run_signal.specs.Bits.{bit_on}
use Rattle.run_signal.proofs.vectors.lasting.Goals as goal

pub returns : goal.returns
returns c = λ i lt.
    let left = c.args.left.now in
    let start : 0 + i ≡ i = omega arith in
    ap (λ n. bit_on n i) c.from_bits.ensures
    ∙ c.bits_below.ensures i lt
    ∙ ap (λ n. ltb n (get_or (chunk 0 64 left) i 0)) (get_or-replicate 64 i 0 0 lt)
    ∙ ap (ltb 0) (get_or-chunk 0 64 left i 0 lt ∙ ap (λ k. get_or left k 0) start)
