use Rattle.std.proofs.Common.{◌≡◌, ◌+◌, ℕ, List, get_or, replicate, ap, ◌∙◌, eqb, arith}
use Rattle.std.proofs.lemmas.List.{get_or-replicate}
use Rattle.std.proofs.lemmas.Simd.{get_or-chunk}
use Rattle.run_signal.specs.Bits.{bit_on}
use Rattle.run_signal.proofs.lanes.Ticks64.lanes_with.Goals as goal

pub returns : goal.returns
returns c = λ lane lt.
    let values = c.self.inside.values in
    let n = c.args.number in
    let start : 0 + lane ≡ lane = omega arith in
    ap (λ (m : ℕ). bit_on m lane) c.from_bits.ensures
    ∙ c.bits_equal.ensures lane lt
    ∙ ap (λ (x : ℕ). eqb x (get_or (replicate 64 n) lane 0))
    (get_or-chunk 0 64 values lane 0 lt ∙ ap (λ (k : ℕ). get_or values k 0) start
    ∙ ap (λ (l : List ℕ). get_or l lane 0) c.self.view_is)
    ∙ ap (λ (y : ℕ). eqb (get_or c.args.self.now lane 0) y) (get_or-replicate 64 lane n 0 lt)
