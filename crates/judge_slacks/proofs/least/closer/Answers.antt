use Rattle.std.proofs.Common.{◌≡◌, ◌<◌, ◌+◌, ◌∙◌, ℕ, true, ap, sym, subst, arith}
use Rattle.run_signal.specs.Bits.{bit_on}
use Rattle.judge_slacks.specs.Asked.{IsCloser, IsHeldBy, move_at}
use Rattle.judge_slacks.proofs.MoveLaws.{can_move}
use Rattle.judge_slacks.proofs.NeedLaws.{closer_is, last_move}
use Rattle.judge_slacks.proofs.least.closer.Goals as goal

pub returns-then-must : goal.returns-then-must
returns-then-must c =
    let of = c.args.of.now in
    let gap = c.args.gap in
    let lane : ℕ = c.loop-lane.lane in
    let inside : lane < 64 = omega (arith, c.loop-lane-test.true) in
    let on : bit_on c.in_ok-bits.bits lane ≡ true = sym c.must.ensures ∙ c.if-must.true in
    let held : IsHeldBy of (move_at gap (lane + 1)) = (c.in_ok-bits.ensures lane inside).0 on in
    let off = subst (λ (n : ℕ). IsHeldBy of n → ⊥) c.loop-lane.invariant.near
    c.loop-lane.invariant.off in
    subst (λ (n : ℕ). IsCloser of gap (record { near = c.loop-lane.near; far = n }))
    (sym c.move_at-far.ensures)
    (subst (λ (n : ℕ). IsCloser of gap (record { near = n; far = move_at gap (lane + 1) }))
    (sym c.loop-lane.invariant.near)
    (closer_is c.laws_below.ensures of c.requires.asked gap lane off held
    (can_move of gap c.requires.gap (lane + 1))))

pub returns : goal.returns
returns c =
    let of = c.args.of.now in
    let gap = c.args.gap in
    let last : c.loop-lane.lane ≡ 64 =
    omega (arith, c.loop-lane-test.false, c.loop-lane.auto.lane-end) in
    let same : c.loop-lane.near ≡ gap.far =
    c.loop-lane.invariant.near ∙ ap (move_at gap) last ∙ last_move gap c.requires.gap.ordered in
    λ held. c.loop-lane.invariant.off (subst (IsHeldBy of) (sym same) held)
