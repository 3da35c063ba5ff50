use Rattle.std.proofs.Common.{Option, subst, arith}
use Rattle.judge_slacks.specs.Asked.{IsHeldBy, TellsCloser}
use Rattle.judge_slacks.specs.declared.asked.Gap.{Gap}
use Rattle.judge_slacks.proofs.NeedLaws.{none_is, zero_off}
use Rattle.judge_slacks.proofs.least.least_move.Goals as goal

pub returns-then-far-eq0 : goal.returns-then-far-eq0
returns-then-far-eq0 c =
    let of = c.args.of.now in
    let far = c.room_in-far.result in
    none_is c.laws_below.ensures of c.requires far (λ n can. (c.room_in-far.ensures.room n).0 can)
    ((c.room_in-far.ensures.room far).1 (omega arith))
    (λ held. zero_off c.laws_below.ensures of c.requires (subst (IsHeldBy of) c.if-far-eq0.true held))

pub closer-requires-clause-gap : goal.closer-requires-clause-gap
closer-requires-clause-gap c = record {
  ordered = omega (arith, c.if-far-eq0.false);
  can = (c.room_in-far.ensures.room c.room_in-far.result).1 (omega arith);
  off = zero_off c.laws_below.ensures c.args.of.now c.requires;
}

pub returns-in-None : goal.returns-in-None
returns-in-None c =
    let of = c.args.of.now in
    let far = c.room_in-far.result in
    none_is c.laws_below.ensures of c.requires far (λ n can. (c.room_in-far.ensures.room n).0 can)
    ((c.room_in-far.ensures.room far).1 (omega arith))
    (subst (λ (o : Option Gap). TellsCloser of (record { near = 0; far = far }) o) c.in-None.is
    c.in_ok-coarse.ensures)
