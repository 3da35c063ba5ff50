use Rattle.std.proofs.Common.{◌≡◌, ◌&&◌, ◌==◌, ◌+◌, true, false, length, take, get_or, Some, sym}
use Rattle.std.proofs.Common.{ap, ◌∙◌, arith, eq-eqb}
use Rattle.std.proofs.Math.Seq.{take-length}
use Rattle.std.specs.List.{list_any}
use Rattle.model_line.specs.FirstPositionLaws.{position_from-first, position_from-none}
use Rattle.model_line.specs.{declared.line.Channel.Channel, Channels.is_pair}
use Rattle.model_line.proofs.channels.find_channel.Goals as goal

pub returns-then-channel-to : goal.returns-then-channel-to
returns-then-channel-to c =
    let none : Channel = record { from = 0; to = 0 } in
    let h : Channel = get_or c.args.channels.now c.loop-c.c none in
    let here : is_pair c.args.from c.args.to h ≡ true =
    ap (λ b. b && (h.to == c.args.to)) (eq-eqb h.from c.args.from c.if-channel-from.true)
    ∙ eq-eqb h.to c.args.to c.if-channel-to.true in
    let e : 0 + c.loop-c.c ≡ c.loop-c.c = omega arith in
    sym (position_from-first (is_pair c.args.from c.args.to) 0 c.loop-c.c c.args.channels.now none
    c.loop-c-test.true c.loop-c.invariant here
    ∙ ap Some e)

pub returns : goal.returns
returns c =
    let all : c.loop-c.c ≡ length c.args.channels.now = omega arith in
    let none : list_any (is_pair c.args.from c.args.to) c.args.channels.now ≡ false =
    ap (λ xs. list_any (is_pair c.args.from c.args.to) xs)
    (sym (take-length c.args.channels.now))
    ∙ ap (λ n. list_any (is_pair c.args.from c.args.to) (take n c.args.channels.now)) (sym all)
    ∙ c.loop-c.invariant in
    sym (position_from-none (is_pair c.args.from c.args.to) 0 c.args.channels.now none)
