use Rattle.std.proofs.Common.{◌≤◌, ◌<◌, ◌-◌, ◌∙◌, ℕ, sym, ap, length, arith}
use Rattle.model_history.specs.Rails.{rails_at}
use Rattle.run_signal.specs.{Bits.bit_rails, Lanes.in_lane}
use Rattle.run_signal.proofs.TrackLaws.{rails_read}
use Rattle.run_signal.proofs.carried_lanes.key_before.Goals as goal

pub returns-then-c-len : goal.returns-then-c-len
returns-then-c-len c = λ lane inside.
    let keys = c.args.sent.now.keys in
    let t = length keys in
    let past : c.args.c ≤ t = omega (arith, c.if-c-len.true, c.len.ensures.length) in
    let u = rails_at (in_lane bit_rails lane keys) in
    sym (rails_read bit_rails keys _ c.at.result lane c.at.ensures)
    ∙ ap (λ (n : ℕ). u (n - c.args.c)) c.len-then-c-len.ensures.length
    ∙ sym (c.one_delay_reads_one_tick.ensures.rails u c.args.c t past)

pub returns-else-c-len : goal.returns-else-c-len
returns-else-c-len c = λ lane inside.
    let keys = c.args.sent.now.keys in
    let t = length keys in
    let early : t < c.args.c = omega (arith, c.if-c-len.false, c.len.ensures.length) in
    c.known.ensures lane inside
    ∙ sym (c.one_delay_reads_one_tick.ensures.rails_before (rails_at
    (in_lane bit_rails lane keys)) c.args.c t early)
