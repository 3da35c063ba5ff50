use Rattle.std.proofs.Common.{◌≤◌, ◌<◌, ◌-◌, ℕ, length, sym, ◌∙◌, ap, arith}
use Rattle.model_history.specs.Rails.{must_of, may_of, rails_at}
use Rattle.run_signal.specs.Lanes.{in_lane}
use Rattle.judge_verdict.specs.boxes.Terns.{terns_rails}
use Rattle.judge_verdict.proofs.boxes_lemmas.SentLaws.{sent_is}
use Rattle.judge_verdict.proofs.boxes.carried.key_before.Goals as goal

pub returns-then-c-len-clause-must : goal.returns-then-c-len-clause-must
returns-then-c-len-clause-must c = λ lane inside.
    let keys = c.args.sent.now.keys in
    let past : c.args.c ≤ length keys = omega (arith, c.if-c-len.true, c.len.ensures.length) in
    let u = rails_at (in_lane terns_rails lane keys) in
    sym (ap must_of (sent_is keys lane _ c.at.result c.at.ensures))
    ∙ ap (λ (n : ℕ). (u (n - c.args.c)).must) c.len-then-c-len.ensures.length
    ∙ sym (c.one_delay_reads_one_tick.ensures.value (λ r. (u r).must) c.args.c (length keys) past)

pub returns-then-c-len-clause-may : goal.returns-then-c-len-clause-may
returns-then-c-len-clause-may c = λ lane inside.
    let keys = c.args.sent.now.keys in
    let past : c.args.c ≤ length keys = omega (arith, c.if-c-len.true, c.len.ensures.length) in
    let u = rails_at (in_lane terns_rails lane keys) in
    sym (ap may_of (sent_is keys lane _ c.at.result c.at.ensures))
    ∙ ap (λ (n : ℕ). (u (n - c.args.c)).may) c.len-then-c-len.ensures.length
    ∙ sym (c.one_delay_reads_one_tick.ensures.value (λ r. (u r).may) c.args.c (length keys) past)

pub returns-else-c-len-clause-must : goal.returns-else-c-len-clause-must
returns-else-c-len-clause-must c = λ lane inside.
    let keys = c.args.sent.now.keys in
    let early : length keys < c.args.c = omega (arith, c.if-c-len.false, c.len.ensures.length) in
    ap must_of (c.known.ensures lane inside)
    ∙ sym (c.one_delay_reads_one_tick.ensures.value_before
    (λ r. (rails_at (in_lane terns_rails lane keys) r).must) c.args.c (length keys) early)

pub returns-else-c-len-clause-may : goal.returns-else-c-len-clause-may
returns-else-c-len-clause-may c = λ lane inside.
    let keys = c.args.sent.now.keys in
    let early : length keys < c.args.c = omega (arith, c.if-c-len.false, c.len.ensures.length) in
    ap may_of (c.known.ensures lane inside)
    ∙ sym (c.one_delay_reads_one_tick.ensures.value_before
    (λ r. (rails_at (in_lane terns_rails lane keys) r).may) c.args.c (length keys) early)
