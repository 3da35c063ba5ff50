use Rattle.std.proofs.Common.{◌≤◌, ◌-◌, ◌∙◌, ℕ, sym, ap, length, arith}
use Rattle.model_history.specs.Rails.{must_of, rails_at}
use Rattle.run_signal.specs.{Lanes.in_lane, Terns.tern_rails}
use Rattle.run_signal.specs.Sent.{sent_must}
use Rattle.run_signal.proofs.{SentLaws.come_more, TrackLaws.rails_read}
use Rattle.run_signal.proofs.carried_tern.must_come.Goals as goal

pub loop-c-preserved : goal.loop-c-preserved
loop-c-preserved c =
    let keys = c.args.sent.now.keys in
    let t = length keys in
    let past : c.loop-c.c ≤ t = omega (arith, c.if-c-len.false, c.len.ensures.length) in
    let u = rails_at (in_lane (λ v _. tern_rails v) 0 keys) in
    come_more (sent_must keys) c.args.least c.loop-c.c t c.loop-c.invariant
    (record {
      past = past;
      on = ap (λ (n : ℕ). must_of (u (n - c.loop-c.c))) (sym c.len-else-c-len.ensures.length)
          ∙ ap must_of
          (rails_read (λ v _. tern_rails v) keys _ c.at.result 0 c.at.ensures)
          ∙ sym c.must.ensures ∙ c.if-not-must.false;
    })
