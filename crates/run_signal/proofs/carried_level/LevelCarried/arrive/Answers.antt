use Rattle.std.proofs.Common.{◌≡◌, ◌≤◌, ◌<◌, ◌-◌, ◌∙◌, sym, ap, length, arith, ℕ, subst}
use Rattle.model_history.specs.Rails.{rails_at}
use Rattle.run_signal.specs.{Lanes.in_lane, Levels.level_rails}
use Rattle.run_signal.proofs.TrackLaws.{rails_read}
use Rattle.run_signal.proofs.carried_level.LevelCarried.arrive.Goals as goal

pub returns-then-c-len : goal.returns-then-c-len
returns-then-c-len c = λ lane inside.
    let keys = c.args.sent.now.keys in
    let t = length keys in
    let past : c.value-c.result ≤ t = omega (arith, c.if-c-len.true, c.len.ensures.length) in
    let e : c.value-c.result ≡ c.args.delay.now = c.value-c.ensures.value in
    let u = rails_at (in_lane (λ v _. level_rails v) lane keys) in
    sym (rails_read (λ v _. level_rails v) keys _ c.at.result lane c.at.ensures)
    ∙ ap (λ (n : ℕ). u (n - c.value-c.result)) c.len-then-c-len.ensures.length
    ∙ ap (λ (k : ℕ). u (t - k)) e
    ∙ sym (c.one_delay_reads_one_tick.ensures.rails u c.args.delay.now t (subst (λ (k : ℕ). k ≤ t) e
    past))

pub returns-else-c-len : goal.returns-else-c-len
returns-else-c-len c = λ lane inside.
    let keys = c.args.sent.now.keys in
    let t = length keys in
    let e : c.value-c.result ≡ c.args.delay.now = c.value-c.ensures.value in
    let early : t < c.value-c.result = omega (arith, c.if-c-len.false, c.len.ensures.length) in
    sym (c.one_delay_reads_one_tick.ensures.rails_before (rails_at (in_lane (λ v _.
    level_rails v) lane keys)) c.args.delay.now t
    (subst (λ (k : ℕ). t < k) e early))
