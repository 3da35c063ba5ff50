use Rattle.std.proofs.Common.{◌≡◌, ◌<◌, ◌≤◌, ◌-◌, length, ◌∙◌, ap, arith, inl, inr}
use Rattle.model_history.specs.Rails.{rails_at}
use Rattle.run_signal.specs.Lanes.{in_lane}
use Rattle.run_step.specs.DelayLaws.{end_lasts, early_lasts, known_rails}
use Rattle.run_changes.proofs.changes.arrivals.end_stays.Goals as goal

pub returns-then-t-c-clause-keeps : goal.returns-then-t-c-clause-keeps
returns-then-t-c-clause-keeps g c = λ lane u inside is.
    early_lasts u (c.args.t - 1) c.args.c c.args.t (c.args.c - c.args.t) (omega arith)

pub returns-then-end-t-clause-keeps : goal.returns-then-end-t-clause-keeps
returns-then-end-t-clause-keeps g c = λ lane u inside is.
    let t = c.args.t in
    let d = c.args.c in
    let end = c.stays_until-end.result in
    let v = rails_at (in_lane g.V.Signal.signal.rails lane c.args.key.now.keys) in
    let long : length c.args.key.now.keys ≡ t = c.requires.known in
    let limit : end ≤ length c.args.key.now.keys = c.stays_until-end.ensures.limited in
    let most : end ≤ t = omega (arith, long, limit) in
    let past : d ≤ t = omega arith in
    end_lasts u d t end 4000 c.requires.later past most
    (known_rails v u d t end most past c.requires.later
    (λ r lt. ap (λ l. rails_at l r) is ∙ c.history_laws.ensures.recordings.rails u t r lt)
    (c.stays_until-end.ensures.stays lane inside).same)
    (inl (omega arith))

pub returns-else-end-t-clause-keeps : goal.returns-else-end-t-clause-keeps
returns-else-end-t-clause-keeps g c = λ lane u inside is.
    let t = c.args.t in
    let d = c.args.c in
    let end = c.stays_until-end.result in
    let v = rails_at (in_lane g.V.Signal.signal.rails lane c.args.key.now.keys) in
    let long : length c.args.key.now.keys ≡ t = c.requires.known in
    let limit : end ≤ length c.args.key.now.keys = c.stays_until-end.ensures.limited in
    let most : end ≤ t = omega (arith, long, limit) in
    let past : d ≤ t = omega arith in
    let later : t - d < end = c.stays_until-end.ensures.later in
    end_lasts u d t end (end - (t - d)) c.requires.later past most
    (known_rails v u d t end most past c.requires.later
    (λ r lt. ap (λ l. rails_at l r) is ∙ c.history_laws.ensures.recordings.rails u t r lt)
    (c.stays_until-end.ensures.stays lane inside).same)
    (inr (omega arith))
