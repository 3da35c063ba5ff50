use Rattle.std.proofs.Common.{◌≡◌, ℕ, suc, ◌+◌, arith, ap, sym, ◌∙◌, subst}
use Rattle.model_history.specs.Rails.{must_of}
use Rattle.run_changes.specs.changes.PlayedTracks.{is_on}
use Rattle.run_changes.specs.rows.PlayRows.{value_before}
use Rattle.run_changes.proofs.rows.rows.stands_from.Goals as goal

pub returns : goal.returns
returns c =
    let u = is_on c.args.track.now in
    let t = c.args.t in
    let next : suc t ≡ t + 1 = omega arith in
    record {
      before = subst (λ (n : ℕ). value_before u n ≡ c.on_at.result) next (sym c.on_at.ensures);
      later = omega (arith, c.stays_until.ensures.later);
      stays = λ r low high.
          ap must_of ((c.stays_until.ensures.stays 0 (omega arith)).same r (omega arith)
          (omega (arith, high)))
          ∙ sym c.on_at.ensures;
    }
