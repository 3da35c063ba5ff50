use Rattle.std.proofs.Common.{refl, sym, ◌∙◌, ap, arith, ⊎_elim}
use Rattle.std.proofs.lemmas.Bool.{cases_lt}
use Rattle.model_history.specs.Rails.{must_of}
use Rattle.run_changes.specs.changes.PlayedTracks.{on_is}
use Rattle.judge_settle.proofs.corner.play.trips.Goals as goal

pub returns-then-must : goal.returns-then-must
returns-then-must c = (
  λ _. (
    c.stretches.t,
    c.stretches-test.true,
    on_is c.args.trip.now c.stretches.t c.at.result c.at.ensures
        ∙ sym c.must.ensures ∙ c.if-must.true,
  ),
  λ _. refl,
)

pub stretches-preserved : goal.stretches-preserved
stretches-preserved c = record {
  inside = omega arith;
  off = λ r early. ⊎_elim
      (λ before. c.stretches.invariant.off r before)
      (λ here.
      ap must_of ((c.stays_until-t.ensures.stays 0 (omega arith)).same r here early)
      ∙ on_is c.args.trip.now c.stretches.t c.at.result c.at.ensures
      ∙ sym c.must.ensures ∙ c.if-must.false)
      (cases_lt r c.stretches.t);
}

pub returns : goal.returns
returns c = (
  λ no. absurd (cc),
  λ some.
      let early = some.1 in
      let on = some.2 in
      let off = c.stretches.invariant.off some.0 (omega arith) in
      absurd (cc),
)
