use Rattle.std.proofs.Common.{sym, ◌∙◌, ap, arith, ⊎_elim}
use Rattle.std.proofs.lemmas.Bool.{cases_lt}
use Rattle.model_history.specs.Rails.{must_of}
use Rattle.run_changes.specs.changes.PlayedTracks.{on_is}
use Rattle.cert_claims.proofs.check.met.first_trip.Goals as goal

pub returns-then-must : goal.returns-then-must
returns-then-must c = record {
  from_there = omega arith;
  within = c.stretches-test.true;
  on = on_is c.args.trip.now c.stretches.t c.at.result c.at.ensures
      ∙ sym c.must.ensures ∙ c.if-must.true;
  before = c.stretches.invariant.off;
}

pub stretches-preserved : goal.stretches-preserved
stretches-preserved c = record {
  inside = c.stays_until-t.ensures.limited;
  off = λ r from early. ⊎_elim
      (λ before. c.stretches.invariant.off r from before)
      (λ here.
      ap must_of ((c.stays_until-t.ensures.stays 0 (omega arith)).same r here early)
      ∙ on_is c.args.trip.now c.stretches.t c.at.result c.at.ensures
      ∙ sym c.must.ensures ∙ c.if-must.false)
      (cases_lt r c.stretches.t);
}

pub returns : goal.returns
returns c = λ t from early. c.stretches.invariant.off t from (omega arith)
