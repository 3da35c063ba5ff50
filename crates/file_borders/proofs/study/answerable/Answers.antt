use Rattle.std.proofs.Common.{◌≡◌, ℕ, List, sym, ap, subst, arith, ◌∙◌}
use Rattle.model_history.specs.Rails.{Ends}
use Rattle.file_study.specs.study.Faults.{FaultValues, fault_values}
use Rattle.file_borders.specs.declared.fault.BordersFault.TheVariants as borders
use Rattle.file_borders.specs.Drawn.{part_of}
use Rattle.file_borders.specs.Studies.{played_ticks, study_refusal}
use Rattle.std.specs.Prelude.{Some}
use Rattle.file_borders.proofs.Studies.{answerable_is, long_is, well_is}
use Rattle.file_borders.proofs.study.answerable.Goals as goal

pub returns-then-ticks-gt4000-clause-refused : goal.returns-then-ticks-gt4000-clause-refused
returns-then-ticks-gt4000-clause-refused c =
    let f : FaultValues = fault_values c.args.fault.now in
    let told : c.played_ticks-ticks.result ≡ played_ticks c.args.line.now (part_of f.stages) =
    c.played_ticks-ticks.ensures
    ∙ ap (λ (l : List Ends). played_ticks c.args.line.now l) (c.as_slice.ensures.value ∙ c.in_ok-loose.ensures.is.part) in
    subst (λ (n : ℕ). study_refusal c.args.line.now f ≡ Some (borders.PlayedLong n c.args.line.now.tick_us)) (sym told)
    (long_is c.args.line.now f c.in_ok-loose.ensures.accepted (omega (arith, told, c.if-ticks-gt4000.true)))

pub returns-clause-is : goal.returns-clause-is
returns-clause-is c = (
  c.in_ok-loose.ensures.is,
  answerable_is c.args.line.now (fault_values c.args.fault.now) c.in_ok-loose.loose c.requires
      c.in_ok-loose.ensures.accepted c.in_ok-loose.ensures.is
      (let told : c.played_ticks-ticks.result ≡ played_ticks c.args.line.now c.in_ok-loose.loose.part.items =
      c.played_ticks-ticks.ensures
      ∙ ap (λ (l : List Ends). played_ticks c.args.line.now l) c.as_slice.ensures.value in
      omega (arith, told, c.if-ticks-gt4000.false)),
)

pub returns-clause-well : goal.returns-clause-well
returns-clause-well c =
    let f : FaultValues = fault_values c.args.fault.now in
    let told : c.played_ticks-ticks.result ≡ played_ticks c.args.line.now (part_of f.stages) =
    c.played_ticks-ticks.ensures
    ∙ ap (λ (l : List Ends). played_ticks c.args.line.now l) (c.as_slice.ensures.value ∙ c.in_ok-loose.ensures.is.part) in
    well_is c.args.line.now f c.in_ok-loose.ensures.accepted (omega (arith, told, c.if-ticks-gt4000.false))
