use Rattle.std.proofs.Common.{◌≡◌, ℕ, List, refl, ap, subst, arith, ◌∙◌, map}
use Rattle.std.specs.Prelude.{get_or}
use Rattle.file_study.specs.study.Faults.{fault_values, stage_values}
use Rattle.file_study.specs.declared.study.stage.Stage.{Stage}
use Rattle.file_borders.specs.declared.loose.LooseFault.{LooseFault}
use Rattle.file_borders.specs.Drawn.{drawing, drawing_of, AreBorders, least_sum, part_of}
use Rattle.file_borders.proofs.Faults.{loose_is}
use Rattle.file_borders.proofs.Steps.{few_ticks}
use Rattle.file_borders.proofs.loose.drawn_fault.Goals as goal

pub draw-requires-clause-ticks : goal.draw-requires-clause-ticks
draw-requires-clause-ticks c =
    let first : c.first_of-start.result ≡ get_or (fault_values c.args.fault.now).start 0 0 =
    c.first_of-start.ensures ∙ ap (λ (l : List ℕ). get_or l 0 0) c.deref.ensures.value in
    let least : least_sum (map stage_values c.deref-2.result.now) ≡ least_sum (fault_values c.args.fault.now).stages =
    ap (λ (l : List Stage). least_sum (map stage_values l)) c.deref-2.ensures.value in
    omega (arith, first, least, (few_ticks (fault_values c.args.fault.now) c.requires.ends).0)

pub returns : goal.returns
returns c =
    let first : c.first_of-start.result ≡ get_or (fault_values c.args.fault.now).start 0 0 =
    c.first_of-start.ensures ∙ ap (λ (l : List ℕ). get_or l 0 0) c.deref.ensures.value in
    let drawn : drawing c.in_ok-drawn.drawn
    ≡ drawing_of (get_or (fault_values c.args.fault.now).start 0 0) (fault_values c.args.fault.now).stages =
    c.in_ok-drawn.ensures
    ∙ ap (λ (n : ℕ). drawing_of n (map stage_values c.deref-2.result.now)) first
    ∙ ap (λ (l : List Stage). drawing_of (get_or (fault_values c.args.fault.now).start 0 0) (map stage_values l))
    c.deref-2.ensures.value in
    let loose : LooseFault = record {
      kind = c.args.fault.now.kind;
      within = c.first_of.result;
      part = c.in_ok-part_of.field-0;
      script = record {
        name = c.args.fault.now.name;
        borders = c.in_ok-borders.borders;
        spans = c.in_ok-drawn.drawn.spans;
      };
    } in
    loose_is (fault_values c.args.fault.now) c.requires loose c.in_ok-drawn.drawn.borders.items refl
    (c.first_of.ensures ∙ ap (λ (l : List ℕ). get_or l 0 0) c.deref-4.ensures.value)
    (c.in_ok-part_of.ensures ∙ ap (λ (l : List Stage). part_of (map stage_values l)) c.deref-5.ensures.value)
    drawn
    (subst (λ l. AreBorders l c.in_ok-borders.borders.items) c.deref-3.ensures.value c.in_ok-borders.ensures)
