use Rattle.std.proofs.Common.{◌<◌, suc, length, ap, ◌∙◌, arith}
use Rattle.std.proofs.lemmas.Option.{slice_get-get_or}
use Rattle.std.specs.Prelude.{slice_get}
use Rattle.judge_margins.proofs.map_lemmas.ListLaws.{at_front}
use Rattle.judge_margins.proofs.map.fault.+first_fault.Goals as goal

pub width-requires : goal.width-requires
width-requires t c =
    let params = c.args.params.now in
    let some : 0 < length params = omega arith in
    c.requires.params 0 _ (slice_get-get_or params 0 0 some)

pub index-requires : goal.index-requires
index-requires t c =
    let params = c.args.params.now in
    let some : 0 < length params = omega arith in
    let own = c.requires.params 0 _ (slice_get-get_or params 0 0 some) in
    omega (arith, own, c.args.line.now.params.ok.0)

pub index-requires-then-first-eq0 : goal.index-requires-then-first-eq0
index-requires-then-first-eq0 t c =
    let params = c.args.params.now in
    let some : 0 < length params = omega arith in
    let own = c.requires.params 0 _ (slice_get-get_or params 0 0 some) in
    omega (arith, own, c.args.line.now.params.ok.0)

pub overflow_add-last : goal.overflow_add-last
overflow_add-last t c = record { fits = omega (arith, c.requires.last, c.width.ensures.small) }

pub first_fault-requires : goal.first_fault-requires
first_fault-requires t c =
    let params = c.args.params.now in
    let some : 0 < length params = omega arith in (
      omega (arith, c.decreases, ap length (at_front params some)),
      (
        λ i param at.
            c.requires.params (suc i) param (ap (λ xs. slice_get xs (suc i)) (at_front params some) ∙ at),
        c.requires.last,
      ),
    )
