use Rattle.std.proofs.Common.{ℕ, subst, arith}
use Rattle.std.specs.Prelude.{Decides}
use Rattle.std.proofs.lemmas.Option.{get_or_from_slice_get, slice_get-get_or}
use Rattle.judge_margins.specs.map.Placed.{CanPlace}
use Rattle.judge_margins.proofs.map.intervals.can_place_at.Goals as goal

pub bounds-params-i : goal.bounds-params-i
bounds-params-i c = c.requires.place

pub can_place-requires-clause-exists : goal.can_place-requires-clause-exists
can_place-requires-clause-exists c =
    c.requires.exist c.args.i _ (slice_get-get_or c.args.params.now c.args.i 0 c.requires.place)

pub can_place-requires-clause-small : goal.can_place-requires-clause-small
can_place-requires-clause-small c = c.requires.small

pub offset_bounds-params-i : goal.offset_bounds-params-i
offset_bounds-params-i c = omega (arith, c.requires.place)

pub returns : goal.returns
returns c = λ param at.
    subst (λ (p : ℕ). Decides c.can_place.result (CanPlace c.args.line.now c.args.least p))
    (get_or_from_slice_get c.args.params.now c.args.i param 0 at) c.can_place.ensures
