use Rattle.std.proofs.Common.{◌<◌, ◌+◌, ℕ, get_or, sym, ◌∙◌, subst, arith}
use Rattle.std.proofs.lemmas.Option.{get_or_from_slice_get, slice_get-get_or}
use Rattle.std.proofs.lemmas.Result.{IfOk-weaker}
use Rattle.model_line.specs.WithBounds.{IsWithBounds}
use Rattle.judge_margins.specs.map.Placed.{width_of}
use Rattle.judge_margins.proofs.map.intervals.placed_more.Goals as goal

pub bounds-params-i : goal.bounds-params-i
bounds-params-i c = c.requires.place

pub offset_bounds-params-i : goal.offset_bounds-params-i
offset_bounds-params-i c = omega (arith, c.requires.place)

pub width-requires : goal.width-requires
width-requires c =
    c.requires.exist c.args.i _ (slice_get-get_or c.args.params.now c.args.i 0 c.requires.place)

pub overflow_add-greatest : goal.overflow_add-greatest
overflow_add-greatest c =
    let can = c.requires.can.each c.args.i _
    (slice_get-get_or c.args.params.now c.args.i 0 c.requires.place) in
    record { fits = omega (arith, can.within, c.width.ensures.width) }

pub with_bounds-requires-clause-exists : goal.with_bounds-requires-clause-exists
with_bounds-requires-clause-exists c =
    let counts = c.laws_below.ensures.counts in
    let param = get_or c.args.params.now c.args.i 0 in
    subst (λ (n : ℕ). param < n) (sym (counts.params c.args.line.now c.args.other.now c.requires.rest))
    (c.requires.exist c.args.i _
    (slice_get-get_or c.args.params.now c.args.i 0 c.requires.place))

pub with_bounds-requires-clause-ordered : goal.with_bounds-requires-clause-ordered
with_bounds-requires-clause-ordered c = omega arith

pub with_bounds-requires-clause-within : goal.with_bounds-requires-clause-within
with_bounds-requires-clause-within c =
    let can = c.requires.can.each c.args.i _
    (slice_get-get_or c.args.params.now c.args.i 0 c.requires.place) in
    omega (arith, can.within, c.width.ensures.width)

pub with_bounds-requires-clause-delay : goal.with_bounds-requires-clause-delay
with_bounds-requires-clause-delay c = λ on.
    let counts = c.laws_below.ensures.counts in
    let can = c.requires.can.each c.args.i _
    (slice_get-get_or c.args.params.now c.args.i 0 c.requires.place) in
    can.delay (sym (counts.told c.args.line.now c.args.other.now _ c.requires.rest) ∙ on)

pub returns : goal.returns
returns c =
    let line = c.args.line.now in
    let other = c.args.other.now in
    let least : ℕ = c.args.least in
    let first = get_or c.args.params.now c.args.i 0 in
    IfOk-weaker c.with_bounds.result _ _
    (λ more is param at.
    subst (λ (p : ℕ). IsWithBounds other p least (least + width_of line p) more)
    (get_or_from_slice_get c.args.params.now c.args.i param 0 at)
    (subst (λ (w : ℕ). IsWithBounds other first least (least + w) more) c.width.ensures.width is))
    c.with_bounds.ensures
