use Rattle.std.proofs.Common.{◌≡◌, ◌<◌, ◌+◌, ◌*◌, Bool, Some, None, length, sym, ◌∙◌, ap}
use Rattle.std.proofs.Common.{arith, subst}
use Rattle.std.proofs.lemmas.Nat.{mul-add-lt}
use Rattle.std.proofs.lemmas.Option.{slice_get_read}
use Rattle.std.specs.Prelude.{Option, slice_get}
use Rattle.run_ticks.specs.cases.Masks.{IsMask}
use Rattle.run_ticks.proofs.cases.mask.mask_at.Given.{Over}
use Rattle.run_ticks.proofs.cases.mask.mask_at.Goals as goal
use Rattle.run_ticks.proofs.cases.mask.mask_at.Goals.{In-Some}

row_is : (g : Over) (c : In-Some g)
    → slice_get c.args.masks.now.rows.items c.args.gate ≡ Some (Some c.in-Some.row)
row_is g c =
    slice_get_read c.args.masks.now.rows.items c.args.gates c.args.gate c.index.result.now
    (sym c.requires.rows.rows) c.requires.gate c.index.ensures ∙ ap Some c.in-Some.is

place_there : (g : Over) (c : In-Some g)
    → c.args.t * c.args.masks.now.count + c.in-Some.row < length c.args.masks.now.masks.items
place_there g c =
    let below : c.in-Some.row < c.args.masks.now.count =
    c.requires.rows.within c.args.gate c.in-Some.row (row_is g c) in
    let lt = mul-add-lt c.args.t c.args.masks.now.count c.in-Some.row c.args.horizon
    c.requires.tick below in
    let count : length c.args.masks.now.masks.items ≡ c.args.horizon * c.args.masks.now.count =
    c.requires.rows.count in
    omega (arith, lt, count)

pub read-requires : goal.read-requires
read-requires g c =
    subst (λ l. c.args.t * c.args.masks.now.count + c.in-Some.row < length l)
    (sym c.deref.ensures.value) (place_there g (goal.at.read-requires g c).In-Some)

pub returns-in-None : goal.returns-in-None
returns-in-None g c = λ level trees lane inside put.
    let rows = c.args.masks.now.rows.items in
    let at : slice_get rows c.args.gate ≡ Some None =
    slice_get_read rows c.args.gates c.args.gate c.index.result.now
    (sym c.requires.rows.rows) c.requires.gate c.index.ensures ∙ ap Some c.in-None.is in
    subst (λ (o : Option Bool). IsMask g.V.Signal.signal.rails lane o
    (record { off = c.known.result; on = c.known-in-None.result }))
    (sym (put.none c.args.gate lane c.args.t inside c.requires.tick at))
    (c.known.ensures lane inside, c.known-in-None.ensures lane inside)

pub returns-in-Some : goal.returns-in-Some
returns-in-Some g c = λ level trees lane inside put.
    let masks = c.args.masks.now in
    put.some c.args.gate c.in-Some.row lane c.args.t c.read.result inside c.requires.tick
    (row_is g (goal.at.returns-in-Some g c).In-Some)
    (ap (λ l. slice_get l (c.args.t * masks.count + c.in-Some.row)) (sym c.deref.ensures.value)
    ∙ c.read.ensures)
