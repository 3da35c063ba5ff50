use Rattle.std.proofs.Common.{◌≡◌, refl, subst}
use Rattle.run_step.specs.declared.cell.Cell.{Cell}
use Rattle.run_step.specs.declared.cell.Cell.TheVariants.{Nothing, Timer, Seal}
use Rattle.run_step.specs.CellStands.{HasSeal, SealStands}
use Rattle.run_step.proofs.cell.seal_answer.Goals as goal

-- a seal's cell is of no other kind
no_other : {T S P : Type 0} (cell : Cell T S P) → HasSeal cell → ((x : S) → cell ≡ Seal x → ⊥) → ⊥
no_other Nothing has none = has
no_other (Timer c x y) has none = has
no_other (Seal s) has none = none s refl

pub unreachable-requires : goal.unreachable-requires
unreachable-requires g c = no_other c.args.cell.now c.requires c.in_default.not-Seal

pub returns-clause-stands : goal.returns-clause-stands
returns-clause-stands g c = λ lane sets holds inside before.
    c.tick.ensures.stands lane sets holds inside
    (subst (λ (k : Cell _ _ _). SealStands g.V.Signal.signal.rails lane sets holds k) c.in-Seal.is
    before)

pub returns-clause-sealed : goal.returns-clause-sealed
returns-clause-sealed g c = λ lane sets holds inside before.
    c.tick.ensures.sealed lane sets holds inside
    (subst (λ (k : Cell _ _ _). SealStands g.V.Signal.signal.rails lane sets holds k) c.in-Seal.is
    before)
