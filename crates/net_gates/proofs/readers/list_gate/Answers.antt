use Rattle.std.proofs.Common.{refl, subst, sym}
use Rattle.net_gates.specs.Readers.{Hears}
use Rattle.net_gates.proofs.readers.list_gate.Goals as goal

pub list_raw-requires-clause-channel : goal.list_raw-requires-clause-channel
list_raw-requires-clause-channel c =
    c.requires.channel c.in-Raw.channel
    (subst (λ h. Hears c.in-Raw.channel h) (sym c.in-Raw.is) refl)
