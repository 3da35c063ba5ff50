use Rattle.std.proofs.Common.{ℕ, sym, subst}
use Rattle.net_gates.specs.Readers.{AreBelow}
use Rattle.run_changes.proofs.changes.readers.wake_readers.Goals as goal

pub wake-requires-clause-inside : goal.wake-requires-clause-inside
wake-requires-clause-inside c =
    subst (λ (n : ℕ). AreBelow n c.readers.result.now) (sym c.requires.dues) c.readers.ensures.inside

pub returns-clause-awake : goal.returns-clause-awake
returns-clause-awake c = λ i due gate at has da.
    let (k, ka) = c.readers.ensures.all i gate at has in c.wake.ensures.awake k i due ka da
