-- What a truth value tells of its denial.
use Rattle.std.proofs.Common.{Bool, true, false, not, refl}
use Rattle.std.specs.Prelude.{IsTrue, IsFalse}

pub on_unless : (b : Bool) → (IsFalse b → ⊥) → IsTrue b
on_unless true never = refl
on_unless false never = absurd (never refl)

pub off_by_denial : (b : Bool) → IsTrue (not b) → IsFalse b
off_by_denial true on = absurd (cc)
off_by_denial false on = refl
