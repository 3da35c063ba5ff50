-- How truth values that imply one another pass through the operations of one tick.
use Rattle.std.proofs.Common.{Bool, true, false, not, refl}
use Rattle.std.specs.Prelude.{IsTrue}

pub not_back : (a b : Bool) → (IsTrue a → IsTrue b) → IsTrue (not b) → IsTrue (not a)
not_back false b f h = refl
not_back true true f h = h
not_back true false f h = f refl
