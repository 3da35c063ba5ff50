-- What a sink took, push after push.
use Rattle.std.proofs.Common.{◌≡◌, ℕ, ◌+◌, ◌≤◌, List, [], ◌++◌, take, Option, None, Some, ◌∙◌, ap}
use Rattle.std.proofs.Common.{sym, arith}
use Rattle.std.proofs.lemmas.List.{append-nil}
use Rattle.std.specs.Io.KnownBytes.{Appends, Keeps}

-- before the first push
pub nothing_put : (a : Option (List ℕ)) → Appends a a []
nothing_put None = tt
nothing_put (Some a) = sym (append-nil a)

-- a push that failed took nothing
pub put_kept : (a b c : Option (List ℕ)) (x : List ℕ) → Appends a b x → Keeps b c → Appends a c x
put_kept None b c x p q = tt
put_kept (Some a) None c x p q = absurd p
put_kept (Some a) (Some b) None x p q = q
put_kept (Some a) (Some b) (Some c) x p q = q ∙ p

-- nor did one that took 0 bytes
pub put_none : (a b c : Option (List ℕ)) (x y : List ℕ) (n : ℕ) → Appends a b x
    → Appends b c (take n y) → n ≡ 0 → Appends a c x
put_none None b c x y n p q none = tt
put_none (Some a) None c x y n p q none = absurd p
put_none (Some a) (Some b) None x y n p q none = q
put_none (Some a) (Some b) (Some c) x y n p q none =
    q ∙ ap (λ k. b ++ take k y) none ∙ append-nil b ∙ p

-- the pushes of a front are within those of all bytes
pub pushes_within : (old now at size : ℕ) → now ≤ old + at → at ≤ size → now ≤ old + size
pushes_within old now at size before within = omega arith
