-- Lists that grow by what is appended, one time after another.
use Rattle.std.proofs.Common.{◌≡◌, ◌++◌, List, ap, ◌∙◌, append_assoc}

pub grown : {X : Type 0} (a b d m n : List X) → b ≡ a ++ m → d ≡ b ++ n → d ≡ a ++ (m ++ n)
grown a b d m n one two = two ∙ ap (λ l. l ++ n) one ∙ append_assoc a m n
