use Rattle.std.proofs.Common.{◌≡◌, ◌++◌, ℕ, List}
use Rattle.std.proofs.lemmas.Fmt.{decimal_injective}
use Rattle.std.specs.Prelude.{codes, decimal}
use Rattle.draw_page.proofs.anchor.faults_have_ids_of_their_own.Goals as goal

behind : (a b : List ℕ) → codes "fault-" ++ a ≡ codes "fault-" ++ b → a ≡ b
behind a b same = cc

pub returns : goal.returns
returns c = λ m n m_small n_small same.
    decimal_injective m n m_small n_small (behind (decimal m) (decimal n) same)
