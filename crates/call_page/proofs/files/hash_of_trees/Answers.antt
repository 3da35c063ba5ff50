use Rattle.std.proofs.Common.{◌∙◌, ℕ, List, subst}
use Rattle.std.specs.Prelude.{IfOk}
use Rattle.call_facts.specs.Hashes.{IsHashOf}
use Rattle.call_page.proofs.files.hash_of_trees.Goals as goal

pub returns : goal.returns
returns c =
    subst (λ (text : List ℕ). IfOk c.hash_of.result (λ hash. IsHashOf text hash.items))
    (c.as_slice.ensures.value ∙ c.in_ok-trees.ensures.text) c.hash_of.ensures
