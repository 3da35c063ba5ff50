use Rattle.std.proofs.Common.{◌≡◌, ℕ, ◌+◌, [], ◌∷◌, length, length-append, ap, subst, sym, ◌∙◌, ⊎_elim}
use Rattle.std.specs.Prelude.{Some, slice_get}
use Rattle.model_history.specs.ListLaws.{at_push}
use Rattle.net_gates.proofs.readers.no_lists.Goals as goal

pub loop-preserved : goal.loop-preserved
loop-preserved c =
    let old = c.loop.lists.items in
    let fresh = c.no_gates.result in
    record {
      count = ap length c.in_ok-push.ensures.items ∙ length-append old (fresh ∷ [])
          ∙ ap (λ (n : ℕ). n + 1) c.loop.invariant.count;
      empty = λ a list at.
          ⊎_elim (c.loop.invariant.empty a list)
          (λ p. subst (λ l. l.items ≡ []) (sym p.1) c.no_gates.ensures)
          (at_push old fresh list a
          (subst (λ l. slice_get l a ≡ Some list) c.in_ok-push.ensures.items at));
    }
