use Rattle.std.proofs.Common.{ℕ, ◌≤◌, ap, subst, sym, arith}
use Rattle.std.proofs.lemmas.List.{get_or-replicate}
use Rattle.model_history.specs.Rails.{Ends, single}
use Rattle.run_signal.specs.Spans.{AreInOrder}
use Rattle.run_signal.proofs.lanes.Lanes64Signal.sure.Goals as goal

pub invariant_of-result : goal.invariant_of-result
invariant_of-result c = λ lane inside. subst (λ (n : ℕ). n ≤ 4000)
    (sym (get_or-replicate 64 lane c.args.value 0 inside)) c.requires

pub returns-clause-exact : goal.returns-clause-exact
returns-clause-exact c = λ lane inside. ap single (get_or-replicate 64 lane c.args.value 0 inside)

pub returns-clause-in_order : goal.returns-clause-in_order
returns-clause-in_order c = λ lane inside. let P : Ends → Type 0 = λ e. AreInOrder e in
    subst P (sym (ap single (get_or-replicate 64 lane c.args.value 0 inside)))
    (record { ordered = omega arith; limited = c.requires })
