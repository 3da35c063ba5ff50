use Rattle.std.proofs.Common.{◌∙◌, sym, ap, List, ℕ, ◌++◌, ◌∷◌, []}
use Rattle.judge_match.specs.explain.Asked.{level_in}
use Rattle.judge_match.proofs.explain_lemmas.ChangeLaws.{changes_at, changes_not}
use Rattle.judge_match.proofs.explain.changes.changes.Goals as goal
use Rattle.judge_match.proofs.explain.changes.changes.Goals.{then-turns_at+in_ok-push, else-turns_at}

pub loop-t-preserved : goal.loop-t-preserved
loop-t-preserved c =
    let t : ℕ = c.loop-t.t in
    elim c.if-turns_at.branch [
      | then-turns_at+in_ok-push w ↦
          ap (λ v. v.items) w.ticks-is ∙ w.in_ok-push.ensures.items
          ∙ ap (λ (l : List ℕ). l ++ t ∷ []) c.loop-t.invariant
          ∙ sym (changes_at (level_in c.args.levels.now) t
          (sym c.turns_at.ensures ∙ w.if-turns_at.true))
      | else-turns_at w ↦
          ap (λ v. v.items) w.ticks-is ∙ c.loop-t.invariant
          ∙ sym (changes_not (level_in c.args.levels.now) t
          (sym c.turns_at.ensures ∙ w.if-turns_at.false))
    ]
