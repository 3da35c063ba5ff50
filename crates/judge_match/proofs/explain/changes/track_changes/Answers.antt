use Rattle.std.proofs.Common.{◌≡◌, subst, sym, List, ℕ, length}
use Rattle.std.specs.Prelude.{IfOk}
use Rattle.run_changes.specs.changes.PlayedTracks.{is_on}
use Rattle.judge_match.specs.{explain.Asked.AreLevels}
use Rattle.judge_match.proofs.explain_lemmas.ListLaws.{levels_changes}
use Rattle.judge_match.proofs.explain.changes.track_changes.Goals as goal

pub returns : goal.returns
returns c =
    subst (λ (xs : List ℕ). IfOk c.changes.result (λ ticks. ticks.items ≡ xs))
    (levels_changes (is_on c.args.track.now) (length c.args.track.now.keys)
    c.deref.result.now
    (subst (AreLevels (length c.args.track.now.keys) (is_on c.args.track.now))
    (sym c.deref.ensures.value) c.in_ok-levels.ensures.levels))
    c.changes.ensures
