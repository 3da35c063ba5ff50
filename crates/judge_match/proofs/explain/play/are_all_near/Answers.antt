use Rattle.std.proofs.Common.{◌≡◌, ◌<◌, ◌≤◌, ◌∙◌, ap, arith, subst, sym, length, ℕ, false, true, ⊎_elim}
use Rattle.std.proofs.lemmas.Bool.{cases_lt}
use Rattle.model_history.specs.ListLaws.{at_index}
use Rattle.run_changes.specs.changes.PlayedTracks.{is_shown}
use Rattle.judge_match.specs.explain.Changes.{HaveSameChanges}
use Rattle.judge_match.specs.declared.explain.recorded.Recorded.{Recorded}
use Rattle.judge_match.proofs.explain_lemmas.PlayLaws.{one_near}
use Rattle.judge_match.proofs.explain.play.are_all_near.Goals as goal

pub loop-k-preserved : goal.loop-k-preserved
loop-k-preserved c = λ u are j below.
    let q = c.args.q.now in
    let all = c.args.all.now in
    let tracks = c.args.tracks.now in
    let inside : c.loop-k.k < length tracks = c.loop-k-test.true in
    let there : c.loop-k.k < length all =
    omega (arith, inside, c.requires.all, c.requires.tracks.count) in
    let told =
    one_near q.compiled.line.now q.within u all tracks c.loop-k.k c.index-all-k.result
    c.index-tracks-k.result
    c.deref.result.now c.deref-in-loop-k.result.now are c.requires.tracks
    (at_index all c.loop-k.k c.index-all-k.result there c.index-all-k.is)
    (at_index tracks c.loop-k.k c.index-tracks-k.result inside c.index-tracks-k.is)
    (c.deref.ensures.value ∙ ap (λ (r : Recorded). r.changes.items) (sym c.index-all-k.is))
    (c.deref-in-loop-k.ensures.value ∙ c.in_ok-played.ensures) in
    ⊎_elim
    (λ (early : j < c.loop-k.k). c.loop-k.invariant u are j early)
    (λ (late : c.loop-k.k ≤ j).
    let e : c.loop-k.k ≡ j = omega arith in
    subst (λ (i : ℕ). HaveSameChanges q.within q.compiled.line.now.horizon (u i)
    (is_shown tracks i)) e
    (told.0 (c.are_near.ensures.0 c.if-not-are_near.false)))
    (cases_lt j c.loop-k.k)

pub returns-then-not-are_near : goal.returns-then-not-are_near
returns-then-not-are_near c = λ u are.
    let q = c.args.q.now in
    let all = c.args.all.now in
    let tracks = c.args.tracks.now in
    let inside : c.loop-k.k < length tracks = c.loop-k-test.true in
    let there : c.loop-k.k < length all =
    omega (arith, inside, c.requires.all, c.requires.tracks.count) in
    let told =
    one_near q.compiled.line.now q.within u all tracks c.loop-k.k c.index-all-k.result
    c.index-tracks-k.result
    c.deref.result.now c.deref-in-loop-k.result.now are c.requires.tracks
    (at_index all c.loop-k.k c.index-all-k.result there c.index-all-k.is)
    (at_index tracks c.loop-k.k c.index-tracks-k.result inside c.index-tracks-k.is)
    (c.deref.ensures.value ∙ ap (λ (r : Recorded). r.changes.items) (sym c.index-all-k.is))
    (c.deref-in-loop-k.ensures.value ∙ c.in_ok-played.ensures) in (
      λ no. absurd (let off : false ≡ true = no in cc),
      λ near. sym c.if-not-are_near.true
          ∙ c.are_near.ensures.1 (told.1
          (near c.loop-k.k (omega (arith, inside, c.requires.tracks.count)))),
    )
