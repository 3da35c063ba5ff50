use Rattle.std.proofs.Common.{List, ◌∙◌, ap}
use Rattle.run_signal.specs.declared.tern.Tern.{Tern}
use Rattle.run_waves.specs.derived.Claims.{pairs_of}
use Rattle.judge_match.proofs.matching.recorded.seen_tracks.Goals as goal

pub returns-clause-same : goal.returns-clause-same
returns-clause-same c = record {
  keys = λ k t kn lt.
      c.in_ok-tracks_of.ensures.same k t kn lt
      ∙ ap (λ (ws : List (List Tern)). (pairs_of ws k t).must) c.deref.ensures.value;
  trips = λ k t kn lt.
      c.in_ok-tracks_of-2.ensures.same k t kn lt
      ∙ ap (λ (ws : List (List Tern)). (pairs_of ws k t).must) c.deref-2.ensures.value;
}
