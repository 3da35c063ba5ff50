-- Tracks of a record: a stretch more of one, and one track more.
use Rattle.std.proofs.Common.{◌≡◌, ◌+◌, ◌-◌, ◌<◌, ◌≤◌, ℕ, Bool, false, List, [], ◌∷◌, ◌++◌, Some, length}
use Rattle.std.proofs.Common.{length-append, map, replicate, sym, ◌∙◌, ap, subst, arith}
use Rattle.std.proofs.Common.{⊎_elim}
use Rattle.std.proofs.lemmas.List.{get_or_append_left, get_or-append_right}
use Rattle.std.proofs.lemmas.List.{get_or-replicate, length-map}
use Rattle.std.proofs.lemmas.Option.{slice_get_within}
use Rattle.std.specs.Prelude.{slice_get}
use Rattle.model_history.specs.Rails.{Rails, both, must_of, rails_at}
use Rattle.run_signal.specs.{declared.level.Level.Level, Levels.level_rails, Lanes.in_lane}
use Rattle.run_signal.specs.SentKeys.{SentKeys}
use Rattle.model_history.specs.ListLaws.{at_push, exists_at}
use Rattle.run_changes.specs.changes.PlayedTracks.{is_shown}
use Rattle.run_changes.specs.{changes.PlayedTracks.is_on, changes.PlayedTracks.shown_is}
use Rattle.run_step.specs.Ticks.{AreSent}
use Rattle.run_step.specs.Ticks.{HasKeys}

-- ---- values of one track

abbrev rails_of : Level → Rails
rails_of x = level_rails x

abbrev on : List Level → ℕ → Bool
on levels t = (rails_at (in_lane (λ x _. level_rails x) 0 levels) t).must

module _ (levels new : List Level) (x : Level) (n : ℕ)
    (is : in_lane (λ y _. level_rails y) 0 new
    ≡ in_lane (λ y _. level_rails y) 0 levels ++ replicate n (level_rails x)) where
  on_is : (t : ℕ) → on new t
      ≡ (rails_at (in_lane (λ y _. level_rails y) 0 levels ++ replicate n (level_rails x)) t).must
  on_is t = ap (λ (l : List Rails). (rails_at l t).must) is

  pub on_before : (t : ℕ) → t < length levels → on new t ≡ on levels t
  on_before t lt =
      let count = length-map levels rails_of in
      on_is t
      ∙ ap must_of (get_or_append_left (map rails_of levels) (replicate n (level_rails x))
      (both false) t (omega (arith, count, lt)))

  pub on_after : (t : ℕ) → length levels ≤ t → t < length levels + n
      → on new t ≡ (level_rails x).must
  on_after t low high =
      let less : t - length levels < n = omega (arith, low, high) in
      on_is t
      ∙ ap must_of
      (get_or-append_right (map rails_of levels) (replicate n (level_rails x)) (length levels) t
      (both false) (length-map levels rails_of) low
      ∙ get_or-replicate n (t - length levels) (level_rails x) (both false) less)

-- ---- one track more

module _ (horizon n : ℕ) (tracks new : List (SentKeys Level)) (x : SentKeys Level)
    (is : new ≡ tracks ++ x ∷ []) (sent : AreSent n horizon horizon tracks) where
  pub sent_more : HasKeys horizon horizon 0 x → AreSent (n + 1) horizon horizon new
  sent_more here =
      subst (AreSent (n + 1) horizon horizon) (sym is)
      (record {
        count = length-append tracks (x ∷ []) ∙ ap (λ (k : ℕ). k + 1) sent.count;
        each = λ k s at.
            ⊎_elim (λ before. sent.each k s before)
            (λ last. subst (HasKeys horizon horizon k) (sym last.1) here) (at_push tracks x s k at);
      })

  -- what is shown at a place
  pub shown_more : (value : ℕ → ℕ → Bool)
      → ((k t : ℕ) → k < n → t < horizon → is_shown tracks k t ≡ value k t)
      → ((t : ℕ) → t < horizon → is_on x t ≡ value n t)
      → (k t : ℕ) → k < n + 1 → t < horizon → is_shown new k t ≡ value k t
  shown_more value before here k t kn lt =
      subst (λ (l : List (SentKeys Level)). is_shown l k t ≡ value k t) (sym is)
      (let count : length tracks ≡ n = sent.count in
      let (s, at) = exists_at (tracks ++ x ∷ []) k (omega (arith, length-append tracks (x ∷ []))) in
      ap (λ (f : ℕ → Bool). f t) (shown_is (tracks ++ x ∷ []) k s at)
      ∙ ⊎_elim
      (λ early.
      let less : k < n = within k s early in
      sym (ap (λ (f : ℕ → Bool). f t) (shown_is tracks k s early)) ∙ before k t less lt)
      (λ last.
      let e : n ≡ k = sym (last.0 ∙ count) in
      ap (λ (y : SentKeys Level). is_on y t) last.1 ∙ here t lt ∙ ap (λ (m : ℕ). value m t) e)
      (at_push tracks x s k at))
    where
      within : (k : ℕ) (s : SentKeys Level) → slice_get tracks k ≡ Some s → k < n
      within k s at = subst (λ (m : ℕ). k < m) sent.count (slice_get_within tracks k s at)
