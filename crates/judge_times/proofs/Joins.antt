-- Stretches that are joined, and lists of stretches that follow one another.
use Rattle.std.proofs.Common.{◌≡◌, ◌++◌, ◌≤◌, ◌*◌, ℕ, List, [], ◌∷◌, refl, sym, subst, ⊎_elim, arith}
use Rattle.std.proofs.lemmas.Bool.{cases_lt}
use Rattle.std.proofs.lemmas.List.Elements.{All-append, All-cons, All-nil}
use Rattle.std.specs.List.{All}
use Rattle.model_history.specs.Rails.{Ends}
use Rattle.judge_times.specs.declared.fault.Uncertain.{Uncertain}
use Rattle.judge_times.specs.declared.stretch.{Along.Along, Stretch.Stretch}
use Rattle.judge_times.specs.declared.stretch.Along.TheVariants.{Held, Fails, Open}
use Rattle.judge_times.specs.Stretches.{FailsAlong, FollowFrom, IsHeldAlong, IsStretch, SaysAlong}

-- one stretch more
pub follow_more : (from : ℕ) (found new : List Stretch) (one : Stretch) (to : ℕ) → new ≡ found ++ one ∷ []
    → FollowFrom from found one.from → one.to ≡ to → FollowFrom from new to
follow_more from [] new one to is follow at =
    subst (λ (l : List Stretch). FollowFrom from l to) (sym is) (sym follow, at)
follow_more from (first ∷ found) new one to is follow at =
    subst (λ (l : List Stretch). FollowFrom from l to) (sym is)
    (follow.0, follow_more first.to found (found ++ one ∷ []) one to refl follow.1 at)

pub each_more : (of : Uncertain) (whole : List Ends) (k : ℕ) (found new : List Stretch) (one : Stretch)
    → new ≡ found ++ one ∷ [] → All (IsStretch of whole k) found → IsStretch of whole k one
    → All (IsStretch of whole k) new
each_more of whole k found new one is all own =
    subst (All (IsStretch of whole k)) (sym is)
    (All-append (IsStretch of whole k) found (one ∷ []) all
    (All-cons (IsStretch of whole k) one [] own (All-nil (IsStretch of whole k))))

-- ---- two that tell the same

module _ (of : Uncertain) (whole : List Ends) (k a b e : ℕ) where
  held_on : IsHeldAlong of whole k a b → IsHeldAlong of whole k b e → IsHeldAlong of whole k a e
  held_on one two n x choice h some are low high inside is_h =
      ⊎_elim (λ early. one n x choice h some are low (omega (arith, early)) inside is_h)
      (λ late. two n x choice h some are late high inside is_h) (cases_lt (x 0) (b * n))

  fails_on : FailsAlong of whole k a b → FailsAlong of whole k b e → FailsAlong of whole k a e
  fails_on one two t low high =
      ⊎_elim (λ early. one t low (omega (arith, early))) (λ late. two t late high) (cases_lt t b)

  says_on : (told : Along) (place other : List ℕ) → a ≤ b → b ≤ e → SaysAlong of whole k a b place told
      → SaysAlong of whole k b e other told → SaysAlong of whole k a e place told
  says_on Held place other ab be one two = held_on one two
  says_on Fails place other ab be one two = (
    fails_on one.0 two.0,
    record {
      low = one.1.low;
      high = omega (arith, one.1.high, be);
      fails = one.1.fails;
    },
  )
  says_on Open place other ab be one two = tt

pub joined_says : (of : Uncertain) (whole : List Ends) (k : ℕ) (last next : Stretch)
    → last.to ≡ next.from → last.told ≡ next.told → IsStretch of whole k last
    → IsStretch of whole k next
    → IsStretch of whole k
    (record { from = last.from; to = next.to; told = last.told; place = last.place })
joined_says of whole k last next meet same one two =
    let other : SaysAlong of whole k last.to next.to next.place.items last.told =
    subst (λ (told : Along). SaysAlong of whole k last.to next.to next.place.items told) (sym same)
    (subst (λ (t : ℕ). SaysAlong of whole k t next.to next.place.items next.told) (sym meet) two.says) in
    let first = one.ordered in
    let second = two.ordered in
    let on : last.to ≤ next.to = omega (arith, meet, second) in
    record {
      ordered = omega (arith, first, on);
      says = says_on of whole k last.from last.to next.to last.told last.place.items next.place.items first
          on one.says other;
    }
