-- Due ticks of which some are set to 0.
use Rattle.std.proofs.Common.{◌≡◌, ◌<◌, ℕ, List, Some, refl, sym, ⊎_elim, inl, length, subst, ap}
use Rattle.std.proofs.Common.{arith, ◌∙◌, length-set}
use Rattle.std.proofs.lemmas.Option.{slice_get-get_or}
use Rattle.std.specs.Prelude.{slice_get, slice_set, get_or}
use Rattle.net_gates.specs.Readers.{AreBelow}
use Rattle.run_changes.specs.changes.Readers.{AreLowered, AreAwake}
use Rattle.model_history.specs.ListLaws.{at_set}

-- one more
pub lowered_one : (first dues new : List ℕ) (i : ℕ) → new ≡ slice_set dues i 0
    → AreLowered first dues → AreLowered first new
lowered_one first dues new i is lowered k due at =
    ⊎_elim (λ p. inl (sym p.1)) (λ p. lowered k due p.1)
    (at_set dues i 0 k due (subst (λ l. slice_get l k ≡ Some due) is at))

pub count_one : (dues new : List ℕ) (i : ℕ) → new ≡ slice_set dues i 0 → length new ≡ length dues
count_one dues new i is = ap length is ∙ length-set dues i 0

-- what is 0 stays 0
pub zero_kept : (dues new : List ℕ) (i k : ℕ) → new ≡ slice_set dues i 0
    → ((due : ℕ) → slice_get dues k ≡ Some due → due ≡ 0)
    → (due : ℕ) → slice_get new k ≡ Some due → due ≡ 0
zero_kept dues new i k is was due at =
    ⊎_elim (λ p. sym p.1) (λ p. was due p.1)
    (at_set dues i 0 k due (subst (λ l. slice_get l k ≡ Some due) is at))

pub zero_now : (dues new : List ℕ) (i : ℕ) → new ≡ slice_set dues i 0
    → (due : ℕ) → slice_get new i ≡ Some due → due ≡ 0
zero_now dues new i is due at =
    ⊎_elim (λ p. sym p.1) (λ p. absurd (p.0 refl))
    (at_set dues i 0 i due (subst (λ l. slice_get l i ≡ Some due) is at))

pub below_read : (n m : ℕ) (gates : List ℕ) (k d : ℕ) → k < length gates → AreBelow n gates
    → m ≡ n → get_or gates k d < m
below_read n m gates k d lt below same =
    let here : get_or gates k d < n = below k (get_or gates k d) (slice_get-get_or gates k d lt) in
    omega (arith, here, same)

pub lowered_on : (first middle last : List ℕ) → AreLowered first middle → AreLowered middle last
    → AreLowered first last
lowered_on first middle last one two k due at =
    ⊎_elim inl (λ same. one k due same) (two k due at)

pub awake_kept : (list old new : List ℕ) → AreAwake list old → AreLowered old new
    → AreAwake list new
awake_kept list old new awake lowered k i due at da =
    ⊎_elim (λ none. none) (λ same. awake k i due at same) (lowered i due da)
