-- A seal follows from its last answer.
use Rattle.std.proofs.Common.{◌≡◌, ℕ, zero, suc, ◌+◌, ◌<◌, ◌≤◌, Bool, true, false, ◌&&◌, ◌||◌, ◌⊎◌}
use Rattle.std.proofs.Common.{List, [], ◌∷◌, ◌++◌, length, replicate, refl, sym, ◌∙◌, ap, subst}
use Rattle.std.proofs.Common.{arith, inl, inr, ⊎_elim, length-append, append_assoc}
use Rattle.std.proofs.lemmas.Bool.{cases_lt}
use Rattle.std.proofs.lemmas.Bool.Decides.{Decides-like, Decides-and, Decides-or, same_from_decides}
use Rattle.std.proofs.lemmas.List.{replicate_more, get_or_append_left}
use Rattle.std.proofs.Math.Seq.{get_or-append_seam}
use Rattle.std.specs.Prelude.{IsTrue, Decides}
use Rattle.model_history.specs.Elements.{sealed, IsSealed}
use Rattle.model_history.specs.Rails.{Rails, both, rails_or, rails_and, rails_sealed, rails_at}
use Rattle.model_history.specs.Laws.{HistoryLaws}
use Rattle.model_history.specs.TruthLaws.{Decides-true}
use Rattle.run_signal.specs.Seals.{last_seal, SealStandsFor}

rails_at_push : (l : List Rails) (x : Rails) (r : ℕ) → r < length l →
    rails_at (l ++ x ∷ []) r ≡ rails_at l r
rails_at_push l x r lt = get_or_append_left l (x ∷ []) (both false) r lt

rails_at_last : (l : List Rails) (x : Rails) → rails_at (l ++ x ∷ []) (length l) ≡ x
rails_at_last l x = get_or-append_seam l x [] (both false)

-- ---- one rail: a seal is set now, or it was on and is kept

on_next : (set keep : ℕ → Bool) (t : ℕ) →
    IsTrue (set (suc t)) ⊎ (IsTrue (keep (suc t)) × IsSealed set keep t) →
    IsSealed set keep (suc t)
on_next set keep t h = ⊎_elim
    (λ now. record {
      s = suc t;
      past = omega arith;
      starts = now;
      stays = λ r low high. absurd (omega arith);
    })
    (λ both. let past : (both.1).s ≤ t = (both.1).past in record {
      s = (both.1).s;
      past = omega arith;
      starts = (both.1).starts;
      stays = λ r low high. ⊎_elim
          (λ lt. (both.1).stays r low (omega arith))
          (λ le. let e : r ≡ suc t = omega arith in ap keep e ∙ both.0)
          (cases_lt r (suc t));
    })
    h

next_on : (set keep : ℕ → Bool) (t : ℕ) → IsSealed set keep (suc t) →
    IsTrue (set (suc t)) ⊎ (IsTrue (keep (suc t)) × IsSealed set keep t)
next_on set keep t h = ⊎_elim
    (λ before. inr (
      h.stays (suc t) before (omega arith),
      record {
        s = h.s;
        past = omega arith;
        starts = h.starts;
        stays = λ r low high. h.stays r low (omega arith);
      },
    ))
    (λ not_before. let past : h.s ≤ suc t = h.past in let e : h.s ≡ suc t = omega arith in
    inl (ap set (sym e) ∙ h.starts))
    (cases_lt h.s (suc t))

sealed-next : HistoryLaws → (set keep : ℕ → Bool) (t : ℕ) →
    (set (suc t) || (keep (suc t) && sealed set keep t)) ≡ sealed set keep (suc t)
sealed-next laws set keep t =
    let now : Decides (set (suc t) || (keep (suc t) && sealed set keep t))
    (IsTrue (set (suc t)) ⊎ (IsTrue (keep (suc t)) × IsSealed set keep t)) =
    Decides-or _ _ (Decides-true (set (suc t)))
    (Decides-and _ _ (Decides-true (keep (suc t))) (laws.elements.sealed set keep t)) in
    same_from_decides _ (sealed set keep (suc t))
    (Decides-like _ (on_next set keep t) (next_on set keep t) now)
    (laws.elements.sealed set keep (suc t))

first_on : (set keep : ℕ → Bool) → IsTrue (set 0) → IsSealed set keep 0
first_on set keep now = record {
  s = 0;
  past = omega arith;
  starts = now;
  stays = λ r low high. absurd (omega arith);
}

on_first : (set keep : ℕ → Bool) → IsSealed set keep 0 → IsTrue (set 0)
on_first set keep h =
    let past : h.s ≤ 0 = h.past in
    let e : h.s ≡ 0 = omega arith in
    ap set (sym e) ∙ h.starts

sealed-first : HistoryLaws → (set keep : ℕ → Bool) → set 0 ≡ sealed set keep 0
sealed-first laws set keep = same_from_decides (set 0) (sealed set keep 0)
    (Decides-like _ (first_on set keep) (on_first set keep) (Decides-true (set 0)))
    (laws.elements.sealed set keep 0)

-- ---- both rails

abbrev rails_of : Bool → Bool → Rails
rails_of must may = record { must = must; may = may }

both_rails : {a b c d : Bool} → a ≡ c → b ≡ d → rails_of a b ≡ rails_of c d
both_rails {b = b} {c = c} e f = ap (λ (v : Bool). rails_of v b) e ∙ ap (rails_of c) f

or_nothing : (x y : Bool) → (x || (y && false)) ≡ x
or_nothing true y = refl
or_nothing false true = refl
or_nothing false false = refl

-- one more tick, where the histories so far are those before it
seal_step : HistoryLaws → (set keep set' keep' : ℕ → Rails) (n : ℕ) → ((r : ℕ) → r < n → set' r ≡ set r) →
    ((r : ℕ) → r < n → keep' r ≡ keep r) →
    rails_or (set' n) (rails_and (keep' n) (last_seal set keep n)) ≡ rails_sealed set' keep' n
seal_step laws set keep set' keep' zero same same' =
    both_rails
    (or_nothing (set' 0).must (keep' 0).must ∙ sealed-first laws (λ r. (set' r).must)
    (λ r. (keep' r).must))
    (or_nothing (set' 0).may (keep' 0).may ∙ sealed-first laws (λ r. (set' r).may) (λ r. (keep' r).may))
seal_step laws set keep set' keep' (suc n) same same' =
    ap (λ (last : Rails). rails_or (set' (suc n)) (rails_and (keep' (suc n)) last))
    (sym (laws.rails_past.sealed set' keep' set keep n (λ r le. same r (omega arith))
    (λ r le. same' r (omega arith))))
    ∙ both_rails
    (sealed-next laws (λ r. (set' r).must) (λ r. (keep' r).must) n)
    (sealed-next laws (λ r. (set' r).may) (λ r. (keep' r).may) n)

-- ---- the cell

-- an answer that stands for the histories with one more tick is the seal at that tick
pub seal_of_standing : (sets keeps : List Rails) (x y now : Rails) →
    SealStandsFor now (sets ++ x ∷ []) (keeps ++ y ∷ []) →
    now ≡ rails_sealed (rails_at (sets ++ x ∷ [])) (rails_at (keeps ++ y ∷ [])) (length sets)
seal_of_standing sets keeps x y now h =
    let longer : length (sets ++ x ∷ []) ≡ suc (length sets) =
    omega (arith, length-append sets (x ∷ [])) in
    h.last_is ∙ ap (last_seal (rails_at (sets ++ x ∷ [])) (rails_at (keeps ++ y ∷ []))) longer

seal_push : HistoryLaws → (sets keeps : List Rails) (x y last now : Rails) → SealStandsFor last sets keeps →
    now ≡ rails_or x (rails_and y last) → SealStandsFor now (sets ++ x ∷ []) (keeps ++ y ∷ [])
seal_push laws sets keeps x y last now h e =
    let together : length keeps ≡ length sets = h.together in
    let longer : length (sets ++ x ∷ []) ≡ suc (length sets) =
    omega (arith, length-append sets (x ∷ [])) in
    let set : ℕ → Rails = rails_at (sets ++ x ∷ []) in
    let keep : ℕ → Rails = rails_at (keeps ++ y ∷ []) in
    let now_set : x ≡ set (length sets) = sym (rails_at_last sets x) in
    let now_keep : y ≡ keep (length sets) = sym (rails_at_last keeps y) ∙ ap keep together in
    record {
      together = omega (arith, length-append sets (x ∷ []), length-append keeps (y ∷ []));
      last_is = e
          ∙ ap (λ (z : Rails). rails_or z (rails_and y last)) now_set
          ∙ ap (λ (z : Rails). rails_or (set (length sets)) (rails_and z last)) now_keep
          ∙ ap (λ (z : Rails). rails_or (set (length sets))
          (rails_and (keep (length sets)) z)) h.last_is
          ∙ seal_step laws (rails_at sets) (rails_at keeps) set keep (length sets)
          (λ r lt. rails_at_push sets x r lt) (λ r lt. rails_at_push keeps y r (omega arith))
          ∙ ap (last_seal set keep) (sym longer);
    }

again : (x y l : Bool) → (x || (y && l)) ≡ (x || (y && (x || (y && l))))
again true y l = refl
again false true l = refl
again false false l = refl

-- another tick with the same set and hold leaves a seal as it is
rails_again : (x y last now : Rails) → now ≡ rails_or x (rails_and y last) →
    now ≡ rails_or x (rails_and y now)
rails_again x y last now e =
    e ∙ both_rails (again x.must y.must last.must) (again x.may y.may last.may)
    ∙ ap (λ (z : Rails). rails_or x (rails_and y z)) (sym e)

append_one_more : (l : List Rails) (z : Rails) (n : ℕ) →
    (l ++ replicate n z) ++ z ∷ [] ≡ l ++ replicate (suc n) z
append_one_more l z n =
    let i : n + 1 ≡ suc n = omega arith in
    append_assoc l (replicate n z) (z ∷ []) ∙ ap (λ (k : List Rails). l ++ k)
    (replicate_more n z ∙ ap (λ (m : ℕ). replicate m z) i)

pub seal_skipped : HistoryLaws → (sets keeps : List Rails) (x y last now : Rails) (n : ℕ) →
    SealStandsFor last sets keeps → now ≡ rails_or x (rails_and y last) → 1 ≤ n →
    SealStandsFor now (sets ++ replicate n x) (keeps ++ replicate n y)
seal_skipped laws sets keeps x y last now zero h e some = absurd (omega arith)
seal_skipped laws sets keeps x y last now (suc zero) h e some = seal_push laws sets keeps x y last now h e
seal_skipped laws sets keeps x y last now (suc (suc n)) h e some =
    let before : SealStandsFor now (sets ++ replicate (suc n) x) (keeps ++ replicate (suc n) y) =
    seal_skipped laws sets keeps x y last now (suc n) h e (omega arith) in
    let P : List Rails → Type 0 = λ l. SealStandsFor now l (keeps ++ replicate (suc (suc n)) y) in
    let Q : List Rails → Type 0 =
    λ l. SealStandsFor now ((sets ++ replicate (suc n) x) ++ x ∷ []) l in
    subst P (append_one_more sets x (suc n)) (subst Q (append_one_more keeps y (suc n))
    (seal_push laws (sets ++ replicate (suc n) x) (keeps ++ replicate (suc n) y) x y now now before
    (rails_again x y last now e)))
