-- The level at which changes leave a signal, and at each tick, change by change.
use Rattle.std.proofs.Common.{◌≡◌, ℕ, ◌+◌, ◌<◌, ◌≤◌, Bool, true, false, List, [], ◌∷◌, ◌++◌, cond}
use Rattle.std.proofs.Common.{length, get_or, take, refl, sym, ◌∙◌, ap, arith}
use Rattle.std.proofs.lemmas.List.{ext_get_or, take_more}
use Rattle.std.proofs.lemmas.List.FromFn.{get_or-map-range_with_len, length-map-range_with_len}
use Rattle.run_signal.specs.declared.tern.Tern.{Tern}
use Rattle.run_signal.specs.declared.tern.Tern.TheVariants.{Zero}
use Rattle.std.specs.Prelude.{◌&&◌, nat_le}
use Rattle.std.proofs.lemmas.Bool.{le-leb, lt-leb}
use Rattle.judge_match.specs.declared.matching.change.Change.{Change}
use Rattle.judge_match.specs.{matching.Heads.is_of, matching.Heads.level_after, matching.Heads.level_by, matching.SetLevels.decides}
use Rattle.judge_match.specs.matching.Waves.{tern_by, wave_of}

-- one change more: its level where it is the signal's
level_after-push : (k : ℕ) (trip : Bool) (cs : List Change) (c : Change) (b : Bool)
    → level_after k trip (cs ++ c ∷ []) b
    ≡ cond (is_of k trip c) c.level (level_after k trip cs b)
level_after-push k trip [] c b = refl
level_after-push k trip (x ∷ cs) c b =
    level_after-push k trip cs c (cond (is_of k trip x) x.level b)

module _ (k : ℕ) (trip : Bool) (cs : List Change) (n : ℕ) (d : Change) (inside : n < length cs)
  where
    front : level_after k trip (take (n + 1) cs) false
        ≡ cond (is_of k trip (get_or cs n d)) (get_or cs n d).level
        (level_after k trip (take n cs) false)
    front =
        ap (λ (xs : List Change). level_after k trip xs false) (take_more cs n d inside)
        ∙ level_after-push k trip (take n cs) (get_or cs n d) false

    -- after the signal's own change
    pub level_after-own : is_of k trip (get_or cs n d) ≡ true
        → level_after k trip (take (n + 1) cs) false ≡ (get_or cs n d).level
    level_after-own own =
        front
        ∙ ap (λ (b : Bool). cond b (get_or cs n d).level (level_after k trip (take n cs) false)) own

    -- after another's
    pub level_after-other : is_of k trip (get_or cs n d) ≡ false
        → level_after k trip (take (n + 1) cs) false ≡ level_after k trip (take n cs) false
    level_after-other other =
        front
        ∙ ap (λ (b : Bool). cond b (get_or cs n d).level (level_after k trip (take n cs) false))
        other

-- ---- at a tick

-- one change more: its level where it is the signal's and not after the tick
level_by-push : (k : ℕ) (trip : Bool) (t : ℕ) (cs : List Change) (c : Change) (b : Bool)
    → level_by k trip t (cs ++ c ∷ []) b
    ≡ cond (decides k trip c t) c.level (level_by k trip t cs b)
level_by-push k trip t [] c b = refl
level_by-push k trip t (x ∷ cs) c b =
    level_by-push k trip t cs c (cond (decides k trip x t) x.level b)

module _ (k : ℕ) (trip : Bool) (t : ℕ) (cs : List Change) (n : ℕ) (d : Change)
    (inside : n < length cs) where
  front_by : level_by k trip t (take (n + 1) cs) false
      ≡ cond (decides k trip (get_or cs n d) t) (get_or cs n d).level
      (level_by k trip t (take n cs) false)
  front_by =
      ap (λ (xs : List Change). level_by k trip t xs false) (take_more cs n d inside)
      ∙ level_by-push k trip t (take n cs) (get_or cs n d) false

  pub level_by-decided : decides k trip (get_or cs n d) t ≡ true
      → level_by k trip t (take (n + 1) cs) false ≡ (get_or cs n d).level
  level_by-decided own =
      front_by
      ∙ ap (λ (b : Bool). cond b (get_or cs n d).level (level_by k trip t (take n cs) false)) own

  pub level_by-undecided : decides k trip (get_or cs n d) t ≡ false
      → level_by k trip t (take (n + 1) cs) false ≡ level_by k trip t (take n cs) false
  level_by-undecided other =
      front_by
      ∙ ap (λ (b : Bool). cond b (get_or cs n d).level (level_by k trip t (take n cs) false)) other

-- a change of the signal decides from its tick on, another's never
pub decides_from : (k : ℕ) (trip : Bool) (c : Change) (t : ℕ) → is_of k trip c ≡ true → c.tick ≤ t
    → decides k trip c t ≡ true
decides_from k trip c t own le =
    ap (λ (b : Bool). b && nat_le c.tick t) own ∙ le-leb c.tick t le

pub decides_not_before : (k : ℕ) (trip : Bool) (c : Change) (t : ℕ) → is_of k trip c ≡ true
    → t < c.tick → decides k trip c t ≡ false
decides_not_before k trip c t own lt =
    ap (λ (b : Bool). b && nat_le c.tick t) own ∙ lt-leb c.tick t lt

pub decides_never : (k : ℕ) (trip : Bool) (c : Change) (t : ℕ) → is_of k trip c ≡ false
    → decides k trip c t ≡ false
decides_never k trip c t other = ap (λ (b : Bool). b && nat_le c.tick t) other

-- levels that are the signal's at each tick are its wave
pub all_set : (horizon : ℕ) (changes : List Change) (trip : Bool) (k : ℕ) (levels : List Tern)
    → length levels ≡ horizon
    → ((t : ℕ) → t < horizon → get_or levels t Zero ≡ tern_by changes trip k t)
    → levels ≡ wave_of horizon changes trip k
all_set horizon changes trip k levels long each =
    let count = length-map-range_with_len (tern_by changes trip k) 0 horizon in
    ext_get_or Zero levels (wave_of horizon changes trip k) (long ∙ sym count)
    (λ t lt.
    let inside : t < horizon = omega arith in
    each t inside
    ∙ sym (get_or-map-range_with_len (tern_by changes trip k) 0 horizon t t Zero inside
    (omega arith)))
