-- The last number of an interval that passes a test, and the worst delay as such a number.
use Rattle.std.proofs.Common.{◌≡◌, ◌&&◌, ◌-◌, ◌+◌, ◌⊎◌, ℕ, zero, suc, ◌<◌, ◌≤◌, Bool, true, false}
use Rattle.std.proofs.Common.{refl, sym, ap, ◌∙◌, arith, inl, inr, ⊎_elim}
use Rattle.std.proofs.lemmas.Bool.{cond-true, cond-false, and_from, and_parts, le-leb, leb-true}
use Rattle.std.proofs.lemmas.Bool.{false_from_ne_true, cases_lt}
use Rattle.std.specs.Prelude.{nat_le, IsTrue}
use Rattle.model_history.specs.{Elements.delayed, Rails.Rails, Rails.Ends}
use Rattle.model_settle.specs.Sides.{Rail, value_on}
use Rattle.model_settle.specs.Worst.{last_below, arrives, shows, worst_delay}
use Rattle.judge_settle.specs.corner.Delays.{is_shown_at, NoneIsShown, NothingIsAwaited}
use Rattle.judge_settle.specs.corner.Delays.{IsAlikeUntil}

module _ (test : ℕ → Bool) (least : ℕ) where
  abbrev passes : ℕ → Bool
  passes k = nat_le least k && test k

  -- none below the least passes
  none_below : (n : ℕ) → n ≤ least → last_below passes least n ≡ least
  none_below zero le = refl
  none_below (suc n) le =
      cond-false (passes n) n (last_below passes least n)
      (false_from_ne_true (passes n) (λ e.
      let p = leb-true least n (and_parts (nat_le least n) (test n) e).0 in
      absurd (omega arith)))
      ∙ none_below n (omega arith)

  -- the one at hand passes
  found : (n : ℕ) → least ≤ n → test n ≡ true → last_below passes least (suc n) ≡ n
  found n le on =
      cond-true (passes n) n (last_below passes least n)
      (and_from (nat_le least n) (test n) (le-leb least n le) on)

  -- it does not, and the next is looked at
  not_found : (n : ℕ) → test n ≡ false
      → last_below passes least (suc n) ≡ last_below passes least n
  not_found n off =
      cond-false (passes n) n (last_below passes least n)
      (false_from_ne_true (passes n) (λ e.
      let on : test n ≡ true = (and_parts (nat_le least n) (test n) e).1 in
      absurd (cc)))

  -- none of those down to this one passes
  down_to : (n d : ℕ) → d ≤ n → ((k : ℕ) → d < k → k ≤ n → test k ≡ false)
      → last_below passes least (suc n) ≡ last_below passes least (suc d)
  down_to zero d low off =
      let same : zero ≡ d = omega arith in
      ap (λ (k : ℕ). last_below passes least (suc k)) same
  down_to (suc n) d low off =
      ⊎_elim
      (λ less. not_found (suc n) (off (suc n) less (omega arith))
      ∙ down_to n d (omega (arith, less)) (λ k more few. off k more (omega (arith, few))))
      (λ more. let same : suc n ≡ d = omega (arith, low, more) in
      ap (λ (k : ℕ). last_below passes least (suc k)) same)
      (cases_lt d (suc n))

  -- the least is left
  least_left : last_below passes least (suc least) ≡ least
  least_left = by (passes least) refl where
    by : (b : Bool) → passes least ≡ b → last_below passes least (suc least) ≡ least
    by true e = cond-true (passes least) least (last_below passes least least) e
    by false e =
        cond-false (passes least) least (last_below passes least least) e
        ∙ none_below least (omega arith)

-- ---- what is shown at a tick

-- what arrives after k ticks is what the rail looks for
abbrev shown : Rail → (ℕ → Rails) → ℕ → ℕ → Bool
shown rail u t k = shows rail (arrives rail u t k)

module _ (rail : Rail) (u : ℕ → Rails) (t : ℕ) where
  -- nothing has arrived yet
  shown_late : (k : ℕ) → t < k → shown rail u t k ≡ shows rail false
  unfolding delayed
  shown_late k late =
      ap (shows rail) (false_from_ne_true (arrives rail u t k) (λ e.
      let early = leb-true k t (and_parts (nat_le k t) (value_on rail (u (t - k))) e).0 in
      absurd (omega arith)))

  -- what was sent k ticks before
  shown_early : (k : ℕ) → k ≤ t → shown rail u t k ≡ is_shown_at rail u (t - k)
  unfolding delayed
  shown_early k early =
      ap (λ (b : Bool). shows rail (b && value_on rail (u (t - k)))) (le-leb k t early)

-- ---- the worst delay

module _ (rail : Rail) (u : ℕ → Rails) (ends : Ends) (t : ℕ) where
  worst_is : (d : ℕ) → ends.least ≤ d → d ≤ ends.greatest
      → ((k : ℕ) → d < k → k ≤ ends.greatest → shown rail u t k ≡ false)
      → (d ≡ ends.least) ⊎ (shown rail u t d ≡ true) → d ≡ worst_delay rail u ends t
  unfolding worst_delay
  worst_is d low high longer here =
      sym (down_to (shown rail u t) ends.least ends.greatest d high longer
      ∙ ⊎_elim
      (λ least.
      ap (λ (n : ℕ). last_below (passes (shown rail u t) ends.least) ends.least (suc n)) least
      ∙ least_left (shown rail u t) ends.least ∙ sym least)
      (λ on. found (shown rail u t) ends.least d low on) here)

  -- nothing has arrived yet, and that is looked for
  pub awaited : ends.least ≤ ends.greatest → IsTrue (shows rail false) → t < ends.greatest
      → ends.greatest ≡ worst_delay rail u ends t
  awaited ordered looked early =
      worst_is ends.greatest ordered (omega arith) (λ k low high. absurd (omega (arith, low, high)))
      (inr (shown_late rail u t ends.greatest early ∙ looked))

-- what is looked for is sent first at this tick, of those that can arrive from tick t on
module _ (rail : Rail) (u : ℕ → Rails) (ends : Ends) (t first : ℕ)
    (ordered : ends.least ≤ ends.greatest) (past : NothingIsAwaited rail ends.greatest t)
    (none : NoneIsShown rail u (t - ends.greatest) first) where
  not_shown : (r k : ℕ) → t ≤ r → k ≤ ends.greatest → r < first + k → shown rail u r k ≡ false
  not_shown r k later small before =
      ⊎_elim
      (λ late. shown_late rail u r k late ∙ past k small (omega (arith, late)))
      (λ early. shown_early rail u r k early
      ∙ none (r - k) (omega (arith, early)) (omega (arith, early)))
      (cases_lt r k)

  -- until it arrives after the least delay, that is the worst
  pub least_lasts : (r : ℕ) → t ≤ r → r ≤ first + ends.least
      → ends.least ≡ worst_delay rail u ends r
  least_lasts r later soon =
      worst_is rail u ends r ends.least (omega arith) ordered
      (λ k low high. not_shown r k later high (omega (arith, low))) (inl refl)

  -- it arrives after a longer one
  pub first_arrives : t - ends.greatest ≤ first → first < t - ends.least
      → IsTrue (is_shown_at rail u first) → t - first ≡ worst_delay rail u ends t
  first_arrives late early on =
      let same : t - (t - first) ≡ first = omega arith in
      worst_is rail u ends t (t - first) (omega arith) (omega arith)
      (λ k low high. not_shown t k (omega arith) high (omega (arith, low)))
      (inr (shown_early rail u t (t - first) (omega arith) ∙ ap (is_shown_at rail u) same ∙ on))

  -- it arrives after the greatest, and is sent until another tick
  pub greatest_lasts : first + ends.greatest ≡ t → IsTrue (is_shown_at rail u first)
      → (until r : ℕ) → IsAlikeUntil u first until → t ≤ r → r < until + ends.greatest
      → ends.greatest ≡ worst_delay rail u ends r
  greatest_lasts here on until r alike later soon =
      worst_is rail u ends r ends.greatest ordered (omega arith)
      (λ k low high. absurd (omega (arith, low, high)))
      (inr (shown_early rail u r ends.greatest (omega arith)
      ∙ ap (λ (x : Rails). shows rail (value_on rail x))
      (alike.same (r - ends.greatest) (omega arith) (omega arith)) ∙ on))
