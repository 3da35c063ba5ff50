-- The laws of histories, each under the name of the function that ensures it, so that the proofs
-- above can take them as arguments.
use Rattle.std.specs.Prelude.{◌≡◌, ◌+◌, ◌-◌, ◌≤◌, ◌<◌, ◌&&◌, ◌||◌, ◌↔◌, ℕ, Bool, not, IsTrue}
use Rattle.std.specs.Prelude.{Decides, List, [], ◌∷◌, ◌++◌, false, length}
use Rattle.model_history.specs.Elements.{every_below, some_below, hold, timed, sealed, delayed}
use Rattle.model_history.specs.Elements.{Holds}
use Rattle.model_history.specs.Elements.{IsTimed, IsSealed, SameUpTo, Below}
use Rattle.model_history.specs.Comes.{Comes, AllCome, SomeComes}
use Rattle.model_history.specs.Recorded.{at, first_ticks}
use Rattle.model_history.specs.Rails.{Rails, Ends, Covers, RailsCover, IsPartOf, IsSound, SameRails}
use Rattle.model_history.specs.Rails.{both}
use Rattle.model_history.specs.Rails.{single, rails_at, rails_not, rails_and, rails_or, rails_timed}
use Rattle.model_history.specs.Rails.{rails_sealed, rails_delayed}

-- ---- elements over one history

-- a test of every number below another, or of some, is what it says
pub record TestsAreTheirFacts : Type 0 where
  pub every : (q : ℕ → Bool) (n : ℕ)
      → Decides (every_below q n) ((k : ℕ) → k < n → IsTrue (q k))
  pub some : (q : ℕ → Bool) (n : ℕ)
      → Decides (some_below q n) ((k : ℕ) × (k < n) × IsTrue (q k))

-- the truth values are what the facts of their names say
pub record ElementsAreTheirFacts : Type 0 where
  pub hold : (u : ℕ → Bool) (p s : ℕ) → Decides (hold u p s) (Holds u p s)
  pub timed : (u : ℕ → Bool) (p d t : ℕ) → Decides (timed u p d t) (IsTimed u p d t)
  pub sealed : (set keep : ℕ → Bool) (t : ℕ) → Decides (sealed set keep t) (IsSealed set keep t)

-- only the ticks so far matter
pub record ElementsReadThePast : Type 0 where
  pub timed : (u v : ℕ → Bool) (p d t : ℕ) → SameUpTo u v t → timed u p d t ≡ timed v p d t
  pub sealed : (set keep set' keep' : ℕ → Bool) (t : ℕ) → SameUpTo set set' t
      → SameUpTo keep keep' t → sealed set keep t ≡ sealed set' keep' t

-- where an input is on more often, and where the pickup is shorter or the dropout longer, an
-- element is on wherever it was
pub record ElementsGrow : Type 0 where
  pub timed : (u v : ℕ → Bool) (p q d e t : ℕ) → Below u v t → q ≤ p → d ≤ e
      → IsTrue (timed u p d t) → IsTrue (timed v q e t)
  pub sealed : (set keep set' keep' : ℕ → Bool) (t : ℕ) → Below set set' t → Below keep keep' t
      → IsTrue (sealed set keep t) → IsTrue (sealed set' keep' t)

-- ---- delays

-- the truth values are what the facts of their names say
pub record DelaysAreTheirFacts : Type 0 where
  pub delayed : (u : ℕ → Bool) (c t : ℕ) → Decides (delayed u c t) (Comes u c t)
  pub must : (u : ℕ → Rails) (c : ℕ → Ends) (t : ℕ)
      → Decides (rails_delayed u (c t) t).must (AllCome (λ r. (u r).must) (c t) t)
  pub may : (u : ℕ → Rails) (c : ℕ → Ends) (t : ℕ)
      → Decides (rails_delayed u (c t) t).may (SomeComes (λ r. (u r).may) (c t) t)

-- what arrives after one delay, over one history and over two rails, is what was there before; off
-- before the first tick arrives
pub record OneDelayReadsOneTick : Type 0 where
  pub value : (u : ℕ → Bool) (c t : ℕ) → c ≤ t → delayed u c t ≡ u (t - c)
  pub value_before : (u : ℕ → Bool) (c t : ℕ) → t < c → delayed u c t ≡ false
  pub rails : (u : ℕ → Rails) (c t : ℕ) → c ≤ t → rails_delayed u (single c) t ≡ u (t - c)
  pub rails_before : (u : ℕ → Rails) (c t : ℕ) → t < c
      → rails_delayed u (single c) t ≡ both false

-- what is received at a tick rests on the keys of the ticks from the greatest to the least delay
-- before it alone, so with delays of at least 1 on keys of earlier ticks alone
pub record DelaysReadEarlierTicks : Type 0 where
  pub delayed : (u v : ℕ → Bool) (c t : ℕ) → ((r : ℕ) → r + c ≡ t → u r ≡ v r)
      → delayed u c t ≡ delayed v c t
  pub rails : (u v : ℕ → Rails) (c : ℕ → Ends) (t : ℕ)
      → ((r : ℕ) → r + (c t).least ≤ t → t ≤ r + (c t).greatest → u r ≡ v r)
      → rails_delayed u (c t) t ≡ rails_delayed v (c t) t

-- over keys that cover, and ends around the delay of the tick, what is received is covered
pub record DelaysCover : Type 0 where
  pub values : (u : ℕ → Rails) (v : ℕ → Bool) (ends : ℕ → Ends) (c : ℕ → ℕ) (t : ℕ) → 1 ≤ c t
      → ((r : ℕ) → r < t → Covers (u r) (v r)) → (ends t).least ≤ c t → c t ≤ (ends t).greatest
      → Covers (rails_delayed u (ends t) t) (delayed v (c t) t)
  pub rails : (u v : ℕ → Rails) (wide narrow : ℕ → Ends) (t : ℕ) → 1 ≤ (wide t).least
      → IsPartOf (narrow t) (wide t) → ((r : ℕ) → r < t → RailsCover (u r) (v r))
      → RailsCover (rails_delayed u (wide t) t) (rails_delayed v (narrow t) t)

-- what must be received may be, where that is so of the keys and the ends are in order
abbrev pub DelaysStaySound : Type 0
DelaysStaySound = (u : ℕ → Rails) (c : ℕ → Ends) (t : ℕ) → (c t).least ≤ (c t).greatest
    → ((r : ℕ) → r ≤ t → IsSound (u r)) → IsSound (rails_delayed u (c t) t)

-- over single delays, and keys whose rails are both the same, both rails are what is delayed
abbrev pub DelaysAtSingleNumbers : Type 0
DelaysAtSingleNumbers = (u : ℕ → Bool) (c : ℕ → ℕ) (t : ℕ)
    → rails_delayed (λ r. both (u r)) (single (c t)) t ≡ both (delayed u (c t) t)

-- ---- the interval rules of everything but the delay

-- rails that cover rails that cover others cover those
pub record CoveringIsAnOrder : Type 0 where
  pub itself : (x : Rails) → RailsCover x x
  pub on : (x y z : Rails) → RailsCover x y → RailsCover y z → RailsCover x z
  pub value : (x y : Rails) (v : Bool) → RailsCover x y → Covers y v → Covers x v
  pub exact : (x : Rails) (v : Bool) → RailsCover x (both v) ↔ Covers x v

-- over rails that cover truth values, and ends around the numbers, the rails cover the value
pub record RailsCoverValues : Type 0 where
  pub not : (x : Rails) (v : Bool) → Covers x v → Covers (rails_not x) (not v)
  pub and : (x y : Rails) (v w : Bool) → Covers x v → Covers y w → Covers (rails_and x y) (v && w)
  pub or : (x y : Rails) (v w : Bool) → Covers x v → Covers y w → Covers (rails_or x y) (v || w)
  pub timed : (u : ℕ → Rails) (v : ℕ → Bool) (pickup dropout : Ends) (p d t : ℕ)
      → ((r : ℕ) → r ≤ t → Covers (u r) (v r)) → pickup.least ≤ p → p ≤ pickup.greatest
      → dropout.least ≤ d → d ≤ dropout.greatest
      → Covers (rails_timed u pickup dropout t) (timed v p d t)
  pub sealed : (a b : ℕ → Rails) (u v : ℕ → Bool) (t : ℕ) → ((r : ℕ) → r ≤ t → Covers (a r) (u r))
      → ((r : ℕ) → r ≤ t → Covers (b r) (v r)) → Covers (rails_sealed a b t) (sealed u v t)

-- over rails that cover rails, and ends around ends, the rails cover the narrower ones
pub record RailsCoverRails : Type 0 where
  pub not : (x y : Rails) → RailsCover x y → RailsCover (rails_not x) (rails_not y)
  pub and : (a b x y : Rails) → RailsCover a x → RailsCover b y
      → RailsCover (rails_and a b) (rails_and x y)
  pub or : (a b x y : Rails) → RailsCover a x → RailsCover b y
      → RailsCover (rails_or a b) (rails_or x y)
  pub timed : (u v : ℕ → Rails) (p q d e : Ends) (t : ℕ)
      → ((r : ℕ) → r ≤ t → RailsCover (u r) (v r)) → IsPartOf q p → IsPartOf e d
      → RailsCover (rails_timed u p d t) (rails_timed v q e t)
  pub sealed : (a b u v : ℕ → Rails) (t : ℕ) → ((r : ℕ) → r ≤ t → RailsCover (a r) (u r))
      → ((r : ℕ) → r ≤ t → RailsCover (b r) (v r))
      → RailsCover (rails_sealed a b t) (rails_sealed u v t)

-- where what must be may be, and the ends are in order, it is so of the rails too
pub record RailsStaySound : Type 0 where
  pub not : (x : Rails) → IsSound x → IsSound (rails_not x)
  pub and : (x y : Rails) → IsSound x → IsSound y → IsSound (rails_and x y)
  pub or : (x y : Rails) → IsSound x → IsSound y → IsSound (rails_or x y)
  pub timed : (u : ℕ → Rails) (p d : Ends) (t : ℕ) → p.least ≤ p.greatest → d.least ≤ d.greatest
      → ((r : ℕ) → r ≤ t → IsSound (u r)) → IsSound (rails_timed u p d t)
  pub sealed : (a b : ℕ → Rails) (t : ℕ) → ((r : ℕ) → r ≤ t → IsSound (a r))
      → ((r : ℕ) → r ≤ t → IsSound (b r)) → IsSound (rails_sealed a b t)

-- over single numbers, and rails that are both the same, both rails are the element
pub record RailsAtSingleNumbers : Type 0 where
  pub timed : (u : ℕ → Bool) (p d t : ℕ) → rails_timed (λ r. both (u r)) (single p) (single d) t
      ≡ both (timed u p d t)
  pub sealed : (u v : ℕ → Bool) (t : ℕ) → rails_sealed (λ r. both (u r)) (λ r. both (v r)) t
      ≡ both (sealed u v t)

-- only the ticks so far matter
pub record RailsReadThePast : Type 0 where
  pub timed : (u v : ℕ → Rails) (p d : Ends) (t : ℕ) → SameRails u v t
      → rails_timed u p d t ≡ rails_timed v p d t
  pub sealed : (a b u v : ℕ → Rails) (t : ℕ) → SameRails a u t → SameRails b v t
      → rails_sealed a b t ≡ rails_sealed u v t

-- ---- what was recorded

-- a recording of so many ticks has so many, and gives them back
pub record RecordingsGiveTheirTicks : Type 0 where
  pub count : (u : ℕ → Rails) (n : ℕ) → length (first_ticks u n) ≡ n
  pub rails : (u : ℕ → Rails) (n t : ℕ) → t < n → rails_at (first_ticks u n) t ≡ u t
  pub again : (l : List Bool) → first_ticks (at l) (length l) ≡ l

-- the elements over the ticks up to t, and what is received over the ticks before t
pub record RecordedTicksSuffice : Type 0 where
  pub timed : (u : ℕ → Rails) (p d : Ends) (t : ℕ) → let before = first_ticks u t in
      rails_timed (rails_at (before ++ u t ∷ [])) p d (length before) ≡ rails_timed u p d t
  pub sealed : (u v : ℕ → Rails) (t : ℕ) → let sets = first_ticks u t in
      let keeps = first_ticks v t in
      rails_sealed (rails_at (sets ++ u t ∷ [])) (rails_at (keeps ++ v t ∷ [])) (length sets)
      ≡ rails_sealed u v t
  pub delayed : (u : ℕ → Rails) (c : ℕ → Ends) (t : ℕ) → let before = first_ticks u t in
      1 ≤ (c t).least → rails_delayed (rails_at before) (c t) (length before)
      ≡ rails_delayed u (c t) t

-- ---- all of them, for proofs that rest on several

pub record HistoryLaws : Type 0 where
  pub tests : TestsAreTheirFacts
  pub elements : ElementsAreTheirFacts
  pub elements_past : ElementsReadThePast
  pub elements_grow : ElementsGrow
  pub delays : DelaysAreTheirFacts
  pub one_delay : OneDelayReadsOneTick
  pub delays_earlier : DelaysReadEarlierTicks
  pub delays_cover : DelaysCover
  pub delays_sound : DelaysStaySound
  pub delays_single : DelaysAtSingleNumbers
  pub covering : CoveringIsAnOrder
  pub cover_values : RailsCoverValues
  pub cover_rails : RailsCoverRails
  pub rails_sound : RailsStaySound
  pub rails_single : RailsAtSingleNumbers
  pub rails_past : RailsReadThePast
  pub recordings : RecordingsGiveTheirTicks
  pub recorded : RecordedTicksSuffice
