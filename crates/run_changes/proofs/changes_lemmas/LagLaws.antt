-- Gates that are not evaluated at a tick, since nothing that they rest on has changed.
use Rattle.run_signal.specs.Signals.{SignalOf}
use Rattle.std.proofs.Common.{◌≡◌, ℕ, zero, suc, ◌+◌, ◌-◌, ◌<◌, ◌≤◌, List, length, refl, sym}
use Rattle.std.proofs.Common.{◌∙◌, ap, subst, arith, ⊎_elim, inl, inr, ◌⊎◌}
use Rattle.std.proofs.lemmas.Bool.{cases_lt}
use Rattle.model_history.specs.Rails.{Rails, Ends, rails_not, rails_and, rails_or}
use Rattle.model_history.specs.Rails.{rails_delayed, rails_timed, rails_sealed, rails_at}
use Rattle.model_history.specs.{Recorded.first_ticks}
use Rattle.model_history.specs.{FirstTickLaws.length-first_ticks}
use Rattle.model_history.specs.Laws.{RecordedTicksSuffice}
use Rattle.run_signal.specs.{Stretches.ElementsInAStretch, Seals.last_seal}
use Rattle.model_logic.specs.{PairMean.PairWorld}
use Rattle.net_gates.specs.declared.gate.Gate.TheVariants.{Const, Seen, Loss, Raw, Not, And, Or}
use Rattle.net_gates.specs.declared.gate.Gate.TheVariants.{Timer, Seal}
use Rattle.net_gates.specs.{declared.gate.Gate.Gate}
use Rattle.run_step.specs.declared.cell.Cell.TheVariants as cell
use Rattle.run_step.specs.declared.cell.Cell.{Cell}
use Rattle.run_changes.specs.declared.changes.since.Since.{Since}
use Rattle.run_step.specs.{GatePairs.GateSignals, GatePairs.kind_pair, Quiet.Keeps}
use Rattle.run_step.specs.Quiet.{TimerKeeps}
use Rattle.run_step.specs.CellStands.{SealStands, CellStands, TimerStands}
use Rattle.run_changes.specs.changes.Lags.{Lags, IsInputAt, IsNoTimer, IsSame, ArgsRest}
use Rattle.run_step.specs.{Lanes.LanePairs, Lasts.Lasts, Lasts.RawLasts}
use Rattle.run_step.specs.QuietLaws.{GateQuiet}
use Rattle.net_gates.specs.{Gates.HasArguments, Readers.HasArgument, Readers.Hears}

-- a gate that is not due is not at the first tick
pub at_least_one : (t due : ℕ) → t < due → (t ≡ 0 → due ≡ 0) → 1 ≤ t
at_least_one zero due later fresh = let none : due ≡ 0 = fresh refl in absurd (omega arith)
at_least_one (suc t) due later fresh = omega arith

-- two ticks with one value
pub keeps_two : (u : ℕ → Rails) (b t : ℕ) → t ≡ suc b → u t ≡ u b → Keeps u b 2
keeps_two u b t next same r low high =
    ⊎_elim
    (λ lt. let e : r ≡ b = omega arith in ap u e)
    (λ ge. let e : r ≡ t = omega arith in ap u e ∙ same)
    (cases_lt r t)

-- the arguments of the gate have at tick t the pairs of tick b
abbrev pub ArgsSame : GateSignals → ℕ → ℕ → Gate → Type 0
ArgsSame u t b (Const v) = Unit {0}
ArgsSame u t b (Seen p) = Unit {0}
ArgsSame u t b (Loss c) = Unit {0}
ArgsSame u t b (Raw c) = Unit {0}
ArgsSame u t b (Not x) = u x.0 t ≡ u x.0 b
ArgsSame u t b (And x y) = (u x.0 t ≡ u x.0 b) × (u y.0 t ≡ u y.0 b)
ArgsSame u t b (Or x y) = (u x.0 t ≡ u x.0 b) × (u y.0 t ≡ u y.0 b)
ArgsSame u t b (Timer x p d) = u x.0 t ≡ u x.0 b
ArgsSame u t b (Seal x y) = (u x.0 t ≡ u x.0 b) × (u y.0 t ≡ u y.0 b)

pub args_same : (u : GateSignals) (t n : ℕ) (g : Gate) → 1 ≤ t → HasArguments n g
    → ArgsRest u t n g → ArgsSame u t (t - 1) g
args_same u t n (Const v) some has rests = tt
args_same u t n (Seen p) some has rests = tt
args_same u t n (Loss c) some has rests = tt
args_same u t n (Raw c) some has rests = tt
args_same u t n (Not x) some has rests = rests has some
args_same u t n (And x y) some has rests = (rests.0 has.0 some, rests.1 has.1 some)
args_same u t n (Or x y) some has rests = (rests.0 has.0 some, rests.1 has.1 some)
args_same u t n (Timer x p d) some has rests = rests has some
args_same u t n (Seal x y) some has rests = (rests.0 has.0 some, rests.1 has.1 some)

-- one gate more that is the same, if it is an argument
same_more : (u : GateSignals) (t n a : ℕ) → (a ≡ n → 1 ≤ t → u n t ≡ u n (t - 1))
    → IsSame u t n a → IsSame u t (n + 1) a
same_more u t n a one same lt some =
    ⊎_elim
    (λ low. same low some)
    (λ high. let here : a ≡ n = omega arith in
    subst (λ (k : ℕ). u k t ≡ u k (t - 1)) (sym here) (one here some))
    (cases_lt a n)

pub rests_more : (u : GateSignals) (t n : ℕ) (g : Gate)
    → (HasArgument n g → 1 ≤ t → u n t ≡ u n (t - 1))
    → ArgsRest u t n g → ArgsRest u t (n + 1) g
rests_more u t n (Const v) one rests = tt
rests_more u t n (Seen p) one rests = tt
rests_more u t n (Loss c) one rests = tt
rests_more u t n (Raw c) one rests = tt
rests_more u t n (Not x) one rests = same_more u t n x.0 one rests
rests_more u t n (And x y) one rests = (
  same_more u t n x.0 (λ e. one (inl e)) rests.0,
  same_more u t n y.0 (λ e. one (inr e)) rests.1,
)
rests_more u t n (Or x y) one rests = (
  same_more u t n x.0 (λ e. one (inl e)) rests.0,
  same_more u t n y.0 (λ e. one (inr e)) rests.1,
)
rests_more u t n (Timer x p d) one rests = same_more u t n x.0 one rests
rests_more u t n (Seal x y) one rests = (
  same_more u t n x.0 (λ e. one (inl e)) rests.0,
  same_more u t n y.0 (λ e. one (inr e)) rests.1,
)

same_none : (u : GateSignals) (t a : ℕ) → IsSame u t 0 a
same_none u t a lt some = absurd (omega arith)

-- before the first gate nothing is asked
pub rests_none : (u : GateSignals) (t : ℕ) (g : Gate) → ArgsRest u t 0 g
rests_none u t (Const v) = tt
rests_none u t (Seen p) = tt
rests_none u t (Loss c) = tt
rests_none u t (Raw c) = tt
rests_none u t (Not x) = same_none u t x.0
rests_none u t (And x y) = (same_none u t x.0, same_none u t y.0)
rests_none u t (Or x y) = (same_none u t x.0, same_none u t y.0)
rests_none u t (Timer x p d) = same_none u t x.0
rests_none u t (Seal x y) = (same_none u t x.0, same_none u t y.0)

-- what arrives one tick on
raw_on : (key : ℕ → Rails) (delay : ℕ → Ends) (t b n : ℕ) → t ≡ suc b → 2 ≤ n
    → RawLasts key delay b b n → rails_delayed key (delay b) t ≡ rails_delayed key (delay b) b
raw_on key delay t b n next two lasts =
    let later : 1 ≤ (delay b).least = lasts.later (omega arith) in
    let e : t ≡ b + 1 = omega arith in
    ap (rails_delayed key (delay b)) e
    ∙ lasts.arrives 1 (omega arith)
    (λ r low high. let here : r ≡ b = omega (arith, low, high, later) in ap key here)

-- a gate that rests has the pair of the tick before
pub rest_pair : (stretch : ElementsInAStretch) (p : LanePairs) (t b due : ℕ) (g : Gate)
    → t ≡ suc b → t < due → ArgsSame p.pairs t b g → Lasts p b b (due - b) g
    → kind_pair p.world p.keys p.pairs g t ≡ kind_pair p.world p.keys p.pairs g b
rest_pair stretch p t b due (Const v) next later same lasts = refl
rest_pair stretch p t b due (Seen q) next later same lasts =
    lasts t (omega arith) (omega arith)
rest_pair stretch p t b due (Loss c) next later same lasts =
    lasts t (omega arith) (omega arith)
rest_pair stretch p t b due (Raw c) next later same lasts =
    let key : ℕ → Rails = p.keys (p.world.from c) in
    ap (λ (e : Ends). rails_delayed key e t) (lasts.still t (omega arith) (omega arith))
    ∙ raw_on key (p.world.delay c) t b (due - b) next (omega arith) lasts
rest_pair stretch p t b due (Not x) next later same lasts = ap rails_not same
rest_pair stretch p t b due (And x y) next later same lasts =
    ap (λ (v : Rails). rails_and v (p.pairs y.0 t)) same.0
    ∙ ap (λ (v : Rails). rails_and (p.pairs x.0 b) v) same.1
rest_pair stretch p t b due (Or x y) next later same lasts =
    ap (λ (v : Rails). rails_or v (p.pairs y.0 t)) same.0
    ∙ ap (λ (v : Rails). rails_or (p.pairs x.0 b) v) same.1
rest_pair stretch p t b due (Timer x q d) next later same lasts =
    let e : t ≡ b + 1 = omega arith in
    ap (rails_timed (p.pairs x.0) (p.world.time q) (p.world.time d)) e
    ∙ lasts 1 (omega arith) (keeps_two (p.pairs x.0) b t next same)
rest_pair stretch p t b due (Seal x y) next later same lasts =
    stretch.sealed (p.pairs x.0) (p.pairs y.0) (p.pairs x.0 b) (p.pairs y.0 b) b 2 t
    (keeps_two (p.pairs x.0) b t next same.0) (keeps_two (p.pairs y.0) b t next same.1)
    (omega arith) (omega arith)

-- values that keep do so from the tick after on
still_on : {A : Type 0} (f : ℕ → A) (t b m n : ℕ) → t ≡ suc b → suc n ≤ m → Keeps f b m
    → Keeps f t n
still_on f t b m n next less keeps r low high =
    keeps r (omega arith) (omega arith) ∙ sym (keeps t (omega arith) (omega arith))

-- what arrives lasts from the tick after on, if the key is held as at tick c: either it is that of
-- the tick before, or nothing that is sent from then on arrives
raw_later : (key : ℕ → Rails) (delay : ℕ → Ends) (t b m n : ℕ) → t ≡ suc b → suc n ≤ m
    → RawLasts key delay b b m → RawLasts key delay b t n
raw_later key delay t b m n next less lasts = record {
  later = λ some. subst (λ (e : Ends). 1 ≤ e.least)
      (sym (lasts.still t (omega arith) (omega arith))) (lasts.later (omega arith));
  still = still_on delay t b m n next less lasts.still;
  arrives = λ j lt held.
      let same : delay t ≡ delay b = lasts.still t (omega arith) (omega arith) in
      let later : 1 ≤ (delay b).least = lasts.later (omega arith) in
      let e : t + j ≡ b + suc j = omega arith in
      let least : (delay t).least ≡ (delay b).least = ap (λ (x : Ends). x.least) same in
      ap (λ (x : Ends). rails_delayed key x (t + j)) same
      ∙ ap (rails_delayed key (delay b)) e
      ∙ lasts.arrives (suc j) (omega arith)
      (λ r low high. ⊎_elim
      (λ early. let here : r ≡ b = omega arith in ap key here)
      (λ late. held r late (omega (arith, high, least, later, next)))
      (cases_lt r t))
      ∙ sym (raw_on key delay t b m next (omega arith) lasts)
      ∙ sym (ap (λ (x : Ends). rails_delayed key x t) same);
}

-- what a gate rests on lasts from the tick after on
pub rest_lasts : (p : LanePairs) (t b m n : ℕ) (g : Gate) → t ≡ suc b
    → suc n ≤ m → ArgsSame p.pairs t b g → Lasts p b b m g → Lasts p b t n g
rest_lasts p t b m n (Const v) next less same lasts = tt
rest_lasts p t b m n (Seen q) next less same lasts =
    still_on (p.world.seen q) t b m n next less lasts
rest_lasts p t b m n (Loss c) next less same lasts =
    still_on (p.world.lost c) t b m n next less lasts
rest_lasts p t b m n (Raw c) next less same lasts =
    raw_later (p.keys (p.world.from c)) (p.world.delay c) t b m n next less lasts
rest_lasts p t b m n (Not x) next less same lasts = tt
rest_lasts p t b m n (And x y) next less same lasts = tt
rest_lasts p t b m n (Or x y) next less same lasts = tt
rest_lasts p t b m n (Timer x q d) next less same lasts = λ j lt keeps.
    let e : t + j ≡ b + suc j = omega arith in
    let one : b + 1 ≡ t = omega arith in
    let u : ℕ → Rails = p.pairs x.0 in
    let f : ℕ → Rails = rails_timed u (p.world.time q) (p.world.time d) in
    let all : Keeps u b (suc (suc j)) =
    λ r low high. ⊎_elim
    (λ early. let here : r ≡ b = omega arith in ap u here)
    (λ late. keeps r late (omega arith) ∙ same)
    (cases_lt r t) in
    ap f e ∙ lasts (suc j) (omega arith) all
    ∙ sym (lasts 1 (omega arith) (keeps_two u b t next same))
    ∙ ap f one
rest_lasts p t b m n (Seal x y) next less same lasts = tt

-- for no tick
pub lasts_none : (p : LanePairs) (b t : ℕ) (g : Gate) → Lasts p b t 0 g
lasts_none p b t (Const v) = tt
lasts_none p b t (Seen q) = λ r low high. absurd (omega arith)
lasts_none p b t (Loss c) = λ r low high. absurd (omega arith)
lasts_none p b t (Raw c) = record {
  later = λ some. absurd (omega arith);
  still = λ r low high. absurd (omega arith);
  arrives = λ j lt. absurd (omega arith);
}
lasts_none p b t (Not x) = tt
lasts_none p b t (And x y) = tt
lasts_none p b t (Or x y) = tt
lasts_none p b t (Timer x q d) = λ j lt keeps. absurd (omega arith)
lasts_none p b t (Seal x y) = tt

one_tick : {A : Type 0} (f : ℕ → A) (t : ℕ) → Keeps f t 1
one_tick f t r low high = let e : r ≡ t = omega arith in ap f e

-- for one tick
pub lasts_one : (p : LanePairs) (b t : ℕ) (g : Gate)
    → ((c : ℕ) → Hears c g → 1 ≤ (p.world.delay c t).least) → Lasts p b t 1 g
lasts_one p b t (Const v) later = tt
lasts_one p b t (Seen q) later = one_tick (p.world.seen q) t
lasts_one p b t (Loss c) later = one_tick (p.world.lost c) t
lasts_one p b t (Raw c) later = record {
  later = λ some. later c refl;
  still = one_tick (p.world.delay c) t;
  arrives = λ j lt held. let e : t + j ≡ t = omega arith in
      ap (rails_delayed (p.keys (p.world.from c)) (p.world.delay c t)) e;
}
lasts_one p b t (Not x) later = tt
lasts_one p b t (And x y) later = tt
lasts_one p b t (Or x y) later = tt
lasts_one p b t (Timer x q d) later = λ j lt keeps. let e : t + j ≡ t = omega arith in
    ap (rails_timed (p.pairs x.0) (p.world.time q) (p.world.time d)) e
lasts_one p b t (Seal x y) later = tt

-- for fewer ticks
pub lasts_fewer : (p : LanePairs) (b t m n : ℕ) (g : Gate) → m ≤ n → Lasts p b t n g
    → Lasts p b t m g
lasts_fewer p b t m n (Const v) le lasts = tt
lasts_fewer p b t m n (Seen q) le lasts = λ r low high. lasts r low (omega arith)
lasts_fewer p b t m n (Loss c) le lasts = λ r low high. lasts r low (omega arith)
lasts_fewer p b t m n (Raw c) le lasts = record {
  later = λ some. lasts.later (omega arith);
  still = λ r low high. lasts.still r low (omega arith);
  arrives = λ j lt held. lasts.arrives j (omega arith) held;
}
lasts_fewer p b t m n (Not x) le lasts = tt
lasts_fewer p b t m n (And x y) le lasts = tt
lasts_fewer p b t m n (Or x y) le lasts = tt
lasts_fewer p b t m n (Timer x q d) le lasts = λ j lt keeps. lasts j (omega arith) keeps
lasts_fewer p b t m n (Seal x y) le lasts = tt

-- a gate that hears hears this channel's key as it is at another tick, or none that is sent from now
-- on
abbrev pub HearsNo : LanePairs → ℕ → ℕ → ℕ → ℕ → Gate → Type 0
HearsNo p b c t n g =
    (k : ℕ) → Hears k g
    → (p.keys (p.world.from k) c ≡ p.keys (p.world.from k) b) ⊎ (n ≤ (p.world.delay k t).least)

-- the key that it hears is held as at another tick
pub lasts_as : (p : LanePairs) (b c t n : ℕ) (g : Gate) → HearsNo p b c t n g → Lasts p b t n g
    → Lasts p c t n g
lasts_as p b c t n (Const v) hears lasts = tt
lasts_as p b c t n (Seen q) hears lasts = lasts
lasts_as p b c t n (Loss x) hears lasts = lasts
lasts_as p b c t n (Raw x) hears lasts = record {
  later = lasts.later;
  still = lasts.still;
  arrives = λ j lt held. lasts.arrives j lt
      (λ r low high. ⊎_elim
      (λ same. held r low high ∙ same)
      (λ soon. absurd (omega (arith, lt, low, high, soon)))
      (hears x refl));
}
lasts_as p b c t n (Not x) hears lasts = tt
lasts_as p b c t n (And x y) hears lasts = tt
lasts_as p b c t n (Or x y) hears lasts = tt
lasts_as p b c t n (Timer x q d) hears lasts = lasts
lasts_as p b c t n (Seal x y) hears lasts = tt

-- while the key that it hears is held, nothing that it rests on changes
pub lasts_quiet : (p : LanePairs) (t n : ℕ) (g : Gate) → Lasts p t t n g
    → GateQuiet p.world p.keys p.pairs t n g
lasts_quiet p t n (Const v) lasts = tt
lasts_quiet p t n (Seen q) lasts = lasts
lasts_quiet p t n (Loss c) lasts = lasts
lasts_quiet p t n (Raw c) lasts = (
  lasts.still,
  λ j lt held. let later : 1 ≤ (p.world.delay c t).least = lasts.later (omega arith) in
      lasts.arrives j lt (λ r low high. held r low (omega (arith, high, later))),
)
lasts_quiet p t n (Not x) lasts = tt
lasts_quiet p t n (And x y) lasts = tt
lasts_quiet p t n (Or x y) lasts = tt
lasts_quiet p t n (Timer x q d) lasts = lasts
lasts_quiet p t n (Seal x y) lasts = tt

-- a timer's answer lasts while it keeps
pub timer_lasts : (p : LanePairs) (b t n : ℕ) (g : Gate) → (IsNoTimer g → ⊥)
    → TimerKeeps p.world p.pairs t n g → Lasts p b t n g
timer_lasts p b t n (Const v) one keeps = absurd (one tt)
timer_lasts p b t n (Seen q) one keeps = absurd (one tt)
timer_lasts p b t n (Loss c) one keeps = absurd (one tt)
timer_lasts p b t n (Raw c) one keeps = absurd (one tt)
timer_lasts p b t n (Not x) one keeps = absurd (one tt)
timer_lasts p b t n (And x y) one keeps = absurd (one tt)
timer_lasts p b t n (Or x y) one keeps = absurd (one tt)
timer_lasts p b t n (Timer x q d) one keeps = keeps
timer_lasts p b t n (Seal x y) one keeps = absurd (one tt)

-- a seal that has this rail at the tick before stands for the ticks up to this one too
seal_on : {C V S : Type 0} (stretch : ElementsInAStretch) (recorded : RecordedTicksSuffice)
    (rails : V → ℕ → Rails) (lane : ℕ) (f g : ℕ → Rails) (t b : ℕ) (c : Cell C V S) → t ≡ suc b
    → f t ≡ f b → g t ≡ g b
    → SealStands rails lane (first_ticks f (suc b)) (first_ticks g (suc b)) c
    → SealStands rails lane (first_ticks f (suc t)) (first_ticks g (suc t)) c
seal_on stretch recorded rails lane f g t b cell.Nothing next same same' h = absurd h
seal_on stretch recorded rails lane f g t b (cell.Timer x y z) next same same' h = absurd h
seal_on stretch recorded rails lane f g t b (cell.Seal s) next same same' h =
    let at : (r : ℕ) → last_seal (rails_at (first_ticks f (suc r))) (rails_at (first_ticks g (suc r)))
    (length (first_ticks f (suc r))) ≡ rails_sealed f g r =
    λ r. ap (last_seal (rails_at (first_ticks f (suc r))) (rails_at (first_ticks g (suc r))))
    (length-first_ticks f (suc r))
    ∙ sym (ap (rails_sealed (rails_at (first_ticks f (suc r))) (rails_at (first_ticks g (suc r))))
    (length-first_ticks f r))
    ∙ recorded.sealed f g r in
    record {
      together = length-first_ticks g (suc t) ∙ sym (length-first_ticks f (suc t));
      last_is = h.last_is ∙ at b
          ∙ sym (stretch.sealed f g (f b) (g b) b 2 t (keeps_two f b t next same)
          (keeps_two g b t next same') (omega arith) (omega arith))
          ∙ sym (at t);
    }

module _ {C S V : Type 0} (stretch : ElementsInAStretch) (recorded : RecordedTicksSuffice)
    (signal : SignalOf V S)
    (stands_for : C → S → S → ℕ → List Rails → Type 0) (lane : ℕ) (w : PairWorld)
    (u : GateSignals) where
  abbrev LagsAt : ℕ → Gate → Cell C V S → Since V → Type 0
  LagsAt r g c s = Lags signal stands_for lane w u r g c s

  -- a cell that is left as it is lags one tick more
  pub rest_lags : (t b : ℕ) (g : Gate) (c : Cell C V S) (s : Since V) → t ≡ suc b
      → ArgsSame u t b g → LagsAt t g c s → LagsAt (suc t) g c s
  rest_lags t b (Const v) c s next same lags = tt
  rest_lags t b (Seen p) c s next same lags = tt
  rest_lags t b (Loss x) c s next same lags = tt
  rest_lags t b (Raw x) c s next same lags = tt
  rest_lags t b (Not x) c s next same lags = tt
  rest_lags t b (And x y) c s next same lags = tt
  rest_lags t b (Or x y) c s next same lags = tt
  rest_lags t b (Timer x p d) c s next same lags =
      let taken : s.fed ≤ t = lags.taken in
      record {
        taken = omega arith;
        stands = lags.stands;
        held = λ r low high. ⊎_elim
            (λ early. lags.held r low early)
            (λ late. let here : r ≡ t = omega arith in
            ap (u x.0) here ∙ same ∙ lags.held b (omega arith) (omega arith))
            (cases_lt r t);
      }
  rest_lags t b (Seal x y) c s next same lags =
      seal_on stretch recorded signal.rails lane (u x.0) (u y.0) t b c next same.0 same.1
      (subst (λ (r : ℕ). SealStands signal.rails lane (first_ticks (u x.0) r) (first_ticks (u y.0) r) c)
      next lags)

module _ {C S V : Type 0} (signal : SignalOf V S)
    (stands_for : C → S → S → ℕ → List Rails → Type 0) (lane : ℕ) (w : PairWorld)
    (u : GateSignals) where
  -- a cell that has taken the tick
  pub lags_now : (t : ℕ) (g : Gate) (c : Cell C V S) (s : Since V) → s.fed ≡ suc t
      → IsInputAt signal.rails lane u t g s.input
      → CellStands signal stands_for lane w u (suc t) g c → Lags signal stands_for lane w u
      (suc t) g c s
  lags_now t (Const v) c s fed input stands = tt
  lags_now t (Seen p) c s fed input stands = tt
  lags_now t (Loss x) c s fed input stands = tt
  lags_now t (Raw x) c s fed input stands = tt
  lags_now t (Not x) c s fed input stands = tt
  lags_now t (And x y) c s fed input stands = tt
  lags_now t (Or x y) c s fed input stands = tt
  lags_now t (Timer x p d) c s fed input stands = record {
    taken = omega (arith, fed);
    stands = subst (λ (r : ℕ). TimerStands stands_for signal.ends lane (w.time p) (w.time d)
        (first_ticks (u x.0) r) c) (sym fed) stands;
    held = λ r low high.
        let here : r ≡ t = omega (arith, fed, low, high) in ap (u x.0) here ∙ input;
  }
  lags_now t (Seal x y) c s fed input stands = stands

  pub no_timer_stands : (t : ℕ) (g : Gate) (c : Cell C V S) (s : Since V) → IsNoTimer g
      → Lags signal stands_for lane w u t g c s
      → CellStands signal stands_for lane w u t g c
  no_timer_stands t (Const v) c s none lags = tt
  no_timer_stands t (Seen p) c s none lags = tt
  no_timer_stands t (Loss x) c s none lags = tt
  no_timer_stands t (Raw x) c s none lags = tt
  no_timer_stands t (Not x) c s none lags = tt
  no_timer_stands t (And x y) c s none lags = tt
  no_timer_stands t (Or x y) c s none lags = tt
  no_timer_stands t (Timer x p d) c s none lags = absurd none
  no_timer_stands t (Seal x y) c s none lags = lags

  pub no_timer_lags : (t : ℕ) (g : Gate) (c : Cell C V S) (s : Since V) → IsNoTimer g
      → CellStands signal stands_for lane w u t g c
      → Lags signal stands_for lane w u t g c s
  no_timer_lags t (Const v) c s none stands = tt
  no_timer_lags t (Seen p) c s none stands = tt
  no_timer_lags t (Loss x) c s none stands = tt
  no_timer_lags t (Raw x) c s none stands = tt
  no_timer_lags t (Not x) c s none stands = tt
  no_timer_lags t (And x y) c s none stands = tt
  no_timer_lags t (Or x y) c s none stands = tt
  no_timer_lags t (Timer x p d) c s none stands = absurd none
  no_timer_lags t (Seal x y) c s none stands = stands
