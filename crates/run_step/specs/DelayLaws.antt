-- What arrives stays the same while the keys at both ends of the window do.
use Rattle.run_signal.specs.Signals.{SignalOf}
use Rattle.std.proofs.Common.{◌≡◌, ℕ, zero, suc, ◌+◌, ◌-◌, ◌<◌, ◌≤◌, Bool, sym, ◌∙◌, ap, arith}
use Rattle.std.proofs.Common.{⊎_elim, ◌⊎◌, subst, Some, length, get_or}
use Rattle.std.specs.Prelude.{slice_get}
use Rattle.std.proofs.lemmas.Option.{slice_get-get_or}
use Rattle.model_line.specs.Parameters.{channel_count, terminal_count}
use Rattle.run_step.specs.{declared.moment.Moment.Moment, declared.delays.Delay.Delay}
use Rattle.run_step.specs.Moments.{CanHear}
use Rattle.std.proofs.lemmas.Bool.{cases_lt}
use Rattle.std.proofs.lemmas.Bool.Decides.{Decides-like, same_from_decides}
use Rattle.model_history.specs.Rails.{Rails, Ends, rails_delayed, must_of, may_of}
use Rattle.model_history.specs.{Comes.Comes, Comes.AllCome, Comes.SomeComes, Laws.HistoryLaws}
use Rattle.run_step.specs.Quiet.{Keeps, EndKeeps, ArrivalKeeps}
use Rattle.run_step.specs.Lasts.{ArrivesAs, EndLasts, IsHeldAs, RawLasts}
use Rattle.run_step.specs.QuietLaws.{keeps_fewer}

-- a channel's delay is of a terminal that has a key
pub sender_inside : {V S : Type 0} (signal : SignalOf V S) (moment : Moment V S S)
    (channel : ℕ) (x : Delay S) → CanHear signal moment
    → channel < channel_count moment.line.now
    → (get_or moment.delays.now channel x).from < length moment.sent.now
sender_inside signal moment channel x can exists =
    let d : Delay _ = get_or moment.delays.now channel x in
    let at : slice_get moment.delays.now channel ≡ Some d =
    slice_get-get_or moment.delays.now channel x (omega (arith, can.delays.count, exists)) in
    let there : d.from < terminal_count moment.line.now = can.delays.from channel d at in
    omega (arith, there, can.sent.count)

-- what c ticks ago was at t is so at the next tick
pub record StepsOn {A : Type 0} (u : ℕ → A) (c t : ℕ) : Type 0 where
  pub before : t < c → suc t < c
  pub after : c ≤ t → u (suc t - c) ≡ u (t - c)

all_on : (u : ℕ → Bool) (e : Ends) (t : ℕ) → StepsOn u e.least t → StepsOn u e.greatest t
    → AllCome u e t → AllCome u e (suc t)
all_on u e t least greatest all c low high =
    let last : Comes u e.greatest t = all e.greatest (omega arith) (omega arith) in
    let past : e.greatest ≤ t = last.past in
    ⊎_elim
    (λ above. let came : Comes u (c - 1) t = all (c - 1) (omega arith) (omega arith) in
    let same : suc t - c ≡ t - (c - 1) = omega arith in
    record { past = omega arith; on = ap u same ∙ came.on })
    (λ first. let is : c ≡ e.least = omega arith in
    let came : Comes u e.least t = all e.least (omega arith) (omega arith) in
    record {
      past = omega arith;
      on = ap (λ (k : ℕ). u (suc t - k)) is ∙ least.after (omega arith) ∙ came.on;
    })
    (cases_lt e.least c)

on_all : (u : ℕ → Bool) (e : Ends) (t : ℕ) → StepsOn u e.least t → StepsOn u e.greatest t
    → AllCome u e (suc t) → AllCome u e t
on_all u e t least greatest all c low high =
    let last : Comes u e.greatest (suc t) = all e.greatest (omega arith) (omega arith) in
    let late : e.greatest ≤ suc t = last.past in
    let past : e.greatest ≤ t =
    ⊎_elim (λ early. let k = greatest.before early in absurd (omega (arith, k, late)))
    (λ h. h) (cases_lt t e.greatest) in
    ⊎_elim
    (λ below. let came : Comes u (c + 1) (suc t) = all (c + 1) (omega arith) (omega arith) in
    let same : t - c ≡ suc t - (c + 1) = omega arith in
    record { past = omega arith; on = ap u same ∙ came.on })
    (λ top. let is : c ≡ e.greatest = omega arith in
    record {
      past = omega arith;
      on = ap (λ (k : ℕ). u (t - k)) is ∙ sym (greatest.after past) ∙ last.on;
    })
    (cases_lt c e.greatest)

some_on : (u : ℕ → Bool) (e : Ends) (t : ℕ) → StepsOn u e.least t → StepsOn u e.greatest t
    → SomeComes u e t → SomeComes u e (suc t)
some_on u e t least greatest some =
    let low : e.least ≤ some.c = some.least in
    let high : some.c ≤ e.greatest = some.greatest in
    let past : some.c ≤ t = some.comes.past in
    ⊎_elim
    (λ below.
    let same : suc t - (some.c + 1) ≡ t - some.c = omega arith in
    record {
      c = some.c + 1;
      least = omega arith;
      greatest = omega arith;
      comes = record { past = omega arith; on = ap u same ∙ some.comes.on };
    })
    (λ top. let is : e.greatest ≡ some.c = omega arith in
    record {
      c = e.greatest;
      least = omega arith;
      greatest = omega arith;
      comes = record {
        past = omega arith;
        on = greatest.after (omega arith) ∙ ap (λ (k : ℕ). u (t - k)) is ∙ some.comes.on;
      };
    })
    (cases_lt some.c e.greatest)

on_some : (u : ℕ → Bool) (e : Ends) (t : ℕ) → StepsOn u e.least t → StepsOn u e.greatest t
    → SomeComes u e (suc t) → SomeComes u e t
on_some u e t least greatest some =
    let low : e.least ≤ some.c = some.least in
    let high : some.c ≤ e.greatest = some.greatest in
    let late : some.c ≤ suc t = some.comes.past in
    ⊎_elim
    (λ above.
    let same : t - (some.c - 1) ≡ suc t - some.c = omega arith in
    record {
      c = some.c - 1;
      least = omega arith;
      greatest = omega arith;
      comes = record { past = omega arith; on = ap u same ∙ some.comes.on };
    })
    (λ first. let is : e.least ≡ some.c = omega arith in
    let past : e.least ≤ t =
    ⊎_elim (λ early. let k = least.before early in absurd (omega (arith, k, late, is)))
    (λ h. h) (cases_lt t e.least) in
    record {
      c = e.least;
      least = omega arith;
      greatest = omega arith;
      comes = record {
        past = past;
        on = sym (least.after past) ∙ ap (λ (k : ℕ). u (suc t - k)) is ∙ some.comes.on;
      };
    })
    (cases_lt e.least some.c)

module _ (laws : HistoryLaws) (key : ℕ → Rails) (e : Ends) (t : ℕ)
    (least : StepsOn key e.least t) (greatest : StepsOn key e.greatest t) where
  abbrev rail : (Rails → Bool) → ℕ → Bool
  rail of r = of (key r)

  of_rail : (of : Rails → Bool) (c : ℕ) → StepsOn key c t → StepsOn (rail of) c t
  of_rail of c h = record { before = h.before; after = λ le. ap of (h.after le) }

  -- one tick on
  pub delayed_still : rails_delayed key e (suc t) ≡ rails_delayed key e t
  delayed_still =
      ap (λ (b : Bool). record { must = b; may = (rails_delayed key e (suc t)).may })
      (same_from_decides _ _ (laws.delays.must key (λ _. e) (suc t))
      (Decides-like _
      (all_on (rail must_of) e t (of_rail must_of e.least least)
      (of_rail must_of e.greatest greatest))
      (on_all (rail must_of) e t (of_rail must_of e.least least)
      (of_rail must_of e.greatest greatest)) (laws.delays.must key (λ _. e) t)))
      ∙ ap (λ (b : Bool). record { must = (rails_delayed key e t).must; may = b })
      (same_from_decides _ _ (laws.delays.may key (λ _. e) (suc t))
      (Decides-like _
      (some_on (rail may_of) e t (of_rail may_of e.least least)
      (of_rail may_of e.greatest greatest))
      (on_some (rail may_of) e t (of_rail may_of e.least least)
      (of_rail may_of e.greatest greatest)) (laws.delays.may key (λ _. e) t)))

-- what was sent c ticks ago stays the same for n ticks, up to each under its premise
abbrev pub EndKeepsIf : (ℕ → Type 0) → (ℕ → Rails) → ℕ → ℕ → ℕ → Type 0
EndKeepsIf Held key c t n =
    (j : ℕ) → j < n → Held j → (t < c → t + j < c) × (c ≤ t → key (t + j - c) ≡ key (t - c))

module _ (laws : HistoryLaws) (Held : ℕ → Type 0) (less : (j : ℕ) → Held (suc j) → Held j)
    (key : ℕ → Rails) (t n : ℕ) where
  -- one tick on, within the stretch
  steps_on : (c j : ℕ) → EndKeepsIf Held key c t n → suc j < n → Held (suc j)
      → StepsOn key c (t + j)
  steps_on c j end lt held =
      let now = end j (omega arith) (less j held) in
      let next = end (suc j) lt held in
      let same : t + suc j ≡ suc (t + j) = omega arith in
      let early : t + j < c → t < c = λ h. omega arith in
      let late : c ≤ t + j → c ≤ t =
      λ h. ⊎_elim (λ below. let k = now.0 below in absurd (omega (arith, k, h))) (λ le. le)
      (cases_lt t c) in
      record {
        before = λ h. let k = next.0 (early h) in omega (arith, k);
        after = λ h.
            ap (λ (r : ℕ). key (r - c)) (sym same) ∙ next.1 (late h) ∙ sym (now.1 (late h));
      }

  pub arrivals_keep_if : (e : Ends) → EndKeepsIf Held key e.least t n
      → EndKeepsIf Held key e.greatest t n → (j : ℕ) → j < n → Held j
      → rails_delayed key e (t + j) ≡ rails_delayed key e t
  arrivals_keep_if e least greatest zero lt held =
      let same : t + 0 ≡ t = omega arith in ap (rails_delayed key e) same
  arrivals_keep_if e least greatest (suc j) lt held =
      let same : t + suc j ≡ suc (t + j) = omega arith in
      ap (rails_delayed key e) same
      ∙ delayed_still laws key e (t + j) (steps_on e.least j least lt held)
      (steps_on e.greatest j greatest lt held)
      ∙ arrivals_keep_if e least greatest j (omega arith) (less j held)

-- while the key is held
pub arrivals_keep : (laws : HistoryLaws) (key : ℕ → Rails) (t n : ℕ) (e : Ends)
    → EndKeeps key e.least t n → EndKeeps key e.greatest t n → ArrivalKeeps key e t n
arrivals_keep laws key t n e least greatest =
    arrivals_keep_if laws (λ j. Keeps key t j)
    (λ j held. keeps_fewer key t j (suc j) (omega arith) held) key t n e least greatest

held_fewer : (key : ℕ → Rails) (b t m n : ℕ) → m ≤ n → IsHeldAs key b t n → IsHeldAs key b t m
held_fewer key b t m n le held r low high = held r low (omega arith)

-- while the key is held as far as it arrives
pub arrives_as : (laws : HistoryLaws) (key : ℕ → Rails) (b t n : ℕ) (e : Ends)
    → e.least ≤ e.greatest → EndLasts key b e.least t n → EndLasts key b e.greatest t n
    → ArrivesAs key e b t n
arrives_as laws key b t n e order least greatest =
    arrivals_keep_if laws (λ j. IsHeldAs key b t (suc j - e.least))
    (λ j held. held_fewer key b t (suc j - e.least) (suc (suc j) - e.least) (omega arith) held)
    key t n e least
    (λ j lt held. greatest j lt
    (held_fewer key b t (suc j - e.greatest) (suc j - e.least) (omega (arith, order)) held))

-- the key was one value from tick t - c on, and to the last tick or to where the stretch ends
pub end_lasts : (key : ℕ → Rails) (c t end n : ℕ) → 1 ≤ c → c ≤ t → end ≤ t
    → ((r : ℕ) → t - c ≤ r → r < end → key r ≡ key (t - c))
    → (t ≤ end) ⊎ (n + (t - c) ≤ end) → EndLasts key (t - 1) c t n
end_lasts key c t end n some past most known which j lt held =
    let inside : t + j - c < end → key (t + j - c) ≡ key (t - c) =
    λ low. known (t + j - c) (omega arith) low in (
      λ early. absurd (omega arith),
      λ _. ⊎_elim
          (λ to_last. ⊎_elim inside
          (λ high. held (t + j - c) (omega arith) (omega arith)
          ∙ known (t - 1) (omega arith) (omega arith))
          (cases_lt (t + j - c) end))
          (λ far. inside (omega arith))
          which,
    )

-- the key is sent later
pub early_lasts : (key : ℕ → Rails) (b c t n : ℕ) → t + n ≤ c → EndLasts key b c t n
early_lasts key b c t n far j lt held =
    (λ early. omega arith, λ past. absurd (omega arith))

-- the rails of the ticks so far are those of the key
pub known_rails : (u key : ℕ → Rails) (c t end : ℕ) → end ≤ t → c ≤ t → 1 ≤ c
    → ((r : ℕ) → r < t → u r ≡ key r)
    → ((r : ℕ) → t - c ≤ r → r < end → u r ≡ u (t - c))
    → (r : ℕ) → t - c ≤ r → r < end → key r ≡ key (t - c)
known_rails u key c t end most past some tells stays r low high =
    sym (tells r (omega arith)) ∙ stays r low high ∙ tells (t - c) (omega arith)

pub arrives_fewer : (key : ℕ → Rails) (e : Ends) (b t m n : ℕ) → m ≤ n → ArrivesAs key e b t n
    → ArrivesAs key e b t m
arrives_fewer key e b t m n le keeps j lt held = keeps j (omega arith) held

pub end_fewer : (key : ℕ → Rails) (b c t m n : ℕ) → m ≤ n → EndLasts key b c t n
    → EndLasts key b c t m
end_fewer key b c t m n le keeps j lt held = keeps j (omega arith) held

-- of a delay that has this span until a tick
pub raw_lasts : (key : ℕ → Rails) (delay : ℕ → Ends) (e : Ends) (b t until m n : ℕ)
    → ((r : ℕ) → t ≤ r → r < until → e ≡ delay r) → t < until
    → n ≤ m → t + n ≤ until → 1 ≤ e.least → ArrivesAs key e b t m → RawLasts key delay b t n
raw_lasts key delay e b t until m n is early less over later arrives = record {
  later = λ some. subst (λ (x : Ends). 1 ≤ x.least) (is t (omega arith) early) later;
  still = λ r low high.
      sym (is r low (omega (arith, high, over))) ∙ is t (omega arith) early;
  arrives = subst (λ (x : Ends). ArrivesAs key x b t n) (is t (omega arith) early)
      (arrives_fewer key e b t n m less arrives);
}
