-- What comes of a wave through a delay of which the two ends are known.
use Rattle.std.proofs.Common.{◌≡◌, ℕ, ◌+◌, ◌-◌, ◌≤◌, Bool, ◌<◌, ◌∙◌, ap}
use Rattle.std.proofs.Common.{arith, sym, refl, true, false, ⊎_elim}
use Rattle.std.proofs.lemmas.Bool.{cases_lt, not-true}
use Rattle.std.proofs.lemmas.Bool.Decides.{same_from_decides, Decides-like}
use Rattle.std.specs.Prelude.{◌↔◌, Option, Some, None, is_some, not, IsTrue}
use Rattle.model_history.specs.Rails.{Rails, Ends, rails_delayed, must_of, may_of}
use Rattle.model_history.specs.{Comes.AllCome, Comes.SomeComes, Laws.DelaysAreTheirFacts}
use Rattle.run_signal.specs.Spans.{ends_of}
use Rattle.run_waves.specs.{waves.Waves.ArrivesAlike, waves.FirstTick.IsFirstOn}

-- the tick that a delay reaches back to
came : (u : ℕ → Bool) (least greatest t k : ℕ) → AllCome u (ends_of least greatest) t
    → t ≤ k + greatest → k + least ≤ t → IsTrue (u k)
came u least greatest t k h low high =
    let e : k ≡ t - (t - k) = omega arith in
    ap u e ∙ (h (t - k) (omega arith) (omega arith)).on

comes : (u : ℕ → Bool) (least greatest t k : ℕ) → t ≤ k + greatest → k + least ≤ t
    → IsTrue (u k) → SomeComes u (ends_of least greatest) t
comes u least greatest t k low high on =
    let e : t - (t - k) ≡ k = omega arith in
    record {
      c = t - k;
      least = omega arith;
      greatest = omega arith;
      comes = record { past = omega arith; on = ap u e ∙ on };
    }

on_if : (b : Bool) → not b ≡ false → IsTrue b
on_if true e = refl
on_if false e = absurd (let no : true ≡ false = e in cc)

-- it came at every delay where none of the ticks that delays reach back to is off
pub all_come_if : (u : ℕ → Bool) (least greatest t : ℕ) (found : Option ℕ) (none : Bool)
    → is_some found ≡ not none → least ≤ greatest → greatest ≤ t
    → IsFirstOn (λ r. not (u r)) (t - greatest) (t - least + 1) found
    → IsTrue none ↔ AllCome u (ends_of least greatest) t
all_come_if u least greatest t None true e ordered far off = (
  λ _ c low high. record {
    past = omega arith;
    on = on_if (u (t - c)) (off (t - c) (omega arith) (omega arith));
  },
  λ _. refl,
)
all_come_if u least greatest t None false e ordered far off =
    absurd (let no : false ≡ true = e in cc)
all_come_if u least greatest t (Some k) true e ordered far first =
    absurd (let no : true ≡ false = e in cc)
all_come_if u least greatest t (Some k) false e ordered far first = (
  λ none. absurd (let no : false ≡ true = none in cc),
  λ all. absurd (let from : t - greatest ≤ k = first.from_there in
      let within : k < t - least + 1 = first.within in
      let on : u k ≡ true = came u least greatest t k all (omega arith) (omega arith) in
      let no : true ≡ false = sym on ∙ not-true (u k) first.on in cc),
)

-- it came at some delay where one of them is on
pub some_comes_if : (u : ℕ → Bool) (least greatest t : ℕ) (found : Option ℕ) → least ≤ greatest
    → least ≤ t → IsFirstOn u (t - greatest) (t - least + 1) found
    → IsTrue (is_some found) ↔ SomeComes u (ends_of least greatest) t
some_comes_if u least greatest t None ordered far off = (
  λ some. absurd (let no : false ≡ true = some in cc),
  λ some. absurd (let past : some.c ≤ t = some.comes.past in
      let low : least ≤ some.c = some.least in
      let high : some.c ≤ greatest = some.greatest in
      let no : true ≡ false =
      sym some.comes.on ∙ off (t - some.c) (omega arith) (omega arith) in cc),
)
some_comes_if u least greatest t (Some k) ordered far first = (
  λ _. (let from : t - greatest ≤ k = first.from_there in
      let within : k < t - least + 1 = first.within in
      comes u least greatest t k (omega arith) (omega arith) first.on),
  λ _. refl,
)

-- ---- while the same arrives after the least and after the greatest delay, the same is received

alike : {A B : Type 0} (f : A → B) (u : ℕ → A) (delay t end : ℕ) → ArrivesAlike u delay t end
    → ArrivesAlike (λ r. f (u r)) delay t end
alike f u delay t end h = record {
  shut = h.shut;
  passes = λ past r low high. ap f (h.passes past r low high);
}

-- what arrives alike until past the delay has begun to arrive
has_begun : (u : ℕ → Bool) (delay t k end : ℕ) → ArrivesAlike u delay t end → delay ≤ k → k < end
    → delay ≤ t
has_begun u delay t k end arrives reaches below =
    ⊎_elim
    (λ early. let shut : end ≤ delay = arrives.shut early in absurd (omega arith))
    (λ late. late)
    (cases_lt t delay)

module _ (u : ℕ → Bool) (ends : Ends) (t k a b : ℕ) (ordered : ends.least ≤ ends.greatest)
    (first : ArrivesAlike u ends.least t a) (last : ArrivesAlike u ends.greatest t b) (low : t ≤ k)
    (high : k < a) (below : k < b) where
  all_on : AllCome u ends t → AllCome u ends k
  all_on all c least greatest =
      let past : ends.greatest ≤ t = (all ends.greatest ordered (omega arith)).past in
      record {
        past = omega arith;
        on = ⊎_elim
            (λ new. first.passes (omega arith) (k - c) (omega arith) (omega arith)
            ∙ (all ends.least (omega arith) ordered).on)
            (λ old. came u ends.least ends.greatest t (k - c) all (omega arith) old)
            (cases_lt t (k - c + ends.least));
      }

  all_back : AllCome u ends k → AllCome u ends t
  all_back all c least greatest =
      let reaches : ends.greatest ≤ k = (all ends.greatest ordered (omega arith)).past in
      let past : ends.greatest ≤ t = has_begun u ends.greatest t k b last reaches below in
      record {
        past = omega arith;
        on = ⊎_elim
            (λ gone. last.passes past (t - c) (omega arith) (omega arith)
            ∙ sym (last.passes past (k - ends.greatest) (omega arith) (omega arith))
            ∙ (all ends.greatest ordered (omega arith)).on)
            (λ still. came u ends.least ends.greatest k (t - c) all still (omega arith))
            (cases_lt (t - c + ends.greatest) k);
      }

  some_on : SomeComes u ends t → SomeComes u ends k
  some_on some =
      let past : some.c ≤ t = some.comes.past in
      let least : ends.least ≤ some.c = some.least in
      let greatest : some.c ≤ ends.greatest = some.greatest in
      ⊎_elim
      (λ gone. let far : ends.greatest ≤ t =
      has_begun u ends.greatest t k b last (omega arith) below in
      comes u ends.least ends.greatest k (k - ends.greatest) (omega arith) (omega arith)
      (last.passes far (k - ends.greatest) (omega arith) (omega arith)
      ∙ sym (last.passes far (t - some.c) (omega arith) (omega arith)) ∙ some.comes.on))
      (λ still. comes u ends.least ends.greatest k (t - some.c) still (omega arith) some.comes.on)
      (cases_lt (t - some.c + ends.greatest) k)

  some_back : SomeComes u ends k → SomeComes u ends t
  some_back some =
      let past : some.c ≤ k = some.comes.past in
      let least : ends.least ≤ some.c = some.least in
      let greatest : some.c ≤ ends.greatest = some.greatest in
      ⊎_elim
      (λ new. let near : ends.least ≤ t =
      has_begun u ends.least t k a first (omega arith) high in
      comes u ends.least ends.greatest t (t - ends.least) (omega arith) (omega arith)
      (sym (first.passes near (k - some.c) (omega arith) (omega arith)) ∙ some.comes.on))
      (λ old. comes u ends.least ends.greatest t (k - some.c) (omega arith) old some.comes.on)
      (cases_lt t (k - some.c + ends.least))

-- two that have the same facts are the same
same_received : (facts : DelaysAreTheirFacts) (u v : ℕ → Rails) (ends : Ends)
    (t k : ℕ) → (AllCome (λ r. (u r).must) ends t → AllCome (λ r. (v r).must) ends k)
    → (AllCome (λ r. (v r).must) ends k → AllCome (λ r. (u r).must) ends t)
    → (SomeComes (λ r. (u r).may) ends t → SomeComes (λ r. (v r).may) ends k)
    → (SomeComes (λ r. (v r).may) ends k → SomeComes (λ r. (u r).may) ends t)
    → rails_delayed u ends t ≡ rails_delayed v ends k
same_received facts u v ends t k on back comes_on comes_back =
    let must : (rails_delayed u ends t).must ≡ (rails_delayed v ends k).must =
    same_from_decides (rails_delayed u ends t).must (rails_delayed v ends k).must
    (facts.must u (λ _. ends) t)
    (Decides-like _ back on (facts.must v (λ _. ends) k)) in
    let may : (rails_delayed u ends t).may ≡ (rails_delayed v ends k).may =
    same_from_decides (rails_delayed u ends t).may (rails_delayed v ends k).may
    (facts.may u (λ _. ends) t)
    (Decides-like _ comes_back comes_on (facts.may v (λ _. ends) k)) in
    ap (λ (b : Bool). record { must = b; may = (rails_delayed u ends t).may }) must
    ∙ ap (λ (b : Bool). record { must = (rails_delayed v ends k).must; may = b }) may

pub received_alike : (facts : DelaysAreTheirFacts) (u : ℕ → Rails) (ends : Ends)
    (t k a b : ℕ) → ends.least ≤ ends.greatest → ArrivesAlike u ends.least t a
    → ArrivesAlike u ends.greatest t b → t ≤ k → k < a → k < b
    → rails_delayed u ends k ≡ rails_delayed u ends t
received_alike facts u ends t k a b ordered first last low high below =
    let must : ℕ → Bool = λ r. (u r).must in
    let may : ℕ → Bool = λ r. (u r).may in
    let first_must = alike must_of u ends.least t a first in
    let last_must = alike must_of u ends.greatest t b last in
    let first_may = alike may_of u ends.least t a first in
    let last_may = alike may_of u ends.greatest t b last in
    sym (same_received facts u u ends t k
    (all_on must ends t k a b ordered first_must last_must low high below)
    (all_back must ends t k a b ordered first_must last_must low high below)
    (some_on may ends t k a b ordered first_may last_may low high below)
    (some_back may ends t k a b ordered first_may last_may low high below))
