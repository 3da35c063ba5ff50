-- The races of one tick more.
use Rattle.std.proofs.Common.{◌≡◌, ◌≢◌, ◌≤◌, ◌<◌, ◌+◌, ◌⊎◌, ◌++◌, ℕ, zero, suc, Bool, false, List, [], ◌∷◌, length, inl}
use Rattle.std.proofs.Common.{inr, refl, sym, ◌∙◌, ap, subst, arith, ⊎_elim}
use Rattle.std.proofs.lemmas.Bool.{cases_lt}
use Rattle.std.proofs.lemmas.Option.{same_Some, slice_get_within}
use Rattle.std.specs.Prelude.{Option, Some, None, IsTrue, slice_get, slice_set}
use Rattle.model_history.specs.ListLaws.{one_value, at_set, at_push, before_append}
use Rattle.model_history.specs.ListLaws.{last_push}
use Rattle.model_history.specs.TruthLaws.{not_both}
use Rattle.judge_races.specs.Races.{Column, lack_of, ends_at, IsAsBad, IsAt, IsRace, AreRaces}
use Rattle.judge_races.specs.Races.{HasRaceAt, HasRace, HasNone, IsLookedAt}
use Rattle.judge_races.specs.declared.races.Race.{Race}

no_value : {A : Type 0} (x : Option A) (m : A) → x ≡ None → x ≡ Some m → ⊥
no_value x m none some = let both : None ≡ Some m = sym none ∙ some in absurd (cc)

set_there : {X : Type 0} (xs : List X) (i : ℕ) (y : X) (j : ℕ) (x : X) → slice_get xs j ≡ Some x
    → ((j ≡ i) × (slice_get (slice_set xs i y) j ≡ Some y)) ⊎ (slice_get (slice_set xs i y) j ≡ Some x)
set_there [] i y j x at = absurd (cc)
set_there (z ∷ xs) zero y zero x at = inl (refl, refl)
set_there (z ∷ xs) zero y (suc j) x at = inr at
set_there (z ∷ xs) (suc i) y zero x at = inr at
set_there (z ∷ xs) (suc i) y (suc j) x at =
    ⊎_elim (λ h. inl (ap suc h.0, h.1)) inr (set_there xs i y j x at)

-- an element of a list in which one of the same operands was written
set_keeps : (races new : List Race) (i j : ℕ) (n x r : Race) → new ≡ slice_set races i n
    → slice_get races j ≡ Some x → slice_get races i ≡ Some r → n.ends.items ≡ r.ends.items
    → (q : Race) × (slice_get new j ≡ Some q) × (q.ends.items ≡ x.ends.items)
set_keeps races new i j n x r is at_j at_i same =
    let one = set_there races i n j x at_j in
    ⊎_elim
    (λ h.
    let e : r ≡ x = one_value races i j r x (sym h.0) at_i at_j in
    (n, ap (λ l. slice_get l j) is ∙ h.1, same ∙ ap (λ (y : Race). y.ends.items) e))
    (λ h. (x, ap (λ l. slice_get l j) is ∙ h, refl))
    one

-- ticks that are the same ones
same_ticks : (all : ℕ → List Column) (counts : ℕ → Bool) (horizon place tick next after : ℕ)
    (races : List Race)
    → ((p t : ℕ) → IsLookedAt counts horizon place tick p t → IsLookedAt counts horizon next after p t)
    → ((p t : ℕ) → IsLookedAt counts horizon next after p t → IsLookedAt counts horizon place tick p t)
    → AreRaces all (IsLookedAt counts horizon place tick) races
    → AreRaces all (IsLookedAt counts horizon next after) races
same_ticks all counts horizon place tick next after races to back are = record {
  each = λ i r at.
      let is = are.each i r at in
      record {
        there = to r.place r.tick is.there;
        is = is.is;
        worst = λ p t m looked. is.worst p t m (back p t looked);
      };
  all = λ p t m looked. are.all p t m (back p t looked);
  apart = are.apart;
}

module _ (all : ℕ → List Column) (counts : ℕ → Bool) (horizon place tick : ℕ) where
  -- what is looked at with one tick more
  looked_more : (p t : ℕ) → IsLookedAt counts horizon place (tick + 1) p t
      → IsLookedAt counts horizon place tick p t ⊎ ((p ≡ place) × (t ≡ tick))
  looked_more p t x =
      ⊎_elim (λ b. inl (record { counted = x.counted; before = inl b }))
      (λ h.
      ⊎_elim (λ lt. inl (record { counted = x.counted; before = inr (h.0, lt) }))
      (λ ge. inr (h.0, omega (arith, h.1, ge)))
      (cases_lt t tick))
      x.before

  looked_wider : (p t : ℕ) → IsLookedAt counts horizon place tick p t
      → IsLookedAt counts horizon place (tick + 1) p t
  looked_wider p t x = record {
    counted = x.counted;
    before = ⊎_elim inl (λ h. inr (h.0, omega (arith, h.1))) x.before;
  }

  -- a race of the earlier ticks, if it is as bad as the tick is
  wider : (r : Race) → IsRace all (IsLookedAt counts horizon place tick) r
      → ((m : ℕ) → lack_of (all place) tick ≡ Some m → r.ends.items ≡ ends_at (all place) tick m
      → IsAsBad r.lack r.place r.tick m place tick)
      → IsRace all (IsLookedAt counts horizon place (tick + 1)) r
  wider r is new = record {
    there = looked_wider r.place r.tick is.there;
    is = is.is;
    worst = λ p t m looked.
        let F : ℕ → ℕ → Type 0 = λ q s. lack_of (all q) s ≡ Some m
        → r.ends.items ≡ ends_at (all q) s m → IsAsBad r.lack r.place r.tick m q s in
        ⊎_elim (λ old. is.worst p t m old)
        (λ h.
        let P : ℕ → Type 0 = λ q. F q tick in
        let Q : ℕ → Type 0 = λ s. F p s in
        subst Q (sym h.1) (subst P (sym h.0) (new m)))
        (looked_more p t looked);
  }

  -- each tick is of a race, if the new one is
  covered : (old new : List Race)
      → ((ends : List Bool) → HasRace old ends → HasRace new ends)
      → ((m : ℕ) → lack_of (all place) tick ≡ Some m → HasRace new (ends_at (all place) tick m))
      → ((p t m : ℕ) → IsLookedAt counts horizon place tick p t → lack_of (all p) t ≡ Some m
      → HasRace old (ends_at (all p) t m))
      → (p t m : ℕ) → IsLookedAt counts horizon place (tick + 1) p t → lack_of (all p) t ≡ Some m
      → HasRace new (ends_at (all p) t m)
  covered old new keeps here so_far p t m looked =
      let F : ℕ → ℕ → Type 0 = λ q s. lack_of (all q) s ≡ Some m → HasRace new (ends_at (all q) s m) in
      ⊎_elim (λ before lack. keeps (ends_at (all p) t m) (so_far p t m before lack))
      (λ h.
      let P : ℕ → Type 0 = λ q. F q tick in
      let Q : ℕ → Type 0 = λ s. F p s in
      subst Q (sym h.1) (subst P (sym h.0) (here m)))
      (looked_more p t looked)

  -- a tick at which an operand never was on
  pub nothing_more : (races : List Race) → lack_of (all place) tick ≡ None
      → AreRaces all (IsLookedAt counts horizon place tick) races
      → AreRaces all (IsLookedAt counts horizon place (tick + 1)) races
  nothing_more races none are = record {
    each = λ i r at.
        wider r (are.each i r at) (λ m lack _. absurd (no_value _ m none lack));
    all = covered races races (λ ends has. has) (λ m lack. absurd (no_value _ m none lack)) are.all;
    apart = are.apart;
  }

  -- a race of the tick
  module _ (n : Race) (is : IsAt all n) (of_place : n.place ≡ place) (of_tick : n.tick ≡ tick)
      (counted : IsTrue (counts place)) where
    lack_here : lack_of (all place) tick ≡ Some n.lack
    lack_here =
        ap (λ q. lack_of (all q) tick) (sym of_place)
        ∙ ap (λ s. lack_of (all n.place) s) (sym of_tick) ∙ is.lack

    -- what is lacked at the tick is one number
    one_lack : (m : ℕ) → lack_of (all place) tick ≡ Some m → n.lack ≡ m
    one_lack m lack = same_Some n.lack m (sym lack_here ∙ lack)

    ends_here : (m : ℕ) → n.lack ≡ m → n.ends.items ≡ ends_at (all place) tick m
    ends_here m same =
        is.ends ∙ ap (λ q. ends_at (all q) n.tick n.lack) of_place
        ∙ ap (λ s. ends_at (all place) s n.lack) of_tick ∙ ap (ends_at (all place) tick) same

    looked_here : IsLookedAt counts horizon place (tick + 1) n.place n.tick
    looked_here =
        let P : ℕ → Type 0 = λ q. IsTrue (counts q) in
        record {
          counted = subst P (sym of_place) counted;
          before = inr (of_place, omega (arith, of_tick));
        }

    -- what is before it by places and ticks
    looked_before : (p t : ℕ) → IsLookedAt counts horizon place tick p t
        → (p < place) ⊎ ((p ≡ place) × (t ≤ tick))
    looked_before p t x = ⊎_elim (λ b. inl b.0) (λ h. inr (h.0, omega (arith, h.1))) x.before

    -- it is a race if it is worse than all before that are of the same operands
    new_race : ((p t m : ℕ) → IsLookedAt counts horizon place tick p t
        → lack_of (all p) t ≡ Some m → n.ends.items ≡ ends_at (all p) t m → n.lack < m)
        → IsRace all (IsLookedAt counts horizon place (tick + 1)) n
    new_race less = record {
      there = looked_here;
      is = is;
      worst = λ p t m looked lack ends.
          ⊎_elim (λ old. inl (less p t m old lack ends))
          (λ h.
          let here : lack_of (all place) tick ≡ Some m =
          ap (λ q. lack_of (all q) tick) (sym h.0) ∙ ap (λ s. lack_of (all p) s) (sym h.1) ∙ lack in
          inr (one_lack m here, inr (of_place ∙ sym h.0, omega (arith, of_tick, h.1))))
          (looked_more p t looked);
    }

    -- a race that is as bad stays
    pub race_stays : (races : List Race) (i : ℕ) (old : HasRaceAt races n.ends.items i)
        → old.race.lack ≤ n.lack → AreRaces all (IsLookedAt counts horizon place tick) races
        → AreRaces all (IsLookedAt counts horizon place (tick + 1)) races
    race_stays races i old small are =
        let r : Race = old.race in
        let P : Race → ℕ → Type 0 = λ x m. IsAsBad x.lack x.place x.tick m place tick in
        let bad : (m : ℕ) → n.lack ≡ m → P r m =
        λ m same.
        ⊎_elim (λ lt. inl lt)
        (λ ge.
        inr (omega (arith, ge, small, same), looked_before r.place r.tick (are.each i r old.there).there))
        (cases_lt r.lack m) in
        record {
          each = λ j q at.
              wider q (are.each j q at) (λ m lack ends.
              let same : n.lack ≡ m = one_lack m lack in
              let e : q.ends.items ≡ r.ends.items = ends ∙ sym (ends_here m same) ∙ sym old.same in
              let is_r : r ≡ q =
              one_value races i j r q (sym (are.apart j i q r at old.there e)) old.there at in
              let Q : Race → Type 0 = λ x. P x m in
              subst Q is_r (bad m same));
          all = covered races races (λ ends has. has)
              (λ m lack. record {
                at = i;
                is = record {
                  race = r;
                  there = old.there;
                  same = old.same ∙ ends_here m (one_lack m lack);
                };
              })
              are.all;
          apart = are.apart;
        }

    -- a race that is worse takes the place
    pub race_worse : (races new : List Race) (i : ℕ) (old : HasRaceAt races n.ends.items i)
        → new ≡ slice_set races i n → n.lack < old.race.lack
        → AreRaces all (IsLookedAt counts horizon place tick) races
        → AreRaces all (IsLookedAt counts horizon place (tick + 1)) new
    race_worse races new i old is_set less are =
        let r : Race = old.race in
        let within : i < length races = slice_get_within races i r old.there in
        let n_is : IsRace all (IsLookedAt counts horizon place (tick + 1)) n =
        new_race (λ p t m looked lack ends.
        let bad = (are.each i r old.there).worst p t m looked lack (old.same ∙ ends) in
        ⊎_elim (λ lt. omega (arith, lt, less)) (λ h. omega (arith, h.0, less)) bad) in
        let there : (j : ℕ) (q : Race) → slice_get new j ≡ Some q
        → ((j ≡ i) × (n ≡ q)) ⊎ ((j ≢ i) × (slice_get races j ≡ Some q)) =
        λ j q at. at_set races i n j q (ap (λ l. slice_get l j) (sym is_set) ∙ at) in
        let was : (j : ℕ) (q : Race) → slice_get new j ≡ Some q
        → (x : Race) × (slice_get races j ≡ Some x) × (x.ends.items ≡ q.ends.items) =
        λ j q at.
        ⊎_elim
        (λ h. (r, ap (slice_get races) h.0 ∙ old.there, old.same ∙ ap (λ (x : Race). x.ends.items) h.1))
        (λ h. (q, h.1, refl))
        (there j q at) in
        let now : (j : ℕ) (x : Race) → slice_get races j ≡ Some x
        → (q : Race) × (slice_get new j ≡ Some q) × (q.ends.items ≡ x.ends.items) =
        λ j x at. set_keeps races new i j n x r is_set at old.there (sym old.same) in
        record {
          each = λ j q at.
              ⊎_elim
              (λ h.
              let P : Race → Type 0 = IsRace all (IsLookedAt counts horizon place (tick + 1)) in
              subst P h.1 n_is)
              (λ h.
              wider q (are.each j q h.1) (λ m lack ends.
              absurd (h.0 (are.apart j i q r h.1 old.there
              (ends ∙ sym (ends_here m (one_lack m lack)) ∙ sym old.same)))))
              (there j q at);
          all = covered races new
              (λ ends has.
              let one = now has.at has.is.race has.is.there in
              record {
                at = has.at;
                is = record { race = one.0; there = one.1; same = one.2 ∙ has.is.same };
              })
              (λ m lack.
              let one = now i r old.there in
              record {
                at = i;
                is = record {
                  race = one.0;
                  there = one.1;
                  same = one.2 ∙ old.same ∙ ends_here m (one_lack m lack);
                };
              })
              are.all;
          apart = λ j k a b at_j at_k e.
              let x = was j a at_j in
              let y = was k b at_k in
              are.apart j k x.0 y.0 x.1 y.1 (x.2 ∙ e ∙ sym y.2);
        }

    -- a race of other operands is added
    pub race_added : (races new : List Race) → HasNone races n.ends.items → new ≡ races ++ n ∷ []
        → AreRaces all (IsLookedAt counts horizon place tick) races
        → AreRaces all (IsLookedAt counts horizon place (tick + 1)) new
    race_added races new none is_push are =
        let n_is : IsRace all (IsLookedAt counts horizon place (tick + 1)) n =
        new_race (λ p t m looked lack ends.
        let has = are.all p t m looked lack in
        absurd (none has.at (record {
          race = has.is.race;
          there = has.is.there;
          same = has.is.same ∙ sym ends;
        }))) in
        let there : (j : ℕ) (q : Race) → slice_get new j ≡ Some q
        → (slice_get races j ≡ Some q) ⊎ ((j ≡ length races) × (q ≡ n)) =
        λ j q at. at_push races n q j (ap (λ l. slice_get l j) (sym is_push) ∙ at) in
        let other : (j : ℕ) (q : Race) → slice_get races j ≡ Some q
        → q.ends.items ≡ n.ends.items → ⊥ =
        λ j q at same. none j (record { race = q; there = at; same = same }) in
        record {
          each = λ j q at.
              ⊎_elim
              (λ before.
              wider q (are.each j q before) (λ m lack ends.
              absurd (other j q before (ends ∙ sym (ends_here m (one_lack m lack))))))
              (λ h.
              let P : Race → Type 0 = IsRace all (IsLookedAt counts horizon place (tick + 1)) in
              subst P (sym h.1) n_is)
              (there j q at);
          all = covered races new
              (λ ends has. record {
                at = has.at;
                is = record {
                  race = has.is.race;
                  there = ap (λ l. slice_get l has.at) is_push
                      ∙ before_append races (n ∷ []) has.at has.is.race has.is.there;
                  same = has.is.same;
                };
              })
              (λ m lack. record {
                at = length races;
                is = record {
                  race = n;
                  there = ap (λ l. slice_get l (length races)) is_push ∙ last_push races n;
                  same = ends_here m (one_lack m lack);
                };
              })
              are.all;
          apart = λ j k a b at_j at_k e.
              ⊎_elim
              (λ before_j.
              ⊎_elim (λ before_k. are.apart j k a b before_j before_k e)
              (λ h. absurd (other j a before_j (e ∙ ap (λ (x : Race). x.ends.items) h.1)))
              (there k b at_k))
              (λ g.
              ⊎_elim
              (λ before_k. absurd (other k b before_k (sym e ∙ ap (λ (x : Race). x.ends.items) g.1)))
              (λ h. g.0 ∙ sym h.0)
              (there k b at_k))
              (there j a at_j);
        }

-- the next script begins where the one before it ends
pub next_place : (all : ℕ → List Column) (counts : ℕ → Bool) (horizon place : ℕ) (races : List Race)
    → AreRaces all (IsLookedAt counts horizon place horizon) races
    → AreRaces all (IsLookedAt counts horizon (place + 1) 0) races
next_place all counts horizon place races are = same_ticks all counts horizon place horizon (place + 1) 0 races
    (λ p t x. record {
      counted = x.counted;
      before = ⊎_elim (λ b. inl (omega (arith, b.0), b.1))
          (λ h. inl (omega (arith, h.0), h.1)) x.before;
    })
    (λ p t x. record {
      counted = x.counted;
      before = ⊎_elim
          (λ b.
          ⊎_elim (λ lt. inl (lt, b.1)) (λ ge. inr (omega (arith, b.0, ge), b.1)) (cases_lt p place))
          (λ h. absurd (let no : ⊥ = omega (arith, h.1) in no)) x.before;
    })
    are

-- and also after a script that does not count
pub skipped_place : (all : ℕ → List Column) (counts : ℕ → Bool) (horizon place : ℕ)
    (races : List Race) → counts place ≡ false
    → AreRaces all (IsLookedAt counts horizon place 0) races
    → AreRaces all (IsLookedAt counts horizon (place + 1) 0) races
skipped_place all counts horizon place races off are =
    same_ticks all counts horizon place 0 (place + 1) 0 races
    (λ p t x. record {
      counted = x.counted;
      before = ⊎_elim (λ b. inl (omega (arith, b.0), b.1))
          (λ h. absurd (let no : ⊥ = omega (arith, h.1) in no)) x.before;
    })
    (λ p t x. record {
      counted = x.counted;
      before = ⊎_elim
          (λ b.
          ⊎_elim (λ lt. inl (lt, b.1))
          (λ ge.
          let at : p ≡ place = omega (arith, b.0, ge) in
          absurd (not_both (counts place) off (ap counts (sym at) ∙ x.counted)))
          (cases_lt p place))
          (λ h. absurd (let no : ⊥ = omega (arith, h.1) in no)) x.before;
    })
    are

-- before the first script there are none
pub no_races : (all : ℕ → List Column) (counts : ℕ → Bool) (horizon : ℕ)
    → AreRaces all (IsLookedAt counts horizon 0 0) []
no_races all counts horizon = record {
  each = λ i r at. absurd (cc);
  all = λ p t m looked.
      absurd (⊎_elim (λ b. let no : ⊥ = omega (arith, b.0) in no)
      (λ h. let no : ⊥ = omega (arith, h.1) in no) looked.before);
  apart = λ i j a b at. absurd (cc);
}

-- what was looked for in a list that is the same
pub found_at : (races seen : List Race) (ends read : List Bool) (i : ℕ) → seen ≡ races → read ≡ ends
    → HasRaceAt seen read i → HasRaceAt races ends i
found_at races seen ends read i same same_ends has = record {
  race = has.race;
  there = ap (λ l. slice_get l i) (sym same) ∙ has.there;
  same = has.same ∙ same_ends;
}

pub found_none : (races seen : List Race) (ends read : List Bool) → seen ≡ races → read ≡ ends
    → HasNone seen read → HasNone races ends
found_none races seen ends read same same_ends none i has =
    none i (found_at seen races read ends i (sym same) (sym same_ends) has)
