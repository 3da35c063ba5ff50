-- Races over one script more.
use Rattle.std.proofs.Common.{◌≡◌, ◌+◌, ℕ, Bool, List, [], cond, refl, sym, ◌∙◌, ap, subst, arith, ⊎_elim}
use Rattle.std.proofs.Common.{eq-eqb}
use Rattle.std.proofs.lemmas.Bool.{cases_lt, ne_eqb}
use Rattle.std.specs.Prelude.{Option, Some, None, IsTrue, slice_get, false, ◌==◌, if◌then◌else◌}
use Rattle.model_history.specs.TruthLaws.{not_both}
use Rattle.model_history.specs.ListLaws.{one_value}
use Rattle.model_line.specs.{declared.line.Line.Line, declared.script.Script.Script}
use Rattle.model_logic.specs.Tree.{Tree}
use Rattle.judge_races.specs.Races.{Column, lack_of, ends_at, begins_at, AreRaces}
use Rattle.judge_races.specs.Races.{HasRace, IsLookedAt}
use Rattle.judge_races.specs.Lasting.{AreColumns, AreRacesOver, holds_at, is_held}
use Rattle.judge_races.specs.declared.races.Race.{Race}
use Rattle.judge_races.specs.declared.stretch.Stretch.{Stretch}
use Rattle.judge_races.proofs.RaceLaws.{next_place, skipped_place, no_races}

-- the columns of the earlier scripts, and those of a script
abbrev pub columns_with : (ℕ → List Column) → ℕ → List Column → ℕ → List Column
columns_with all place new p = if p == place then new else all p

with_here : (all : ℕ → List Column) (place : ℕ) (new : List Column) (p : ℕ) → p ≡ place
    → columns_with all place new p ≡ new
with_here all place new p here = ap (λ (b : Bool). cond b new (all p)) (eq-eqb p place here)

with_elsewhere : (all : ℕ → List Column) (place : ℕ) (new : List Column) (p : ℕ)
    → (p ≡ place → ⊥) → columns_with all place new p ≡ all p
with_elsewhere all place new p other =
    ap (λ (b : Bool). cond b new (all p)) (ne_eqb p place other)

-- races rest on the columns of what is looked at
races_agree : (all other : ℕ → List Column) (counts : ℕ → Bool) (horizon place tick : ℕ)
    (races : List Race)
    → ((p t : ℕ) → IsLookedAt counts horizon place tick p t → all p ≡ other p)
    → AreRaces all (IsLookedAt counts horizon place tick) races
    → AreRaces other (IsLookedAt counts horizon place tick) races
races_agree all other counts horizon place tick races same are = record {
  each = λ i r at.
      let is = are.each i r at in
      let e : all r.place ≡ other r.place = same r.place r.tick is.there in
      record {
        there = is.there;
        is = record {
          lack = ap (λ c. lack_of c r.tick) (sym e) ∙ is.is.lack;
          ends = is.is.ends ∙ ap (λ c. ends_at c r.tick r.lack) e;
          begins = is.is.begins ∙ ap (λ c. begins_at c r.tick) e;
        };
        worst = λ p t m looked lack ends.
            let f : all p ≡ other p = same p t looked in
            is.worst p t m looked (ap (λ c. lack_of c t) f ∙ lack)
            (ends ∙ ap (λ c. ends_at c t m) (sym f));
      };
  all = λ p t m looked lack.
      let f : all p ≡ other p = same p t looked in
      let P : List Bool → Type 0 = HasRace races in
      subst P (ap (λ c. ends_at c t m) f) (are.all p t m looked (ap (λ c. lack_of c t) f ∙ lack));
  apart = are.apart;
}

held_here : (trips : List (Option Stretch)) (p : ℕ) (trip : Option Stretch)
    → slice_get trips p ≡ Some trip → holds_at trips p ≡ is_held (Some trip)
held_here trips p trip at = ap is_held at

-- a script at which the trip may be set adds nothing
pub script_skipped : (line : Line) (scripts : List Script) (trips : List (Option Stretch))
    (trees : List Tree) (place : ℕ) (races : List Race) (trip : Stretch)
    → slice_get trips place ≡ Some (Some trip) → AreRacesOver line scripts trips trees place races
    → AreRacesOver line scripts trips trees (place + 1) races
script_skipped line scripts trips trees place races trip at over =
    let off : holds_at trips place ≡ false = held_here trips place (Some trip) at in
    record {
      columns = over.columns;
      tell = λ p script within here held.
          ⊎_elim (λ lt. over.tell p script lt here held)
          (λ ge.
          let same : p ≡ place = omega (arith, ge, within) in
          absurd (not_both (holds_at trips place) off (ap (holds_at trips) (sym same) ∙ held)))
          (cases_lt p place);
      are = skipped_place over.columns (holds_at trips) line.horizon place races off over.are;
    }

-- one at which it is never set adds its races
pub script_added : (line : Line) (scripts : List Script) (script : Script)
    (trips : List (Option Stretch)) (trees : List Tree) (place : ℕ) (new : List Column)
    (races after : List Race) → slice_get scripts place ≡ Some script
    → slice_get trips place ≡ Some None → AreColumns line script trees new
    → ((all : ℕ → List Column) (counts : ℕ → Bool) → all place ≡ new → IsTrue (counts place)
    → AreRaces all (IsLookedAt counts line.horizon place 0) races
    → AreRaces all (IsLookedAt counts line.horizon place line.horizon) after)
    → AreRacesOver line scripts trips trees place races
    → AreRacesOver line scripts trips trees (place + 1) after
script_added line scripts script trips trees place new races after here at are_new adds over =
    let counts : ℕ → Bool = holds_at trips in
    let all : ℕ → List Column = columns_with over.columns place new in
    let held : IsTrue (counts place) = held_here trips place None at in
    let before : (p t : ℕ) → IsLookedAt counts line.horizon place 0 p t → over.columns p ≡ all p =
    λ p t x.
    ⊎_elim
    (λ b. sym (with_elsewhere over.columns place new p (λ e. omega (arith, e, b.0))))
    (λ h. absurd (let no : ⊥ = omega (arith, h.1) in no)) x.before in
    record {
      columns = all;
      tell = λ p one within there holds.
          ⊎_elim
          (λ lt.
          let P : List Column → Type 0 = AreColumns line one trees in
          subst P (sym (with_elsewhere over.columns place new p (λ e. omega (arith, e, lt))))
          (over.tell p one lt there holds))
          (λ ge.
          let same : p ≡ place = omega (arith, ge, within) in
          let P : List Column → Type 0 = AreColumns line one trees in
          let Q : Script → Type 0 = λ s. AreColumns line s trees new in
          subst P (sym (with_here over.columns place new p same))
          (subst Q (one_value scripts place p script one (sym same) here there) are_new))
          (cases_lt p place);
      are = next_place all counts line.horizon place after
          (adds all counts (with_here over.columns place new place refl) held
          (races_agree over.columns all counts line.horizon place 0 races before over.are));
    }

-- before the first script there are none
pub none_over : (line : Line) (scripts : List Script) (trips : List (Option Stretch))
    (trees : List Tree) → AreRacesOver line scripts trips trees 0 []
none_over line scripts trips trees = record {
  columns = λ p. [];
  tell = λ p script within. absurd (let no : ⊥ = omega (arith, within) in no);
  are = no_races (λ p. []) (holds_at trips) line.horizon;
}
