-- What is told, one thing after another.
use Rattle.std.proofs.Common.{◌≡◌, ◌+◌, ◌++◌, ℕ, suc, arith, Bool, true, false, List, [], refl, ap, sym, ◌∙◌, subst}
use Rattle.std.specs.Prelude.{◌||◌}
use Rattle.std.proofs.lemmas.List.{append-nil, append_assoc}
use Rattle.model_line.specs.{declared.line.Line.Line, declared.script.Script.Script}
use Rattle.file_study.specs.declared.sweeps.group.Group.{Group}
use Rattle.call_races.specs.Races.{Adds, AtTerminals, Both, IsAtTerminal, IsNothing, Telling, if_external}

-- nothing is told
pub adds_nothing : (old : List ℕ) → Adds IsNothing old old false
adds_nothing old = record {
  rows = [];
  is = record { trips_is = refl; rows_is = refl };
  text = sym (append-nil old);
}

-- one thing, and then another
pub adds_both : (one other : Telling) (old middle new : List ℕ) (first second both : Bool)
    → Adds one old middle first → Adds other middle new second → both ≡ first || second
    → Adds (Both one other) old new both
adds_both one other old middle new first second both a b is = record {
  rows = a.rows ++ b.rows;
  is = record {
    first_trips = first;
    first_rows = a.rows;
    second_trips = second;
    second_rows = b.rows;
    first = a.is;
    second = b.is;
    trips_is = is;
    rows_is = refl;
  };
  text = b.text ∙ ap (λ (l : List ℕ). l ++ b.rows) a.text ∙ append_assoc old a.rows b.rows;
}

-- of an external fault, and of an internal one
pub adds_if : (b : Bool) (telling : Telling) (old new : List ℕ) (trips : Bool) → b ≡ true
    → Adds telling old new trips → Adds (if_external b telling) old new trips
adds_if true telling old new trips e adds = adds
adds_if false telling old new trips e adds = absurd (cc)

pub adds_if_not : (b : Bool) (telling : Telling) (old : List ℕ) → b ≡ false
    → Adds (if_external b telling) old old false
adds_if_not true telling old e = absurd (cc)
adds_if_not false telling old e = adds_nothing old

-- at one terminal more
pub adds_terminal : (line : Line) (group : Group) (scripts : List Script) (k : ℕ) (old middle new : List ℕ)
    (first second both : Bool) → Adds (AtTerminals line group scripts k) old middle first
    → Adds (IsAtTerminal line group scripts k) middle new second → both ≡ first || second
    → Adds (AtTerminals line group scripts (k + 1)) old new both
adds_terminal line group scripts k old middle new first second both a b is =
    let e : k + 1 ≡ suc k = omega arith in
    let P : ℕ → Type 0 = λ n. Adds (AtTerminals line group scripts n) old new both in
    subst P (sym e) (adds_both (AtTerminals line group scripts k) (IsAtTerminal line group scripts k)
    old middle new first second both a b is)
