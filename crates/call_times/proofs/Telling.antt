-- What is told, one thing after another.
use Rattle.std.proofs.Common.{◌≡◌, ◌≤◌, ◌<◌, ◌+◌, ◌-◌, ◌++◌, ℕ, suc, arith, List, [], ◌∷◌, length, take, drop, refl, ap, sym, ◌∙◌, subst}
use Rattle.std.specs.Prelude.{get_or}
use Rattle.std.proofs.lemmas.List.{append-nil, append_assoc, take_rest}
use Rattle.model_line.specs.declared.line.Line.{Line}
use Rattle.file_borders.specs.declared.loose.LooseFault.{LooseFault}
use Rattle.judge_times.specs.declared.stretch.Stretch.{Stretch}
use Rattle.call_times.specs.declared.found.Found.{Found}
use Rattle.call_times.specs.Question.{AreTold, Question, question_of}
use Rattle.call_times.specs.Rows.{stretch_rows}
use Rattle.call_times.specs.Times.{Adds, AtTerminal, AtTerminals, Both, IsNothing, OfFault, OfFaults, Telling}
use Rattle.call_times.specs.Times.{and_found, found_in, nothing}

-- nothing is told
pub adds_nothing : (old : List ℕ) (found : Found) → found ≡ nothing → Adds IsNothing old old found
adds_nothing old found is = record {
  rows = [];
  is = record { found_is = is; rows_is = refl };
  text = sym (append-nil old);
}

-- one thing, and then another
pub adds_both : (one other : Telling) (old middle new : List ℕ) (first second found : Found)
    → Adds one old middle first → Adds other middle new second → found ≡ and_found first second
    → Adds (Both one other) old new found
adds_both one other old middle new first second found a b is = record {
  rows = a.rows ++ b.rows;
  is = record {
    first_found = first;
    first_rows = a.rows;
    second_found = second;
    second_rows = b.rows;
    first = a.is;
    second = b.is;
    found_is = is;
    rows_is = refl;
  };
  text = b.text ∙ ap (λ (l : List ℕ). l ++ b.rows) a.text ∙ append_assoc old a.rows b.rows;
}

-- at one terminal more
pub adds_terminal : (line : Line) (loose : LooseFault) (k : ℕ) (old middle new : List ℕ)
    (first second found : Found) → Adds (AtTerminals line loose k) old middle first
    → Adds (AtTerminal line loose k) middle new second → found ≡ and_found first second
    → Adds (AtTerminals line loose (k + 1)) old new found
adds_terminal line loose k old middle new first second found a b is =
    let e : k + 1 ≡ suc k = omega arith in
    let P : ℕ → Type 0 = λ n. Adds (AtTerminals line loose n) old new found in
    subst P (sym e) (adds_both (AtTerminals line loose k) (AtTerminal line loose k)
    old middle new first second found a b is)

-- at a terminal
pub adds_stretches : (line : Line) (loose : LooseFault) (k : ℕ) (q : Question) (all : List Stretch)
    (old new : List ℕ) (found : Found) → q ≡ question_of line loose → AreTold q k all
    → new ≡ old ++ stretch_rows line loose k all → found ≡ found_in all
    → Adds (AtTerminal line loose k) old new found
adds_stretches line loose k q all old new found same told text is = record {
  rows = stretch_rows line loose k all;
  is = record {
    stretches = all;
    are = subst (λ (p : Question). AreTold p k all) same told;
    found_is = is;
    rows_is = refl;
  };
  text = text;
}

pub faults_none : (line : Line) (faults : List LooseFault) (old : List ℕ) (found : Found) → length faults < 1
    → found ≡ nothing → Adds (OfFaults line faults) old old found
faults_none line [] old found none is = adds_nothing old found is
faults_none line (loose ∷ more) old found none is = absurd (omega (arith, none))

-- of the first fault, and of those behind it
pub faults_more : (line : Line) (faults : List LooseFault) (loose : LooseFault) (old middle new : List ℕ)
    (first others found : Found) → 1 ≤ length faults → loose ≡ get_or faults 0 loose
    → Adds (OfFault line loose) old middle first
    → Adds (OfFaults line (take (length faults - 1) (drop 1 faults))) middle new others
    → found ≡ and_found first others → Adds (OfFaults line faults) old new found
faults_more line [] loose old middle new first others found some is one more found_is =
    absurd (omega (arith, some))
faults_more line (f ∷ fs) loose old middle new first others found some is one more found_is =
    let T : List LooseFault → Type 0 = λ l. Adds (OfFaults line l) middle new others in
    let R : LooseFault → Type 0 = λ l. Adds (OfFault line l) old middle first in
    adds_both (OfFault line f) (OfFaults line fs) old middle new first others found
    (subst R is one) (subst T (take_rest (f ∷ fs) 1) more) found_is
