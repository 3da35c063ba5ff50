-- The furthest of the least moves, one need at a time.
use Rattle.std.proofs.Common.{◌≡◌, ◌≤◌, ◌<◌, ◌+◌, ℕ, List, Option, Some, None, ap, subst, length, arith}
use Rattle.std.proofs.Common.{⊎_elim}
use Rattle.std.specs.Prelude.{slice_get, ◌⊎◌}
use Rattle.judge_slacks.specs.{declared.lack.Lack.Lack, declared.lack.Need.Need, declared.lack.Short.Short}
use Rattle.model_line.specs.{declared.line.Line.Line, declared.script.Script.Script}
use Rattle.judge_report.specs.declared.upper_end.Lost.{Lost}
use Rattle.judge_margins.specs.declared.margins.end.Side.{Side}
use Rattle.judge_margins.specs.margins.Widened.{param_at, side_at}
use Rattle.judge_slacks.specs.Inward.{CanMoveIn}
use Rattle.judge_slacks.specs.Lacks.{AreDeep, AreLacks, AreNeeds, AreOff, IsFurthest, IsShort}
use Rattle.judge_slacks.specs.Lacks.{NoneIsHeld, need_with}
use Rattle.judge_slacks.proofs.MoveSpans.{before_or_here}

-- what stands at a place is one need
one_need : (needs : List Need) (n i : ℕ) (a b : Need) → slice_get needs n ≡ Some a → i ≡ n
    → slice_get needs i ≡ Some b → a ≡ b
one_need needs n i a b here is at =
    let there : slice_get needs n ≡ Some b =
    subst (λ (j : ℕ). slice_get needs j ≡ Some b) is at in cc

-- a need that no move holds changes nothing
none_before : (needs : List Need) (n : ℕ) (need : Need) → slice_get needs n ≡ Some need
    → need.by ≡ None → NoneIsHeld needs n → NoneIsHeld needs (n + 1)
none_before needs n need here none are i other lt at =
    ⊎_elim (λ early. are i other early at)
    (λ last. let same = one_need needs n i need other here last at in cc)
    (before_or_here i n lt)

none_behind : (needs : List Need) (n : ℕ) (need : Need) (short : Short)
    → slice_get needs n ≡ Some need → need.by ≡ None → IsFurthest needs n short
    → IsFurthest needs (n + 1) short
none_behind needs n need short here none is = record {
  place = is.place;
  within = let low = is.within in omega (arith, low);
  at = is.at;
  most = λ i m other lt at told.
      ⊎_elim (λ early. is.most i m other early at told)
      (λ last. let same = one_need needs n i need other here last at in absurd (cc))
      (before_or_here i n lt);
  first = is.first;
}

pub none_more : (needs : List Need) (n : ℕ) (need : Need) (short : Option Short)
    → slice_get needs n ≡ Some need → need.by ≡ None → IsShort needs n short
    → IsShort needs (n + 1) short
none_more needs n need None here none is = none_before needs n need here none is
none_more needs n need (Some short) here none is = none_behind needs n need short here none is

-- the first that some move holds
pub first_more : (needs : List Need) (n : ℕ) (new : Short) → slice_get needs n ≡ Some (need_with new)
    → NoneIsHeld needs n → IsFurthest needs (n + 1) new
first_more needs n new here none = record {
  place = n;
  within = omega arith;
  at = here;
  most = λ i m other lt at told.
      ⊎_elim (λ early. let no = none i other early at in absurd (cc))
      (λ last.
      let same = one_need needs n i (need_with new) other here last at in
      let equal : new.by ≡ m = cc in omega (arith, equal))
      (before_or_here i n lt);
  first = λ i m other lt at told. let no = none i other lt at in absurd (cc);
}

-- one that needs a further move
pub further_more : (needs : List Need) (n : ℕ) (old new : Short)
    → slice_get needs n ≡ Some (need_with new) → old.by < new.by → IsFurthest needs n old
    → IsFurthest needs (n + 1) new
further_more needs n old new here further is = record {
  place = n;
  within = omega arith;
  at = here;
  most = λ i m other lt at told.
      ⊎_elim (λ early. let most = is.most i m other early at told in omega (arith, most, further))
      (λ last.
      let same = one_need needs n i (need_with new) other here last at in
      let equal : new.by ≡ m = cc in omega (arith, equal))
      (before_or_here i n lt);
  first = λ i m other lt at told.
      let most = is.most i m other lt at told in omega (arith, most, further);
}

-- one that needs no further move
pub nearer_more : (needs : List Need) (n : ℕ) (old new : Short)
    → slice_get needs n ≡ Some (need_with new) → new.by ≤ old.by → IsFurthest needs n old
    → IsFurthest needs (n + 1) old
nearer_more needs n old new here nearer is = record {
  place = is.place;
  within = let low = is.within in omega (arith, low);
  at = is.at;
  most = λ i m other lt at told.
      ⊎_elim (λ early. is.most i m other early at told)
      (λ last.
      let same = one_need needs n i (need_with new) other here last at in
      let equal : new.by ≡ m = cc in omega (arith, equal, nearer))
      (before_or_here i n lt);
  first = is.first;
}

-- the need that is short by so much
pub with_move : (need : Need) (by : ℕ) → need.by ≡ Some by
    → need ≡ need_with (record { by = by; of = need.of })
with_move need by own =
    let with_by : Option ℕ → Need = λ b. record { of = need.of; by = b } in ap with_by own

-- an end can be moved by what it is short of
module _ (line : Line) (scripts : List Script) (others : List Lost) (off : AreOff line scripts others)
  where
    furthest_deep : (param : ℕ) (side : Side) (needs : List Need) (short : Short)
        → AreNeeds line scripts others param side (length others) needs
        → IsFurthest needs (length needs) short → CanMoveIn line param side short.by
    furthest_deep param side needs short are is =
        let own = are.each is.place (need_with short) is.at in
        let of = off is.place short.of own.of in (own.by of.script of.at).can

    pub lacks_deep : (lacks : List Lack) → AreLacks line scripts others lacks → AreDeep line lacks
    lacks_deep lacks are = record {
      each = λ place lack short at is.
          let own = are.each place lack at in
          furthest_deep (param_at place) (side_at place) own.needs short own.are
          (subst (λ (s : Option Short). IsShort own.needs (length own.needs) s) is own.short);
    }
