-- A reason that is told of scripts is of one of them, and its choice inside.
use Rattle.std.proofs.Common.{ℕ, List, [], ◌∷◌, Option, subst, sym, ⊎_elim}
use Rattle.std.proofs.lemmas.Option.{slice_get_within}
use Rattle.std.specs.Prelude.{◌||◌, Bool}
use Rattle.model_line.specs.{declared.line.Line.Line, declared.script.Script.Script}
use Rattle.model_timing.specs.{Inside.IsTimingInside, NamedValues.NamedValues}
use Rattle.judge_settle.specs.declared.settle.answer.{Answer.Answer}
use Rattle.judge_settle.specs.declared.settle.answer.Answer.TheVariants.{Held, Fails, Open}
use Rattle.call_why.specs.declared.why.Found.{Found}
use Rattle.call_why.specs.Why.{IsFirst, IsNone, IsPlayable, IsReasonOf, IsTold, of_first}

inside_of : (line : Line) (script : Script) (k : ℕ) (answer : Answer) (named : NamedValues)
    (text : List ℕ) → IsReasonOf line script k answer named text → IsTimingInside line named.timing
inside_of line script k (Held nodes) named text is = absurd is
inside_of line script k (Fails timing every) named text is = is.is_cut.fails.inside
inside_of line script k (Open nodes) named text is = absurd is

pub playable : (line : Line) (terminal : Option ℕ) (scripts all : List Script) (unsettled : Bool)
    (found : Found) → of_first line terminal scripts unsettled (IsNone found) (IsTold all found)
    → IsPlayable line all found
playable line terminal [] all unsettled found is = subst (IsPlayable line all) (sym is) tt
playable line terminal (script ∷ more) all unsettled found is =
    ⊎_elim
    (λ one. let first : IsFirst line script terminal one.0 one.1.0 = one.1.1.0 in
    let told : IsTold all found script one.0 one.1.0 = one.1.1.1 in
    subst (IsPlayable line all) (sym told.is) (
      slice_get_within all told.place script told.at,
      subst (λ (named : NamedValues). IsTimingInside line named.timing) told.named_is
          (inside_of line script first.k first.one.answer one.0 one.1.0 first.reason),
    ))
    (λ none. playable line terminal more all (unsettled || none.0) found none.1.1)
    is
