-- What is seen of a fault whose times are fixed.
use Rattle.std.specs.Prelude.{◌+◌, ◌==◌, ◌&&◌, ℕ, Bool, List, [], ◌∷◌, nat_lt, if◌then◌else◌}
use Rattle.model_line.specs.{declared.script.SeenSpan.SeenSpan}
use Rattle.model_line.specs.contracts.script.WhatPartialEq.TheImpl.{eq-value as what_eq}
use Rattle.file_study.specs.declared.study.stage.Shown.{Shown}
use Rattle.file_study.specs.study.Faults.{StageValues}

-- the span goes on without a gap where the other one ends
abbrev pub goes_on : SeenSpan → SeenSpan → Bool
goes_on old new = what_eq.it old.what new.what && (old.to == new.from)

-- the spans with one more, which is joined to the first that it goes on
abbrev pub joined : SeenSpan → List SeenSpan → List SeenSpan
joined new [] = new ∷ []
joined new (old ∷ more) =
    if goes_on old new then record old { to = new.to } ∷ more else old ∷ joined new more

-- the spans with one more, which is joined to the first of them
abbrev pub joined_first : SeenSpan → List SeenSpan → List SeenSpan
joined_first new [] = new ∷ []
joined_first new (old ∷ more) = record old { to = new.to } ∷ more

-- What a stage shows lasts to its end. What would come only then is not seen.
abbrev pub stage_spans : ℕ → ℕ → List Shown → List SeenSpan → List SeenSpan
stage_spans begin lasts [] done = done
stage_spans begin lasts (s ∷ more) done =
    stage_spans begin lasts more
    (if nat_lt s.after lasts
    then joined (record { what = s.what; from = begin + s.after; to = begin + lasts }) done
    else done)

-- one stage after another, each of which lasts so long
abbrev pub spans_of : ℕ → List ℕ → List StageValues → List SeenSpan → List SeenSpan
spans_of begin [] stages done = done
spans_of begin (lasts ∷ more) [] done = done
spans_of begin (lasts ∷ more) (stage ∷ stages) done =
    spans_of (begin + lasts) more stages (stage_spans begin lasts stage.shows done)
