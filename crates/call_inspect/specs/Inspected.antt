-- What is found in files, and what is said of it.
use Rattle.std.specs.Prelude.{◌≡◌, ⊤, ℕ, List, [], ◌∷◌, if◌then◌else◌, nat_lt}
use Rattle.std.specs.List.{concat}
use Rattle.call_answer.specs.declared.done.Done.{Done}
use Rattle.call_answer.specs.declared.done.Done.TheVariants as done
use Rattle.call_lint.specs.lint.Outcomes.{IsSaid, status_of}
use Rattle.call_lint.specs.declared.lint.linted.Outcome.{Outcome}
use Rattle.call_lint.specs.declared.lint.linted.Outcome.TheVariants.{Clean, Suspicious, Refused}
use Rattle.call_inspect.specs.{Found.IsFound, Given.content, Grounds.IsGround}
use Rattle.call_inspect.specs.declared.given.GivenFile.{GivenFile}
use Rattle.call_inspect.specs.declared.ground.Ground.{Ground}

-- the outcome with the greater status
abbrev pub worse : Outcome → Outcome → Outcome
worse a b = if nat_lt (status_of a) (status_of b) then b else a

-- the worst of these and another
unfoldable pub worst_from : Outcome → List Outcome → Outcome
worst_from worst [] = worst
worst_from worst (o ∷ os) = worst_from (worse worst o) os

-- this is found in each file, and said of it: of one in which nothing is found nothing, of one that is
-- refused one line that tells a place in it
unfoldable pub AreFound : Ground → List GivenFile → List Outcome → List (List ℕ) → Type 0
AreFound g [] [] [] = ⊤
AreFound g (f ∷ fs) (o ∷ os) (t ∷ ts) =
    IsFound g f o × IsSaid f.name.now (content f) o t × AreFound g fs os ts
AreFound g fs os ts = ⊥

-- the status 0, 2 or 3
abbrev pub done_by : Outcome → Done
done_by Clean = done.Good
done_by Suspicious = done.SomeUndecided
done_by Refused = done.Rejected

-- the status is that of the worst file, and the text is that of each file, in their order
pub record IsInspected (files : List GivenFile) (status : Done) (text : List ℕ) : Type 0 where
  pub ground : Ground
  pub against : IsGround files ground
  pub found : List Outcome
  pub texts : List (List ℕ)
  pub are : AreFound ground files found texts
  pub status_is : status ≡ done_by (worst_from Clean found)
  pub text_is : text ≡ concat texts
