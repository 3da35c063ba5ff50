-- What is found so far, one file on.
use Rattle.std.proofs.Common.{◌≡◌, ◌<◌, ◌≤◌, ◌+◌, ◌++◌, ℕ, List, [], ◌∷◌, get_or, length, refl, ap, ◌∙◌, subst, sym, take}
use Rattle.std.proofs.lemmas.List.{take_all, take_more}
use Rattle.std.specs.List.{concat}
use Rattle.std.proofs.lemmas.List.Folds.{concat-append}
use Rattle.std.proofs.lemmas.List.{append-nil}
use Rattle.call_answer.specs.declared.done.Done.{Done}
use Rattle.call_lint.specs.lint.Outcomes.{IsSaid}
use Rattle.call_lint.specs.declared.lint.linted.Outcome.{Outcome}
use Rattle.call_lint.specs.declared.lint.linted.Outcome.TheVariants.{Clean}
use Rattle.call_inspect.specs.{Found.IsFound, Given.content, Grounds.IsGround}
use Rattle.call_inspect.specs.Inspected.{AreFound, IsInspected, done_by, worse, worst_from}
use Rattle.call_inspect.specs.declared.given.GivenFile.{GivenFile}
use Rattle.call_inspect.specs.declared.ground.Ground.{Ground}

-- what is found in these files
pub record SoFar (g : Ground) (files : List GivenFile) (worst : Outcome) (text : List ℕ) : Type 0 where
  pub found : List Outcome
  pub texts : List (List ℕ)
  pub are : AreFound g files found texts
  pub worst_is : worst ≡ worst_from Clean found
  pub text_is : text ≡ concat texts

are_none : (g : Ground) → AreFound g [] [] []
unfolding AreFound
are_none g = tt

none_is_clean : Clean ≡ worst_from Clean []
unfolding worst_from
none_is_clean = refl

pub none_so_far : (g : Ground) → SoFar g [] Clean []
none_so_far g = record {
  found = [];
  texts = [];
  are = are_none g;
  worst_is = none_is_clean;
  text_is = refl;
}

one_more : (g : Ground) (fs : List GivenFile) (os : List Outcome) (ts : List (List ℕ))
    (f : GivenFile) (o : Outcome) (t : List ℕ) → AreFound g fs os ts → IsFound g f o
    → IsSaid f.name.now (content f) o t
    → AreFound g (fs ++ f ∷ []) (os ++ o ∷ []) (ts ++ t ∷ [])
unfolding AreFound
one_more g [] [] [] f o t are is said = (is, said, tt)
one_more g [] [] (x ∷ ts) f o t are is said = absurd are
one_more g [] (x ∷ os) ts f o t are is said = absurd are
one_more g (x ∷ fs) [] ts f o t are is said = absurd are
one_more g (x ∷ fs) (y ∷ os) [] f o t are is said = absurd are
one_more g (x ∷ fs) (y ∷ os) (z ∷ ts) f o t are is said =
    (are.0, are.1, one_more g fs os ts f o t are.2 is said)

worst_of_more : (w : Outcome) (os : List Outcome) (o : Outcome)
    → worst_from w (os ++ o ∷ []) ≡ worse (worst_from w os) o
unfolding worst_from
worst_of_more w [] o = refl
worst_of_more w (x ∷ os) o = worst_of_more (worse w x) os o

pub one_file_more : (g : Ground) (fs : List GivenFile) (f : GivenFile) (worst o : Outcome)
    (text t : List ℕ) → SoFar g fs worst text → IsFound g f o → IsSaid f.name.now (content f) o t
    → SoFar g (fs ++ f ∷ []) (worse worst o) (text ++ t)
one_file_more g fs f worst o text t so is said = record {
  found = so.found ++ o ∷ [];
  texts = so.texts ++ t ∷ [];
  are = one_more g fs so.found so.texts f o t so.are is said;
  worst_is = rw (so.worst_is) (sym (worst_of_more Clean so.found o));
  text_is = rw (so.text_is, concat-append so.texts (t ∷ []))
      (ap (λ (l : List ℕ). concat so.texts ++ l) (sym (append-nil t)));
}

pub one_file_on : (g : Ground) (fs : List GivenFile) (i : ℕ) (f : GivenFile) (worst o next : Outcome)
    (text t more : List ℕ) → i < length fs → f ≡ get_or fs i f → SoFar g (take i fs) worst text
    → IsFound g f o → IsSaid f.name.now (content f) o t → next ≡ worse worst o → more ≡ text ++ t
    → SoFar g (take (i + 1) fs) next more
one_file_on g fs i f worst o next text t more inside at so is said next_is more_is =
    let taken : take (i + 1) fs ≡ take i fs ++ f ∷ [] =
    take_more fs i f inside ∙ ap (λ (x : GivenFile). take i fs ++ x ∷ []) (sym at) in
    subst (λ (l : List GivenFile). SoFar g l next more) (sym taken)
    (rw (next_is, more_is) (one_file_more g (take i fs) f worst o text t so is said))

-- what is found in all files
pub all_found : (g : Ground) (fs : List GivenFile) (i : ℕ) (worst : Outcome) (text : List ℕ)
    (status : Done) → length fs ≤ i → IsGround fs g → SoFar g (take i fs) worst text
    → status ≡ done_by worst → IsInspected fs status text
all_found g fs i worst text status past against so status_is =
    let all = subst (λ (l : List GivenFile). SoFar g l worst text) (take_all i fs past) so in
    record {
      ground = g;
      against = against;
      found = all.found;
      texts = all.texts;
      are = all.are;
      status_is = status_is ∙ ap done_by all.worst_is;
      text_is = all.text_is;
    }
