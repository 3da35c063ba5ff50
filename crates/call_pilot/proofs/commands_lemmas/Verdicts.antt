-- What is found of verdicts, as more of them come.
use Rattle.std.proofs.Common.{◌≡◌, ◌||◌, List, [], ◌∷◌, ◌++◌, Bool, false, map, refl, sym, ap, ◌∙◌}
use Rattle.std.proofs.lemmas.List.{append-nil}
use Rattle.std.proofs.lemmas.List.Concat.{flat_map-append}
use Rattle.std.proofs.lemmas.List.Folds.{list_any-append}
use Rattle.std.specs.List.{flat_map, list_any}
use Rattle.cert_claims.specs.text.Grammar.{Verdict}
use Rattle.cert_claims.specs.check.Counts.{is_no, is_undecided}
use Rattle.call_pilot.specs.{commands.Verdicts.IsFoundOf, commands.Verdicts.verdicts_status}
use Rattle.call_answer.specs.Answers.{status_by}
use Rattle.call_pilot.specs.declared.commands.found.Found.{Found}

-- some image of an element is such
pub any_map : {X Y : Type 0} (p : Y → Bool) (f : X → Y) (xs : List X)
    → list_any (λ x. p (f x)) xs ≡ list_any p (map f xs)
any_map p f [] = refl
any_map p f (x ∷ xs) = ap (λ b. p (f x) || b) (any_map p f xs)

-- nothing is found of none
pub found_none : (found : Found) → found.some_no ≡ false → found.some_open ≡ false
    → IsFoundOf [] found
found_none found noes opens = record { no = noes; undecided = opens }

-- some of these verdicts or of those is such
either_any : (p : Verdict → Bool) (a b : List Verdict) (x y z : Bool) → z ≡ x || y
    → x ≡ list_any p a → y ≡ list_any p b → z ≡ list_any p (a ++ b)
either_any p a b x y z is in_a in_b =
    is ∙ ap (λ u. u || y) in_a ∙ ap (λ u. list_any p a || u) in_b ∙ sym (list_any-append p a b)

-- the verdicts of one thing more
verdicts_more : {X : Type 0} (verdicts : X → List Verdict) (xs : List X) (x : X)
    → flat_map verdicts (xs ++ x ∷ []) ≡ flat_map verdicts xs ++ verdicts x
verdicts_more verdicts xs x =
    flat_map-append verdicts xs (x ∷ []) ∙ ap (λ z. flat_map verdicts xs ++ z) (append-nil (verdicts x))

-- what is found of the verdicts of one thing more
pub found_more : {X : Type 0} (verdicts : X → List Verdict) (xs : List X) (x : X)
    (f g h : Found) → h.some_no ≡ f.some_no || g.some_no → h.some_open ≡ f.some_open || g.some_open
    → IsFoundOf (flat_map verdicts xs) f → IsFoundOf (verdicts x) g
    → IsFoundOf (flat_map verdicts (xs ++ x ∷ [])) h
found_more verdicts xs x f g h noes opens before more =
    rw (verdicts_more verdicts xs x) (record {
      no = either_any is_no (flat_map verdicts xs) (verdicts x) f.some_no g.some_no h.some_no noes
          before.no more.no;
      undecided = either_any is_undecided (flat_map verdicts xs) (verdicts x) f.some_open
          g.some_open h.some_open opens before.undecided more.undecided;
    })

-- the status that what is found gives
pub status_found : (verdicts : List Verdict) (found : Found) → IsFoundOf verdicts found
    → status_by found.some_no found.some_open ≡ verdicts_status verdicts
status_found verdicts found is =
    ap (λ b. status_by b found.some_open) is.no
    ∙ ap (status_by (list_any is_no verdicts)) is.undecided
