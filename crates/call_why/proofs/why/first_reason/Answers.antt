use Rattle.std.proofs.Common.{◌≡◌, ◌<◌, ◌+◌, ℕ, List, ◌∷◌, Some, length, get_or, drop, sym, ap, subst, inl, inr, add-one, suc, refl}
use Rattle.std.proofs.Math.Seq.{drop-cons}
use Rattle.std.proofs.lemmas.List.{drop_all}
use Rattle.std.proofs.lemmas.Option.{slice_get_read}
use Rattle.std.specs.Prelude.{◌||◌, Bool, false, slice_get}
use Rattle.model_line.specs.declared.script.Script.{Script}
use Rattle.model_timing.specs.NamedValues.{values_of}
use Rattle.call_why.specs.declared.why.Found.{Found}
use Rattle.call_why.specs.declared.why.Found.TheVariants.{Told, Quiet}
use Rattle.call_why.specs.declared.reasons.Reason.{Reason}
use Rattle.call_why.specs.Why.{IsFirst, IsInScript, IsNone, IsQuiet, IsTold, of_first}
use Rattle.call_why.proofs.FirstLaws.{playable}
use Rattle.call_why.proofs.why.first_reason.Goals as goal

-- what is left begins with the script at this place
left_at : (scripts : List Script) (i : ℕ) (x : Script) → i < length scripts → x ≡ get_or scripts i x
    → drop i scripts ≡ x ∷ drop (i + 1) scripts
left_at scripts i x less is =
    rw (add-one, drop-cons scripts i x less) (ap (λ (y : Script). y ∷ drop (suc i) scripts) (sym is))

pub loop-i-init : goal.loop-i-init
loop-i-init c = λ found so. so

pub loop-i-preserved : goal.loop-i-preserved
loop-i-preserved c = λ found so.
    let line = c.args.compiled.now.line.now in
    let scripts = c.args.scripts.now in
    let i : ℕ = c.loop-i.i in
    let script : Script = c.index-scripts-i.result in
    let quiet : IsQuiet line script c.args.terminal c.in-Quiet.left =
    subst (IsInScript line script c.args.terminal) c.in-Quiet.is c.in_ok-reason.ensures in
    let goes : of_first line c.args.terminal (drop (i + 1) scripts)
    (c.loop-i.unsettled || c.in-Quiet.left) (IsNone found) (IsTold scripts found) =
    subst (λ (b : Bool). of_first line c.args.terminal (drop (i + 1) scripts) b (IsNone found)
    (IsTold scripts found)) c.either-unsettled.ensures so in
    c.loop-i.invariant found
    (subst (λ (l : List Script). of_first line c.args.terminal l c.loop-i.unsettled (IsNone found)
    (IsTold scripts found))
    (sym (left_at scripts i script c.loop-i-test.true c.index-scripts-i.is))
    (inr (c.in-Quiet.left, (quiet, goes))))

pub returns-in-Fails-clause-found : goal.returns-in-Fails-clause-found
returns-in-Fails-clause-found c =
    let line = c.args.compiled.now.line.now in
    let scripts = c.args.scripts.now in
    let i : ℕ = c.loop-i.i in
    let script : Script = c.index-scripts-i.result in
    let reason : Reason = c.in-Fails.reason in
    let found : Found = Told i reason in
    let first : IsFirst line script c.args.terminal (values_of reason.named) reason.text.items =
    subst (IsInScript line script c.args.terminal) c.in-Fails.is c.in_ok-reason.ensures in
    let at : slice_get scripts i ≡ Some script =
    slice_get_read scripts (length scripts) i script refl c.loop-i-test.true c.index-scripts-i.is in
    let told : IsTold scripts found script (values_of reason.named) reason.text.items =
    record { place = i; reason = reason; is = refl; at = at; named_is = refl; text_is = refl } in
    c.loop-i.invariant found
    (subst (λ (l : List Script). of_first line c.args.terminal l c.loop-i.unsettled (IsNone found)
    (IsTold scripts found))
    (sym (left_at scripts i script c.loop-i-test.true c.index-scripts-i.is))
    (inl (values_of reason.named, (reason.text.items, (first, told)))))

pub returns-clause-found : goal.returns-clause-found
returns-clause-found c =
    let scripts = c.args.scripts.now in
    let line = c.args.compiled.now.line.now in
    let found : Found = Quiet c.loop-i.unsettled in
    c.loop-i.invariant found
    (subst (λ (l : List Script). of_first line c.args.terminal l c.loop-i.unsettled (IsNone found)
    (IsTold scripts found)) (sym (drop_all c.loop-i.i scripts c.loop-i-test.false)) refl)

pub returns-in-Fails-clause-playable : goal.returns-in-Fails-clause-playable
returns-in-Fails-clause-playable c =
    playable c.args.compiled.now.line.now c.args.terminal c.args.scripts.now c.args.scripts.now false
    (Told c.loop-i.i c.in-Fails.reason) (returns-in-Fails-clause-found c)
