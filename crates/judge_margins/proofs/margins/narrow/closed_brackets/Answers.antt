use Rattle.std.proofs.Common.{◌≡◌, ◌≤◌, ◌+◌, ℕ, List, Some, arith, sym, subst, true}
use Rattle.std.specs.Prelude.{slice_get}
use Rattle.judge_margins.specs.declared.margins.bracket.Bracket.{Bracket}
use Rattle.judge_margins.specs.margins.Brackets.{AreBrackets, AreBracketsOf, left_of}
use Rattle.judge_margins.proofs.margins_lemmas.BracketLaws.{as_wide, however_wide, opened_are}
use Rattle.judge_margins.proofs.margins.narrow.closed_brackets.Goals as goal

pub narrower-requires-clause-brackets : goal.narrower-requires-clause-brackets
narrower-requires-clause-brackets c =
    let of = c.args.of.now in
    let ends = c.args.ends.now in
    let brackets = c.in_ok-brackets.brackets.items in
    subst (λ (l : List Bracket). AreBracketsOf of ends l) (sym c.deref.ensures.value)
    (however_wide of ends 4000 brackets
    (opened_are of c.laws_below.ensures c.requires.group ends brackets c.requires.room
    c.in_ok-brackets.ensures))

pub halving-init : goal.halving-init
halving-init c =
    let of = c.args.of.now in
    let ends = c.args.ends.now in
    let brackets = c.in_ok-brackets.brackets.items in
    let after = c.in_ok-brackets-2.brackets.items in
    let width : ℕ = c.widest-width.result in
    as_wide of ends width after
    (however_wide of ends (left_of true 4000) after
    (c.in_ok-brackets-2.ensures 4000
    (subst (λ (l : List Bracket). AreBrackets of ends 4000 l) (sym c.deref.ensures.value)
    (opened_are of c.laws_below.ensures c.requires.group ends brackets c.requires.room
    c.in_ok-brackets.ensures))))
    (subst (λ (l : List Bracket).
    (place : ℕ) (b : Bracket) → slice_get l place ≡ Some b → b.far ≤ b.near + width)
    c.deref-2.ensures.value c.widest-width.ensures)

pub narrower-requires-in-halving-clause-brackets :
    goal.narrower-requires-in-halving-clause-brackets
narrower-requires-in-halving-clause-brackets c =
    let of = c.args.of.now in
    let ends = c.args.ends.now in
    subst (λ (l : List Bracket). AreBracketsOf of ends l) (sym c.deref-in-halving.ensures.value)
    (however_wide of ends c.halving.width c.halving.brackets.items c.halving.invariant)

pub halving-preserved : goal.halving-preserved
halving-preserved c =
    c.in_ok-brackets-3.ensures c.halving.width
    (subst (λ (l : List Bracket). AreBrackets c.args.of.now c.args.ends.now c.halving.width l)
    (sym c.deref-in-halving.ensures.value) c.halving.invariant)

pub returns : goal.returns
returns c =
    let none : c.halving.width ≡ 0 = omega (arith, c.halving-test.false) in
    subst (λ (n : ℕ). AreBrackets c.args.of.now c.args.ends.now n c.halving.brackets.items) none
    c.halving.invariant
