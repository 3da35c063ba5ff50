use Rattle.std.proofs.Common.{◌≡◌, ◌<◌, ℕ, Bool, List, Option, Some, length, sym, subst}
use Rattle.std.proofs.lemmas.Result.{IfOk-weaker}
use Rattle.std.specs.Prelude.{slice_get}
use Rattle.judge_report.specs.declared.upper_end.Lost.{Lost}
use Rattle.judge_margins.specs.declared.margins.ask.Ask.{Ask}
use Rattle.judge_margins.specs.margins.Asks.{AreAsks, AreTold}
use Rattle.judge_margins.specs.margins.Brackets.{AreBrackets, AreHalves, left_of}
use Rattle.judge_margins.proofs.margins_lemmas.BracketLaws.{asks_are, brackets_ordered, brackets_small}
use Rattle.judge_margins.proofs.margins_lemmas.BracketLaws.{halved, slot_told}
use Rattle.judge_margins.proofs.margins.narrow.narrower.Goals as goal

pub asked-requires-clause-ordered : goal.asked-requires-clause-ordered
asked-requires-clause-ordered c =
    brackets_ordered c.args.of.now c.args.ends.now c.args.brackets.now c.requires.brackets

pub asked-requires-clause-small : goal.asked-requires-clause-small
asked-requires-clause-small c =
    brackets_small c.args.of.now c.laws_below.ensures c.args.ends.now c.args.brackets.now
    c.requires.room c.requires.brackets

pub probe-requires-clause-asks : goal.probe-requires-clause-asks
probe-requires-clause-asks c =
    subst (λ (l : List Ask). AreAsks c.args.of.now.compiled.line.now l) (sym c.deref.ensures.value)
    (asks_are c.args.of.now c.args.ends.now c.args.whole c.args.brackets.now
    c.in_ok-slots.slots.asks.items c.requires.room c.requires.brackets c.in_ok-slots.ensures.asks)

pub halves-requires-clause-told : goal.halves-requires-clause-told
halves-requires-clause-told c place j at =
    let of = c.args.of.now in
    let asks = c.in_ok-slots.slots.asks.items in
    let told = c.in_ok-told.told.items in
    let tell : AreTold of asks told (length asks) =
    subst (λ (l : List Ask). AreTold of l told (length l)) c.deref.ensures.value
    c.in_ok-told.ensures in
    subst (λ (l : List (Option Lost)). j < length l) (sym c.deref-3.ensures.value)
    (slot_told of c.args.whole c.args.brackets.now c.in_ok-slots.slots.slots.items asks told
    c.in_ok-slots.ensures.slots tell place j
    (subst (λ (l : List (Option ℕ)). slice_get l place ≡ Some (Some j)) c.deref-2.ensures.value at))

pub halves-requires-clause-ordered : goal.halves-requires-clause-ordered
halves-requires-clause-ordered c =
    brackets_ordered c.args.of.now c.args.ends.now c.args.brackets.now c.requires.brackets

pub halves-requires-clause-small : goal.halves-requires-clause-small
halves-requires-clause-small c =
    brackets_small c.args.of.now c.laws_below.ensures c.args.ends.now c.args.brackets.now
    c.requires.room c.requires.brackets

pub returns : goal.returns
returns c =
    let of = c.args.of.now in
    let ends = c.args.ends.now in
    let whole : Bool = c.args.whole in
    let before = c.args.brackets.now in
    let slots = c.in_ok-slots.slots.slots.items in
    let asks = c.in_ok-slots.slots.asks.items in
    let told = c.in_ok-told.told.items in
    let tell : AreTold of asks told (length asks) =
    subst (λ (l : List Ask). AreTold of l told (length l)) c.deref.ensures.value
    c.in_ok-told.ensures in
    IfOk-weaker c.halves.result
    (λ after. AreHalves whole c.deref-2.result.now c.deref-3.result.now before after.items)
    (λ after. (width : ℕ) → AreBrackets of ends width before
    → AreBrackets of ends (left_of whole width) after.items)
    (λ after are width brackets.
    halved of ends whole width before after.items slots asks told brackets c.in_ok-slots.ensures.slots
    tell
    (subst (λ (l : List (Option ℕ)). AreHalves whole l told before after.items)
    c.deref-2.ensures.value
    (subst (λ (l : List (Option Lost)).
    AreHalves whole c.deref-2.result.now l before after.items) c.deref-3.ensures.value are)))
    c.halves.ensures
