use Rattle.std.proofs.Common.{◌≡◌, ◌++◌, sym, subst}
use Rattle.std.specs.Prelude.{IfOk}
use Rattle.std.specs.List.{filter}
use Rattle.run_step.specs.Shown.{is_shown_by}
use Rattle.run_changes.proofs.changes_lemmas.ShownListLaws.{ShowsNone, none_shown}
use Rattle.run_changes.proofs.changes.shown_by.list_shown.Goals as goal

pub returns-in-Const : goal.returns-in-Const
returns-in-Const c =
    none_shown c.args.gate.now c.args.all.now c.args.spans.now.items
    (subst ShowsNone (sym c.in-Const.is) tt)

pub returns-in-Raw : goal.returns-in-Raw
returns-in-Raw c =
    none_shown c.args.gate.now c.args.all.now c.args.spans.now.items
    (subst ShowsNone (sym c.in-Raw.is) tt)

pub returns-in-Not : goal.returns-in-Not
returns-in-Not c =
    none_shown c.args.gate.now c.args.all.now c.args.spans.now.items
    (subst ShowsNone (sym c.in-Not.is) tt)

pub returns-in-And : goal.returns-in-And
returns-in-And c =
    none_shown c.args.gate.now c.args.all.now c.args.spans.now.items
    (subst ShowsNone (sym c.in-And.is) tt)

pub returns-in-Or : goal.returns-in-Or
returns-in-Or c =
    none_shown c.args.gate.now c.args.all.now c.args.spans.now.items
    (subst ShowsNone (sym c.in-Or.is) tt)

pub returns-in-Timer : goal.returns-in-Timer
returns-in-Timer c =
    none_shown c.args.gate.now c.args.all.now c.args.spans.now.items
    (subst ShowsNone (sym c.in-Timer.is) tt)

pub returns-in-Seal : goal.returns-in-Seal
returns-in-Seal c =
    none_shown c.args.gate.now c.args.all.now c.args.spans.now.items
    (subst ShowsNone (sym c.in-Seal.is) tt)

pub returns-in-Seen : goal.returns-in-Seen
returns-in-Seen c =
    subst
    (λ g. IfOk c.list_of_place.result (λ _. c.list_of_place.new.spans.items
    ≡ c.args.spans.now.items ++ filter (is_shown_by g) c.args.all.now))
    (sym c.in-Seen.is) c.list_of_place.ensures

pub returns-in-Loss : goal.returns-in-Loss
returns-in-Loss c =
    subst
    (λ g. IfOk c.list_of_loss.result (λ _. c.list_of_loss.new.spans.items
    ≡ c.args.spans.now.items ++ filter (is_shown_by g) c.args.all.now))
    (sym c.in-Loss.is) c.list_of_loss.ensures
